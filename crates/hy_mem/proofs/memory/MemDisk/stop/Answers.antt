use Rattle.std.proofs.Common.{List, ℕ, ap, subst, sym}
use Rattle.hy_disk.specs.Content.{Content, Image}
use Rattle.hy_disk.proofs.Seen.{stopped_is_image}
use Rattle.hy_mem.specs.MemDisk.{content_of}
use Rattle.hy_mem.proofs.memory.MemDisk.stop.Goals as goal

pub returns-clause-image : goal.returns-clause-image
returns-clause-image c =
    let disk = c.args.self in
    let is = stopped_is_image c.args.pattern (content_of disk) disk.stays in
    subst (λ (l : List ℕ). Image (content_of disk) l) (sym (ap (λ (k : Content). k.seen) c.stop.ensures.content)) is
