use Rattle.std.proofs.Common.{subst, sym, rules}
use Rattle.hy_disk.specs.Content.{Content, Image}
use Rattle.hy_disk.proofs.Seen.{seen_written}
use Rattle.hy_mem.specs.MemDisk.{content_of}
use Rattle.hy_mem.proofs.Growing.{elapses-written}
use Rattle.hy_mem.proofs.memory.MemDiskDisk.write_at.Goals as goal

pub invariant_of-self-2 : goal.invariant_of-self-2
invariant_of-self-2 c =
    let disk = c.args.self.now in
    record {
      stays = subst (λ (k : Content). Image k k.seen) (sym c.write.ensures.content) (seen_written (content_of disk) c.args.place c.args.bytes.now disk.stays);
      reserved = search rules;
    }

pub returns-clause-time : goal.returns-clause-time
returns-clause-time c =
    let disk = c.args.self.now in
    let new = c.write.new.self in
    elapses-written disk.store.before new.before (content_of disk) new.content c.args.place c.args.bytes.now c.write.ensures.content c.write.ensures.before
