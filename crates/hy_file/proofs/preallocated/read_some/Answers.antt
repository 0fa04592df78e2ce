use Rattle.std.proofs.Common.{◌∙◌, ℕ, List, Option, Some, None, sym}
use Rattle.std.specs.Io.KnownBytes.{Consumes, Keeps}
use Rattle.std.proofs.KnownBytes.{Keeps-refl, Keeps-trans}
use Rattle.hy_file.proofs.preallocated.read_some.Goals as goal

-- what is read after tries that took nothing
kept_then : (old mid new : Option (List ℕ)) (bytes : List ℕ) → Keeps old mid → Consumes mid new bytes → Consumes old new bytes
kept_then None mid new bytes kept read = tt
kept_then (Some x) None new bytes kept read = absurd kept
kept_then (Some x) (Some y) None bytes kept read = absurd read
kept_then (Some x) (Some y) (Some z) bytes kept read = sym kept ∙ read

pub loop-init : goal.loop-init
loop-init g c = Keeps-refl (g.F.Read.remaining c.args.file.now)

pub loop-preserved : goal.loop-preserved
loop-preserved g c = Keeps-trans (g.F.Read.remaining c.args.file.now) (g.F.Read.remaining c.loop.file) (g.F.Read.remaining c.read.new.self) c.loop.invariant c.in-Err.ensures.bytes

pub returns-in-Ok-clause-bound : goal.returns-in-Ok-clause-bound
returns-in-Ok-clause-bound g c = c.in-Ok.ensures.bound

pub returns-in-Ok-clause-bytes : goal.returns-in-Ok-clause-bytes
returns-in-Ok-clause-bytes g c = kept_then (g.F.Read.remaining c.args.file.now) (g.F.Read.remaining c.loop.file) (g.F.Read.remaining c.read.new.self) _ c.loop.invariant c.in-Ok.ensures.bytes.0

pub returns-in-Ok-clause-end : goal.returns-in-Ok-clause-end
returns-in-Ok-clause-end g c = c.in-Ok.ensures.bytes.1
