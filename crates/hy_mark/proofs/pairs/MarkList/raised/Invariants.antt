use Rattle.std.proofs.Common.{◌≡◌, take}
use Rattle.std.specs.Prelude.{map}
use Rattle.hy_mark.proofs.Deps.{raise}
use Rattle.hy_mark.proofs.pairs.MarkList.raised.Given as goal

abbrev pub invariant-loop-block : goal.invariant-loop-block
invariant-loop-block l = l.marks ≡ map (raise l.base) (take l.block-index l.self)
