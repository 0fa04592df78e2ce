use Rattle.std.proofs.Common.{◌≡◌, drop}
use Rattle.hy_core.specs.CoreParts.{newest_upto}
use Rattle.hy_core.proofs.earlier.first_upto.Given as goal

abbrev pub invariant-loop-roller : goal.invariant-loop-roller
invariant-loop-roller l = newest_upto l.pos l.rollers ≡ newest_upto l.pos (drop l.roller-index l.rollers)
