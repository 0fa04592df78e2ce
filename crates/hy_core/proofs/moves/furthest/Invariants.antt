use Rattle.std.proofs.Common.{◌≡◌, drop}
use Rattle.hy_core.specs.CoreParts.{furthest}
use Rattle.hy_core.proofs.moves.furthest.Given as goal

-- what is the furthest of all is that of the best so far and those that are left
abbrev pub invariant-loop-roller : goal.invariant-loop-roller
invariant-loop-roller l = furthest l.upto l.best (drop l.roller-index l.rollers) ≡ furthest l.upto l.own l.rollers
