use Rattle.std.proofs.Common.{◌≡◌, [], ◌++◌, map, take, drop}
use Rattle.hy_core.proofs.earlier.clear_all.Given as goal

-- the lists up to a place are empty
abbrev pub invariant-loop-at : goal.invariant-loop-at
invariant-loop-at l = l.earlier.items ≡ map (λ older. []) (take l.at l.fn.earlier.items) ++ drop l.at l.fn.earlier.items
