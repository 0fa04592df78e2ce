use Rattle.std.proofs.Common.{◌≡◌, ◌++◌, drop}
use Rattle.hy_core.proofs.copies.copy_ids.Given as goal

-- the copies so far, and the numbers that are left
abbrev pub invariant-loop-id : goal.invariant-loop-id
invariant-loop-id l = l.copy ++ drop l.id-index l.ids ≡ l.ids
