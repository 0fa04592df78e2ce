use Rattle.std.proofs.Common.{◌≡◌}
use Rattle.hy_base.specs.Rows.{applied}
use Rattle.hy_check.proofs.fold.with_rows.Given as goal

-- the tree so far, with the rows that are left
abbrev pub invariant-loop-row : goal.invariant-loop-row
invariant-loop-row l = applied l.tree l.row-iterator.rest.items ≡ applied l.fn.tree l.fn.rows.items
