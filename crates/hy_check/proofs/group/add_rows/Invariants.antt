use Rattle.std.proofs.Common.{◌≡◌, ◌++◌, drop}
use Rattle.hy_base.specs.Rows.{rows_at}
use Rattle.hy_check.proofs.group.add_rows.Given as goal

-- what was added so far and the rows of the writes that are left are all that is to be added
abbrev pub invariant-loop-write : goal.invariant-loop-write
invariant-loop-write l = l.rows.items ++ rows_at l.pos (drop l.write-index l.writes) ≡ l.initial.rows.items ++ rows_at l.pos l.writes
