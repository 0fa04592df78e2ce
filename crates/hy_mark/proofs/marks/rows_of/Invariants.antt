use Rattle.std.proofs.Common.{◌≡◌, take}
use Rattle.hy_base.specs.Rows.{rows_at, newest}
use Rattle.hy_mark.proofs.marks.rows_of.Given as goal

abbrev pub invariant-loop-write : goal.invariant-loop-write
invariant-loop-write l = l.rows ≡ newest (rows_at l.pos (take l.write-index l.writes))
