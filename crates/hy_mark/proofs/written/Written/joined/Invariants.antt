use Rattle.std.proofs.Common.{◌+◌, length}
use Rattle.hy_mark.proofs.Writing.{Places}
use Rattle.hy_mark.proofs.written.Written.joined.Given as goal

abbrev pub invariant-loop-first : goal.invariant-loop-first
invariant-loop-first l = Places l.self l.other l.rows l.left l.right

abbrev pub decreases-loop-first : goal.decreases-loop-first
decreases-loop-first l = length l.left + length l.right
