use Rattle.std.proofs.Common.{◌+◌, length}
use Rattle.hy_mark.proofs.Ordering.{MarksJoin}
use Rattle.hy_mark.proofs.pairs.MarkList.joined.Given as goal

abbrev pub invariant-loop-first : goal.invariant-loop-first
invariant-loop-first l = MarksJoin l.self l.other l.marks l.left l.right

abbrev pub decreases-loop-first : goal.decreases-loop-first
decreases-loop-first l = length l.left + length l.right
