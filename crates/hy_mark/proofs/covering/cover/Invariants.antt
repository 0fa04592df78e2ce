use Rattle.std.proofs.Common.{◌-◌}
use Rattle.hy_mark.proofs.Covers.{SoFar}
use Rattle.hy_mark.proofs.covering.cover.Given as goal

abbrev pub invariant-loop-next : goal.invariant-loop-next
invariant-loop-next l = SoFar l.fn.span.lo l.end l.next l.blocks

abbrev pub decreases-loop-next : goal.decreases-loop-next
decreases-loop-next l = l.end - l.next
