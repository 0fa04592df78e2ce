use Rattle.std.proofs.Common.{◌≤◌, length}
use Rattle.hy_roller.proofs.verdicts.count_larger.Given as goal

abbrev pub invariant-loop-last : goal.invariant-loop-last
invariant-loop-last l = length l.front ≤ length l.fn.blocks

abbrev pub decreases-loop-last : goal.decreases-loop-last
decreases-loop-last l = length l.front
