use Rattle.std.proofs.Common.{length}
use Rattle.hy_check.proofs.conflicts.+first_in_span.Given as goal

abbrev pub decreases-first_in_span : goal.decreases-first_in_span
decreases-first_in_span g l = length l.tree.now
