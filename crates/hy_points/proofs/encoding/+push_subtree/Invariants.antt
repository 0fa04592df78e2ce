use Rattle.std.proofs.Common.{length}
use Rattle.hy_points.proofs.encoding.+push_subtree.Given as goal

-- a side of a fork has fewer rows than the whole
abbrev pub decreases-push_subtree : goal.decreases-push_subtree
decreases-push_subtree g l = length l.rows.now
