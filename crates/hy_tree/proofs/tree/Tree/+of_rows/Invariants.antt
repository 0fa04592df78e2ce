use Rattle.std.proofs.Common.{length}
use Rattle.hy_tree.proofs.tree.Tree.+of_rows.Given as goal

abbrev pub decreases-of_rows : goal.decreases-of_rows
decreases-of_rows l = length l.rows.now
