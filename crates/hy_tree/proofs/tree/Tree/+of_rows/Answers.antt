use Rattle.std.proofs.Common.{arith}
use Rattle.hy_tree.proofs.Halves.{left_shorter, right_shorter, left_ordered, right_ordered}
use Rattle.hy_tree.proofs.tree.Tree.+of_rows.Goals as goal

pub of_rows-requires : goal.of_rows-requires
of_rows-requires t c =
    let whole = c.halves.ensures.whole in
    let fork = c.halves.ensures.fork in
    (omega (arith, left_shorter _ _ _ whole fork, c.decreases), left_ordered _ _ _ whole fork c.requires)

pub of_rows-requires-in_default : goal.of_rows-requires-in_default
of_rows-requires-in_default t c =
    let whole = c.halves.ensures.whole in
    let fork = c.halves.ensures.fork in
    (omega (arith, right_shorter _ _ _ whole fork, c.decreases), right_ordered _ _ _ whole fork c.requires)
