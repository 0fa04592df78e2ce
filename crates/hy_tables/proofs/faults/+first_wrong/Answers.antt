use Rattle.hy_rules.specs.History.{pairs_of}
use Rattle.hy_tables.proofs.Walks.{all_above, all_below, left_below, left_first, right_above, right_next}
use Rattle.hy_tables.proofs.faults.+first_wrong.Goals as goal

pub returns-then-prefix-low : goal.returns-then-prefix-low
returns-then-prefix-low g t c = all_below (pairs_of c.args.tree.now) c.args.keys c.args.part.now c.in-Fork.left.now c.in-Fork.right.now c.in-Fork.bit c.in-Fork.prefix c.in-Fork.ensures.seen c.if-prefix-low.true

pub returns-then-high-prefix : goal.returns-then-high-prefix
returns-then-high-prefix g t c = all_above (pairs_of c.args.tree.now) c.args.keys c.args.part.now c.in-Fork.left.now c.in-Fork.right.now c.in-Fork.bit c.in-Fork.prefix c.in-Fork.ensures.seen c.if-high-prefix.true

pub returns-then-high-prefix-2 : goal.returns-then-high-prefix-2
returns-then-high-prefix-2 g t c = right_above (pairs_of c.args.tree.now) c.args.keys c.args.part.now c.in-Fork.left.now c.in-Fork.right.now c.in-Fork.bit c.in-Fork.prefix c.in-Fork.ensures.seen c.first_wrong.result c.if-high-prefix-2.true c.first_wrong.ensures

pub returns-then-prefix-low-2 : goal.returns-then-prefix-low-2
returns-then-prefix-low-2 g t c = left_below (pairs_of c.args.tree.now) c.args.keys c.args.part.now c.in-Fork.left.now c.in-Fork.right.now c.in-Fork.bit c.in-Fork.prefix c.in-Fork.ensures.seen c.first_wrong-then-prefix-low-2.result c.if-prefix-low-2.true c.first_wrong-then-prefix-low-2.ensures

pub returns-in-Some : goal.returns-in-Some
returns-in-Some g t c = left_first (pairs_of c.args.tree.now) c.args.keys c.args.part.now c.in-Fork.left.now c.in-Fork.right.now c.in-Fork.bit c.in-Fork.prefix c.in-Fork.ensures.seen c.in-Some.key c.in-Some.ensures

pub returns-in-None : goal.returns-in-None
returns-in-None g t c = right_next (pairs_of c.args.tree.now) c.args.keys c.args.part.now c.in-Fork.left.now c.in-Fork.right.now c.in-Fork.bit c.in-Fork.prefix c.in-Fork.ensures.seen c.first_wrong-in-None.result c.in-None.ensures c.first_wrong-in-None.ensures
