use Rattle.hy_mark.specs.Orders.{IsFirstBlock}
use Rattle.hy_mark.proofs.Ordering.{joins_more, ordered_rest}
use Rattle.hy_mark.proofs.pairs.MarkList.joined.Goals as goal

first : (c : goal.After-right-1) → IsFirstBlock c.loop-first.left.now c.loop-first.right.now c.in-Some.first.mark c.in-Some.first.left.now c.in-Some.first.right.now
first c =
    let i = c.loop-first.invariant in
    c.in-Some.ensures (ordered_rest c.loop-first.marks _ i.left_ordered) (ordered_rest c.loop-first.marks _ i.right_ordered)

pub loop-first-smaller : goal.loop-first-smaller
loop-first-smaller c = (first c).shorter

pub loop-first-preserved : goal.loop-first-preserved
loop-first-preserved c = rw c.in_ok-push.ensures.ok (joins_more c.in-Some.first.mark c.loop-first.invariant (first c))
