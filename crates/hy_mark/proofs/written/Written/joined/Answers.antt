use Rattle.hy_mark.specs.Orders.{IsFirstRow}
use Rattle.hy_base.proofs.RowLemmas.{ordered_applied}
use Rattle.hy_mark.proofs.Writing.{places_all}
use Rattle.hy_mark.proofs.written.Written.joined.Goals as goal

first : (c : goal.After-right-1) → IsFirstRow c.loop-first.left.now c.loop-first.right.now c.in-Some.first.row.now c.in-Some.first.left.now c.in-Some.first.right.now
first c = c.in-Some.ensures c.loop-first.invariant.left_ordered c.loop-first.invariant.right_ordered

pub loop-first-smaller : goal.loop-first-smaller
loop-first-smaller c = (first c).shorter

pub invariant_of-result : goal.invariant_of-result
invariant_of-result c =
    let all = places_all c.loop-first.invariant c.in_default.ensures.0 c.in_default.ensures.1 in
    rw all (ordered_applied c.args.self.now c.args.other.now c.as_slice-left.ensures.ordered)
