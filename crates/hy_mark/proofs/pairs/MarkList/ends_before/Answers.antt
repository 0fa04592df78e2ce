use Rattle.std.proofs.Common.{sym, subst, ◌∙◌}
use Rattle.hy_mark.specs.Orders.{AreOrdered}
use Rattle.hy_mark.proofs.Ordering.{past_all}
use Rattle.hy_mark.proofs.pairs.MarkList.ends_before.Goals as goal

pub returns-in-Some : goal.returns-in-Some
returns-in-Some c = λ t.
    let whole = sym c.self.view_is ∙ (sym c.as_slice.ensures ∙ c.in-Some.ensures.cases.0) in
    let ordered = subst AreOrdered (sym c.as_slice.ensures ∙ c.in-Some.ensures.cases.0) c.self.invariant.ordered in
    rw whole (past_all c.in-Some.field-0-1.now c.in-Some.last.now c.args.block ordered (sym c.is_before.ensures ∙ t))
