use Rattle.std.proofs.Common.{sym, subst, ◌∙◌, arith}
use borrow.Author.Tests.{ltb-true}
use Rattle.hy_base.specs.Rows.{IsOrdered}
use Rattle.hy_mark.proofs.Writing.{before_last}
use Rattle.hy_mark.proofs.written.Written.ends_before.Goals as goal

pub returns-in-Some : goal.returns-in-Some
returns-in-Some c = λ t.
    let whole = sym c.self.view_is ∙ (sym c.as_slice.ensures ∙ c.in-Some.ensures.cases.0) in
    let ordered = subst IsOrdered (sym c.as_slice.ensures ∙ c.in-Some.ensures.cases.0) c.self.invariant in
    rw whole (before_last c.in-Some.field-0-1.now c.in-Some.last.now c.args.key ordered (omega (arith, ltb-true)))
