use Rattle.std.proofs.Common.{sym, ◌∙◌}
use Rattle.std.proofs.lemmas.Bool.{false≢true}
use Rattle.hy_base.proofs.ListLemmas.{all_none}
use Rattle.hy_mark.proofs.Ordering.{first_left, first_right, first_both, before_all, same_block}
use Rattle.hy_mark.proofs.pairs.first_of.Goals as goal

pub returns-in-None-Some : goal.returns-in-None-Some
returns-in-None-Some c = λ a b. first_right _ _ _ _ c.in-None-Some.ensures'.cases.0 (all_none _ _ c.in-None-Some.ensures.cases)

pub returns-in-Some-None : goal.returns-in-Some-None
returns-in-Some-None c = λ a b. first_left _ _ _ _ c.in-Some-None.ensures.cases.0 (all_none _ _ c.in-Some-None.ensures'.cases)

pub returns-then-is_before : goal.returns-then-is_before
returns-then-is_before c = λ a b.
    first_left c.in-Some-Some.field-0-0-0.now _ _ _ c.in-Some-Some.ensures.cases.0 (before_all c.in-Some-Some.field-0-0-0.now _ _ _ c.in-Some-Some.ensures'.cases.0 b (sym c.is_before.ensures ∙ c.if-is_before.true))

pub returns-then-is_before-2 : goal.returns-then-is_before-2
returns-then-is_before-2 c = λ a b.
    first_right c.in-Some-Some.field-0-0-1.now _ _ _ c.in-Some-Some.ensures'.cases.0 (before_all c.in-Some-Some.field-0-0-1.now _ _ _ c.in-Some-Some.ensures.cases.0 a (sym c.is_before-else-is_before.ensures ∙ c.if-is_before-2.true))

pub returns-else-is_before-2 : goal.returns-else-is_before-2
returns-else-is_before-2 c = λ a b.
    rw c.min-dependency.ensures
    (first_both c.in-Some-Some.field-0-0-0.now c.in-Some-Some.field-0-0-1.now _ _ _ _ c.in-Some-Some.ensures.cases.0 c.in-Some-Some.ensures'.cases.0
    (same_block c.in-Some-Some.field-0-0-0.now.block c.in-Some-Some.field-0-0-1.now.block (λ t. absurd (false≢true (sym c.if-is_before.false ∙ (c.is_before.ensures ∙ t)))) (λ t. absurd (false≢true (sym c.if-is_before-2.false ∙ (c.is_before-else-is_before.ensures ∙ t))))))
