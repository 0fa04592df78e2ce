use Rattle.std.proofs.Common.{arith}
use Rattle.hy_base.proofs.ListLemmas.{all_none}
use Rattle.hy_mark.proofs.Writing.{left_first, right_first, both_first, after_first}
use Rattle.hy_mark.proofs.written.first_of.Goals as goal

pub returns-in-None-Some : goal.returns-in-None-Some
returns-in-None-Some c = λ a b. right_first _ _ _ _ c.in-None-Some.ensures'.cases.0 a b (all_none _ _ c.in-None-Some.ensures.cases)

pub returns-in-Some-None : goal.returns-in-Some-None
returns-in-Some-None c = λ a b. left_first _ _ _ _ c.in-Some-None.ensures.cases.0 a b (all_none _ _ c.in-Some-None.ensures'.cases)

pub returns-then-low-high : goal.returns-then-low-high
returns-then-low-high c = λ a b.
    let right = c.in-Some-Some.ensures'.cases.0 in
    left_first _ _ _ _ c.in-Some-Some.ensures.cases.0 a b (after_first c.in-Some-Some.low.now _ _ _ right b (omega arith))

pub returns-then-high-low : goal.returns-then-high-low
returns-then-high-low c = λ a b.
    let left = c.in-Some-Some.ensures.cases.0 in
    right_first _ _ _ _ c.in-Some-Some.ensures'.cases.0 a b (after_first c.in-Some-Some.high.now _ _ _ left a (omega arith))

pub returns-else-high-low : goal.returns-else-high-low
returns-else-high-low c = λ a b. both_first _ _ _ _ _ _ c.in-Some-Some.ensures.cases.0 c.in-Some-Some.ensures'.cases.0 (omega arith) a b
