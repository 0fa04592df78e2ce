-- What is known of the keys that pass a test.
use Rattle.std.proofs.Common.{◌≡◌, ℕ, ◌+◌, ◌<◌, Bool, true, false, List, Some, length, take, get_or, refl, sym, ap, ◌∙◌, arith}
use Rattle.std.specs.Prelude.{◌||◌}
use Rattle.std.specs.List.{list_any}
use Rattle.std.proofs.lemmas.List.Folds.{list_any_more}
use Rattle.hy_base.specs.Marks.{lesser}
use Rattle.hy_base.proofs.MarkLemmas.{lesser_comm}
use Rattle.hy_mark.specs.Orders.{known_if}

pub known_or : (d : ℕ) (a b : Bool) → lesser (known_if d b) (known_if d a) ≡ known_if d (a || b)
known_or d true true = ap Some (omega arith)
known_or d true false = refl
known_or d false true = refl
known_or d false false = refl

-- one more item of a loop
pub known_more : {X : Type 0} (p : X → Bool) (xs : List X) (i : ℕ) (x : X) (d : ℕ) → i < length xs
    → lesser (known_if d (p (get_or xs i x))) (known_if d (list_any p (take i xs))) ≡ known_if d (list_any p (take (i + 1) xs))
known_more p xs i x d lt = known_or d (list_any p (take i xs)) (p (get_or xs i x)) ∙ ap (known_if d) (sym (list_any_more p xs i x lt))

pub known_next : {X : Type 0} (p : X → Bool) (xs : List X) (i : ℕ) (x : X) (d : ℕ) → i < length xs
    → lesser (known_if d (list_any p (take i xs))) (known_if d (p (get_or xs i x))) ≡ known_if d (list_any p (take (i + 1) xs))
known_next p xs i x d lt = lesser_comm (known_if d (list_any p (take i xs))) (known_if d (p (get_or xs i x))) ∙ known_more p xs i x d lt
