-- Texts of the items of a list, written one after the other.
use Rattle.std.proofs.Common.{◌≡◌, ℕ, zero, suc, ◌+◌, ◌<◌, ◌≤◌, arith, List, [], ◌∷◌, ◌++◌, length, drop, get_or, sym, ap, ◌∙◌, append_assoc, append-nil}
use Rattle.std.specs.Prelude.{flat_map}
use Rattle.std.specs.List.{enumerate_from}
use Rattle.std.proofs.lemmas.List.{drop_all}

-- the list past a place begins with the item there
past_place : {X : Type 0} (xs : List X) (n : ℕ) (d x : X) → n < length xs → x ≡ get_or xs n d → drop n xs ≡ x ∷ drop (suc n) xs
past_place [] n d x within is = absurd (omega (arith, within))
past_place (y ∷ ys) zero d x within is = ap (λ z. z ∷ ys) (sym is)
past_place (y ∷ ys) (suc n) d x within is = past_place ys n d x (omega (arith, within)) is

next_item : {X : Type 0} (xs : List X) (n : ℕ) (d x : X) → n < length xs → x ≡ get_or xs n d → drop n xs ≡ x ∷ drop (n + 1) xs
next_item xs n d x within is =
    let same : suc n ≡ n + 1 = omega arith in
    past_place xs n d x within is ∙ ap (λ m. x ∷ drop m xs) same

module _ {X : Type 0} (xs : List X) (n : ℕ) (start out : List ℕ) where
  -- the next item is written
  pub item_written : (f : X → List ℕ) (d x : X) (now : List ℕ) → n < length xs → x ≡ get_or xs n d → now ≡ out ++ f x → out ++ flat_map f (drop n xs) ≡ start → now ++ flat_map f (drop (n + 1) xs) ≡ start
  item_written f d x now within is wrote before =
      ap (λ o. o ++ flat_map f (drop (n + 1) xs)) wrote ∙ append_assoc out (f x) (flat_map f (drop (n + 1) xs)) ∙ ap (λ l. out ++ flat_map f l) (sym (next_item xs n d x within is)) ∙ before

  -- all are
  pub items_written : (f : X → List ℕ) → length xs ≤ n → out ++ flat_map f (drop n xs) ≡ start → out ≡ start
  items_written f ended before = sym (append-nil out) ∙ ap (λ l. out ++ flat_map f l) (sym (drop_all n xs ended)) ∙ before

  -- the same of items with their numbers
  pub numbered_written : (first : ℕ) (f : ℕ × X → List ℕ) (d x : X) (now : List ℕ) → n < length xs → x ≡ get_or xs n d → now ≡ out ++ f (n + first, x)
      → out ++ flat_map f (enumerate_from (n + first) (drop n xs)) ≡ start → now ++ flat_map f (enumerate_from (n + 1 + first) (drop (n + 1) xs)) ≡ start
  numbered_written first f d x now within is wrote before =
      let rest = flat_map f (enumerate_from (n + first + 1) (drop (n + 1) xs)) in
      let next : n + 1 + first ≡ n + first + 1 = omega arith in
      ap (λ p. now ++ flat_map f (enumerate_from p (drop (n + 1) xs))) next
      ∙ (ap (λ o. o ++ rest) wrote ∙ append_assoc out (f (n + first, x)) rest ∙ ap (λ l. out ++ flat_map f (enumerate_from (n + first) l)) (sym (next_item xs n d x within is)) ∙ before)

  pub all_numbered : (first : ℕ) (f : ℕ × X → List ℕ) → length xs ≤ n → out ++ flat_map f (enumerate_from (n + first) (drop n xs)) ≡ start → out ≡ start
  all_numbered first f ended before = sym (append-nil out) ∙ ap (λ l. out ++ flat_map f (enumerate_from (n + first) l)) (sym (drop_all n xs ended)) ∙ before
