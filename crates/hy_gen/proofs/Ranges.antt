-- Lists over the numbers from one on, with one number more.
use Rattle.std.proofs.Common.{◌≡◌, ◌∙◌, ℕ, ◌+◌, ◌-◌, ◌≤◌, List, [], ◌∷◌, ◌++◌, map, sym, ap, arith, append_assoc}
use Rattle.std.specs.Prelude.{sum_by}
use Rattle.std.specs.List.{range_with_len, flat_map}
use Rattle.std.proofs.lemmas.List.{append-nil}
use Rattle.std.proofs.lemmas.List.Sums.{sum_by_push}
use Rattle.std.proofs.lemmas.List.FromFn.{map-range_with_len_more}
use Rattle.std.proofs.lemmas.Grind.{flat_map-append}

-- the numbers
pub range_more : (a n j : ℕ) → a + n ≡ j → range_with_len a (n + 1) ≡ range_with_len a n ++ j ∷ []
range_more a n j is = sym (map_all (range_with_len a (n + 1))) ∙ map-range_with_len_more (λ (k : ℕ). k) a n j is ∙ ap (λ (xs : List ℕ). xs ++ j ∷ []) (map_all (range_with_len a n))
  where
    map_all : (xs : List ℕ) → map (λ (k : ℕ). k) xs ≡ xs
    map_all [] = λ i. []
    map_all (x ∷ xs) = ap (λ (ys : List ℕ). x ∷ ys) (map_all xs)

-- a list of lists
pub flat_map_next : {X : Type 0} (f : ℕ → List X) (a n j : ℕ) → a + n ≡ j → flat_map f (range_with_len a (n + 1)) ≡ flat_map f (range_with_len a n) ++ f j
flat_map_next f a n j is =
    ap (flat_map f) (range_more a n j is) ∙ flat_map-append f (range_with_len a n) (j ∷ [])
    ∙ ap (λ xs. flat_map f (range_with_len a n) ++ xs) (append-nil (f j))

-- what a loop has added, with what one turn more adds
pub added_next : {X : Type 0} (f : ℕ → List X) (old before after : List X) (a i : ℕ) → before ≡ old ++ flat_map f (range_with_len a (i - a)) → after ≡ before ++ f i → a ≤ i
    → after ≡ old ++ flat_map f (range_with_len a (i + 1 - a))
added_next f old before after a i so step least =
    let later : i + 1 - a ≡ (i - a) + 1 = omega (arith, least) in
    step ∙ ap (λ xs. xs ++ f i) so ∙ append_assoc old (flat_map f (range_with_len a (i - a))) (f i)
    ∙ ap (λ xs. old ++ xs) (sym (flat_map_next f a (i - a) i (omega (arith, least)))) ∙ ap (λ (n : ℕ). old ++ flat_map f (range_with_len a n)) (sym later)

-- a sum
pub sum_next : (f : ℕ → ℕ) (a i : ℕ) → a ≤ i → sum_by f (range_with_len a (i + 1 - a)) ≡ sum_by f (range_with_len a (i - a)) + f i
sum_next f a i least =
    let later : i + 1 - a ≡ (i - a) + 1 = omega (arith, least) in
    ap (λ (n : ℕ). sum_by f (range_with_len a n)) later ∙ ap (sum_by f) (range_more a (i - a) i (omega (arith, least))) ∙ sum_by_push f (range_with_len a (i - a)) i
