-- Words that are lent, one after another.
use Rattle.std.proofs.Common.{arith, ◌≡◌, ◌∙◌, ◌+◌, ◌<◌, ℕ, List, [], ◌∷◌, ◌++◌, Some, None, length, map, take, ap, sym}
use Rattle.std.specs.Prelude.{slice_get}
use Rattle.std.proofs.lemmas.List.{map-append, take_more}
use Rattle.std.proofs.lemmas.Option.{get_or_from_slice_get, slice_get-get_or, slice_get_within}

pub one_more : {A : Type 0} → {B : Type 0} → (f : A → B) (lent : List A) (a : A) (words : List B) (at : ℕ) → map f lent ≡ take at words → Some (f a) ≡ slice_get words at → map f (lent ++ a ∷ []) ≡ take (at + 1) words
one_more f lent a words at so_far here =
    let within = slice_get_within words at (f a) (sym here) in
    let last = get_or_from_slice_get words at (f a) (f a) (sym here) in
    let more = take_more words at (f a) within in
    map-append f lent (a ∷ []) ∙ ap (λ l. l ++ f a ∷ []) so_far ∙ ap (λ x. take at words ++ x ∷ []) (sym last) ∙ sym more

pub not_past : {B : Type 0} → (words : List B) (at : ℕ) → at < length words → None ≡ slice_get words at → ⊥
not_past [] at within none = absurd (omega (arith, within))
not_past (b ∷ bs) at within none = cc (slice_get-get_or (b ∷ bs) at b within, none)
