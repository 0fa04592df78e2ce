-- What is given of a piece is what the device gives there.
use Rattle.std.proofs.Common.{◌≡◌, ◌∙◌, ℕ, ◌+◌, ◌-◌, ◌≤◌, Bool, List, ◌++◌, length, take, drop, sym, ap, subst, arith, inl, inr, length-take, length-drop}
use Rattle.std.specs.Prelude.{min, Option, Some, IsTrue, IfSome, IsSomeAnd}
use Rattle.std.proofs.lemmas.Bool.{cases_lt}
use Rattle.std.proofs.lemmas.List.{drop-drop, drop-take, take-take}
use Rattle.hy_disk.specs.Content.{read_into}
use Rattle.hy_readahead.specs.declared.piece.Held.{Held}
use Rattle.hy_readahead.specs.Pieces.{IsHeld, Reaches}

pub record AreGiven (seen bytes : List ℕ) (from place len n : ℕ) : Type 0 where
  pub count : n ≡ min len (length seen - place)
  pub bytes_are : take n (drop from bytes) ≡ take n (drop place seen)

pub given : (seen bytes : List ℕ) (start held place len n : ℕ) → start ≤ place → place + len ≤ start + length bytes → held ≡ length (take (length bytes) (drop start seen)) → take held bytes ≡ take (length bytes) (drop start seen)
    → n ≡ min len (held - (place - start)) → AreGiven seen bytes (place - start) place len n
given seen bytes start held place len n low high count same is =
    let from : ℕ = place - start in
    let rest : List ℕ = drop start seen in
    let size : ℕ = length bytes in
    let at : start + from ≡ place = omega (arith, low) in
    let there : drop from rest ≡ drop place seen = drop-drop from start seen ∙ ap (λ k. drop k seen) at in
    let within : held ≡ min size (length rest) = count ∙ length-take size rest in
    record {
      count = omega (arith, is, within, length-drop start seen, low, high);
      bytes_are = elim (cases_lt held from) [
        | inl past ↦
            let none : n ≡ 0 = omega (arith, is, past) in
            ap (λ k. take k (drop from bytes)) none ∙ sym (ap (λ k. take k (drop place seen)) none)
        | inr upto ↦
            let few : from + n ≤ held = omega (arith, is, upto) in
            let whole : held ≤ size = omega (arith, within) in
            sym (drop-take from n bytes)
            ∙ (ap (drop from) (sym (take-take (from + n) held bytes few) ∙ (ap (take (from + n)) same ∙ take-take (from + n) size rest (omega (arith, few, whole))))
            ∙ (drop-take from n rest ∙ ap (take n) there))
      ];
    }

-- of the bytes that a piece holds
pub given_of : (tells : Bool) (seen bytes : List ℕ) (o : Option Held) (held : Held) (place len n : ℕ) → o ≡ Some held → IfSome o (IsHeld tells seen bytes) → IsTrue tells → IsSomeAnd o (Reaches place len (length bytes))
    → n ≡ min len (held.count - (place - held.place)) → AreGiven seen bytes (place - held.place) place len n
given_of tells seen bytes o held place len n at is tell covers count =
    let right : IsHeld tells seen bytes held = subst (λ q. IfSome q (IsHeld tells seen bytes)) at is in
    let reaches : Reaches place len (length bytes) held = subst (λ q. IsSomeAnd q (Reaches place len (length bytes))) at covers in
    let told = right.1 tell in
    given seen bytes held.place held.count place len n reaches.0 reaches.1 told.0 told.1 count

pub into_is : (seen bytes old new : List ℕ) (from place n : ℕ) → AreGiven seen bytes from place (length old) n → new ≡ take n (drop from bytes) → (n ≡ min (length old) (length seen - place)) × (new ++ drop n old ≡ read_into seen place old)
into_is seen bytes old new from place n are is =
    (are.count, ap (λ xs. xs ++ drop n old) (is ∙ are.bytes_are) ∙ ap (λ k. take k (drop place seen) ++ drop k old) are.count)
