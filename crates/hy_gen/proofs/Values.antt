-- The values that programs put are values.
use Rattle.std.proofs.Common.{◌≡◌, ℕ, ◌<◌, ◌≤◌, ◌^◌, true, ◌∷◌, length, arith, ◌&&◌, lit<}
use Rattle.std.specs.Prelude.{decimal, nat_le}
use Rattle.std.specs.List.{list_all}
use Rattle.std.proofs.lemmas.Fmt.{decimal_by_steps, length-decimal-le}
use Rattle.std.proofs.lemmas.Bool.{and_from}
use Rattle.hy_base.specs.Value.{is_printable, IsValue}
use Rattle.hy_base.proofs.ValueLemmas.{one_printable, more_printable}

pub letter_and_number : (n : ℕ) → n < 2 ^ 64 → IsValue (118 ∷ decimal n)
letter_and_number n small =
    let at_most : length (decimal n) ≤ 20 = length-decimal-le 20 n (lit< tt) (omega arith) small in
    let one : nat_le 1 (length (118 ∷ decimal n)) ≡ true = grind arith in
    let few : nat_le (length (118 ∷ decimal n)) 256 ≡ true = grind (arith, at_most) in
    let printable : list_all is_printable (118 ∷ decimal n) ≡ true = decimal_by_steps (λ m ds. list_all is_printable ds ≡ true) one_printable more_printable n small in
    and_from (nat_le 1 (length (118 ∷ decimal n))) (nat_le (length (118 ∷ decimal n)) 256 && list_all is_printable (118 ∷ decimal n)) one
    (and_from (nat_le (length (118 ∷ decimal n)) 256) (list_all is_printable (118 ∷ decimal n)) few printable)
