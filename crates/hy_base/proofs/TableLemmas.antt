-- Keys of tables.
use Rattle.std.proofs.Common.{arith, ◌≡◌, ℕ, ◌+◌, ◌*◌, ◌<◌, ◌≤◌, ◌^◌, Bool, true, false, refl}
use Rattle.std.specs.Prelude.{◌&&◌, nat_le, nat_lt}
use Rattle.std.proofs.lemmas.Bool.{leb-true, ltb-true}
use Rattle.hy_base.specs.Tables.{is_table_key}

-- no key belongs to a table where there are none
pub no_table_key : (key : ℕ) → is_table_key 0 key ≡ false
no_table_key key = by (nat_le (2 ^ 56) key) (nat_lt key ((0 + 1) * 2 ^ 56)) refl refl
  where
    by : (a b : Bool) → nat_le (2 ^ 56) key ≡ a → nat_lt key ((0 + 1) * 2 ^ 56) ≡ b → (a && b) ≡ false
    by false b e f = refl
    by true false e f = refl
    by true true e f =
        let low : 2 ^ 56 ≤ key = leb-true (2 ^ 56) key e in
        let high : key < (0 + 1) * 2 ^ 56 = ltb-true key ((0 + 1) * 2 ^ 56) f in
        absurd (omega (arith, low, high))
