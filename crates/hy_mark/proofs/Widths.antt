-- Multiples of powers of two.
use Rattle.std.proofs.Common.{◌≡◌, ℕ, zero, suc, ◌+◌, ◌-◌, ◌*◌, ◌/◌, ◌%◌, ◌^◌, ◌<◌, ◌≤◌, sym, ◌∙◌, refl, arith, add-one, mod-eq_of_lt, min, inl, inr}
use Rattle.std.proofs.lemmas.Bool.{cases_lt, cases_eq}
use Rattle.std.proofs.lemmas.Nat.{pow_pos, mod-pow-add}
use Rattle.std.proofs.lemmas.Nat.Bits.{bit_at-trailing_zeros}
use Rattle.std.specs.Int.{w128}
use Rattle.std.specs.Int.Count.{count_trailing_zeros, trailing_of_zero}
use Rattle.std.proofs.Math.Pow.{mod-mod-pow}
use Rattle.std.proofs.Math.Nat.{two-pow-succ, pow-le-pow_right, add-mod_right, add-div_right}

pub power_up : (b : ℕ) → 2 ^ (b + 1) ≡ 2 * 2 ^ b
power_up b = rw add-one (omega (arith, two-pow-succ b))

-- a power in a sum that fits
pub small_power : (b c : ℕ) → 2 ^ b ≤ 2 ^ c → b ≤ c
small_power b c le =
    elim (cases_lt c b) [
      | inl h ↦ absurd (omega (arith, le, pow_pos c, power_up c, pow-le-pow_right {n = 2} (omega arith) {i = c + 1} {j = b} (omega arith)))
      | inr h ↦ h
    ]

pub aligned_less : (n b t : ℕ) → b ≤ t → n % 2 ^ t ≡ 0 → n % 2 ^ b ≡ 0
aligned_less n b t le e =
    let split : t ≡ (t - b) + b = omega arith in
    let whole : n % 2 ^ ((t - b) + b) ≡ 0 = rw (sym split) e in
    sym (mod-mod-pow n (t - b) b) ∙ (rw whole (zero_mod b))
  where
    zero_mod : (b : ℕ) → 0 % 2 ^ b ≡ 0
    zero_mod b = omega (arith, pow_pos b)

one_more : (n t : ℕ) → n % 2 ^ (t + 1) ≡ (n / 2 ^ t % 2) * 2 ^ t + n % 2 ^ t
one_more n t = let turn : t + 1 ≡ 1 + t = omega arith in rw turn (mod-pow-add n 1 t)

pub aligned_to : (n t : ℕ) → ((i : ℕ) → i < t → n / 2 ^ i % 2 ≡ 0) → n % 2 ^ t ≡ 0
aligned_to n zero low = omega arith
aligned_to n (suc t) low =
    let before = aligned_to n t (λ i lt. low i (omega arith)) in
    let bit : n / 2 ^ t % 2 ≡ 0 = low t (omega arith) in
    let turn : suc t ≡ t + 1 = omega arith in
    rw (turn, one_more n t, bit, before) (omega arith)

pub not_aligned : (n t : ℕ) → n / 2 ^ t % 2 ≡ 1 → n % 2 ^ (t + 1) ≡ 0 → ⊥
not_aligned n t bit e =
    let sum : n % 2 ^ (t + 1) ≡ 1 * 2 ^ t + n % 2 ^ t = rw (one_more n t, bit) refl in
    omega (arith, sum, e, pow_pos t)

-- the next multiple of a power of two
pub next_aligned : (n b : ℕ) → n % 2 ^ b ≡ 0 → (n + 2 ^ b) % 2 ^ b ≡ 0
next_aligned n b e = add-mod_right n (2 ^ b) ∙ e

-- behind an odd multiple stands an even one
pub aligned_up : (n b : ℕ) → n % 2 ^ b ≡ 0 → (n % 2 ^ (b + 1) ≡ 0 → ⊥) → (n + 2 ^ b) % 2 ^ (b + 1) ≡ 0
aligned_up n b e odd =
    let next : (n + 2 ^ b) / 2 ^ b ≡ n / 2 ^ b + 1 = add-div_right n (pow_pos b) in
    let bit : n / 2 ^ b % 2 ≡ 1 =
    elim (cases_eq (n / 2 ^ b % 2) 0) [
      | inl z ↦ absurd (odd (rw (one_more n b, z, e) (omega arith)))
      | inr z ↦ omega arith
    ] in
    let even : (n / 2 ^ b + 1) % 2 ≡ 0 = omega arith in
    rw (one_more (n + 2 ^ b) b, next, even, next_aligned n b e) (omega arith)

pub at_least : (n b : ℕ) → 0 < n → n % 2 ^ b ≡ 0 → 2 ^ b ≤ n
at_least n b some e =
    elim (cases_lt n (2 ^ b)) [
      | inl less ↦ let same : n % 2 ^ b ≡ n = mod-eq_of_lt less in absurd (omega arith)
      | inr more ↦ more
    ]

-- how wide the widest block is that begins at a key and ends in time
pub record Widest (first end bits : ℕ) : Type 0 where
  pub aligned : first % 2 ^ bits ≡ 0
  pub within : first + 2 ^ bits ≤ end
  pub small : bits ≤ 64
  pub widest : first % 2 ^ (bits + 1) ≡ 0 → end < first + 2 ^ (bits + 1)

pub widest_of : (first end low bits : ℕ) → first < end → end ≤ 2 ^ 64 → bits ≡ min (count_trailing_zeros 128 first) low → 2 ^ low ≤ end - first → end - first < 2 * 2 ^ low → low < 128 → Widest first end bits
widest_of first end low bits some fits is power next less =
    let le : bits ≤ low = omega arith in
    let power_le : 2 ^ bits ≤ 2 ^ low = pow-le-pow_right {n = 2} (omega arith) {i = bits} {j = low} le in
    let small : bits ≤ 64 = small_power bits 64 (omega arith) in
    elim (cases_eq first 0) [
      | inl none ↦
          let all : count_trailing_zeros 128 first ≡ 128 = rw none (trailing_of_zero 128) in
          let same : bits ≡ low = omega arith in
          record {
            aligned = rw none (omega (arith, pow_pos bits));
            within = omega arith;
            small = small;
            widest = λ e. rw (power_up bits, same) (omega arith);
          }
      | inr some_bit ↦
          let b = bit_at-trailing_zeros w128 first (omega arith) (omega arith) in
          let aligned = aligned_less first bits (count_trailing_zeros 128 first) (omega arith) (aligned_to first (count_trailing_zeros 128 first) b.2) in
          elim (cases_lt low (count_trailing_zeros 128 first)) [
            | inl lower ↦
                let same : bits ≡ low = omega arith in
                record { aligned = aligned; within = omega arith; small = small; widest = λ e. rw (power_up bits, same) (omega arith) }
            | inr upper ↦
                let same : bits ≡ count_trailing_zeros 128 first = omega arith in
                record { aligned = aligned; within = omega arith; small = small; widest = λ e. absurd (not_aligned first (count_trailing_zeros 128 first) b.1 (rw (sym same) e)) }
          ]
    ]

-- a shift keeps its one bit
pub shifted : (b : ℕ) → b ≤ 64 → 1 * 2 ^ b % 340282366920938463463374607431768211456 ≡ 2 ^ b
shifted b small =
    let less : 1 * 2 ^ b < 340282366920938463463374607431768211456 = omega (arith, pow-le-pow_right {n = 2} (omega arith) {i = b} {j = 64} small) in
    mod-eq_of_lt less ∙ omega arith
