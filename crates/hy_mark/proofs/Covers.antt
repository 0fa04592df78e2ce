-- Blocks that cover a span from its first key on.
use Rattle.std.proofs.Common.{◌≡◌, ℕ, ◌+◌, ◌-◌, ◌%◌, ◌^◌, ◌<◌, ◌≤◌, ◌⊎◌, max, false, List, [], ◌∷◌, ◌++◌, length, length-append, inl, inr, refl, ap, ◌∙◌, arith}
use Rattle.std.specs.Prelude.{◌&&◌, ◌||◌, nat_le, nat_lt}
use Rattle.std.specs.List.{AllByRecursion, list_any}
use Rattle.std.proofs.lemmas.Bool.{cases_lt, cases_eq, lt-ltb, le-ltb, lt-leb, le-leb}
use Rattle.std.proofs.lemmas.Nat.{pow_pos}
use Rattle.std.proofs.Math.Nat.{pow-le-pow_right}
use Rattle.std.proofs.lemmas.List.Folds.{list_any-append}
use Rattle.hy_base.specs.declared.record.Span.{Span}
use Rattle.hy_base.specs.Entry.{is_in_span}
use Rattle.hy_base.proofs.ListLemmas.{all_append, all_map}
use Rattle.hy_mark.specs.Blocks.{IsBlock, AreApart}
use Rattle.hy_mark.proofs.Widths.{Widest, power_up, aligned_less, aligned_up, next_aligned, at_least}

-- the blocks so far are no more than the bits that the next key has free
abbrev pub IsRising : ℕ → ℕ → Type 0
IsRising next count = (bits : ℕ) × (bits ≤ 63) × (next % 2 ^ bits ≡ 0) × (count ≤ bits)

-- the rest of the span is smaller than the blocks that may begin at the next key, and the more blocks there are the smaller it is
abbrev pub IsFalling : ℕ → ℕ → ℕ → Type 0
IsFalling next end count = (bits : ℕ) × (next % 2 ^ bits ≡ 0) × (end < next + 2 ^ bits) × (count + bits ≤ 128)

-- these blocks cover the keys from `lo` to `next`, and end in order
pub record SoFar (lo end next : ℕ) (blocks : List Span) : Type 0 where
  pub from : lo ≤ next
  pub upto : next ≤ max lo end
  pub few : length blocks ≤ 128
  pub still_few : next < end → IsRising next (length blocks) ⊎ IsFalling next end (length blocks)
  pub each : AllByRecursion IsBlock blocks
  pub apart : AreApart blocks
  pub ended : AllByRecursion (λ b. b.hi < next) blocks
  pub union : (key : ℕ) → list_any (is_in_span key) blocks ≡ (nat_le lo key && nat_lt key next)

apart_append : (xs : List Span) (y : Span) → AreApart xs → AllByRecursion (λ b. b.hi < y.lo) xs → AreApart (xs ++ y ∷ [])
apart_append [] y a b = (tt, tt)
apart_append (x ∷ xs) y a b = (all_append _ xs (y ∷ []) a.0 (b.0, tt), apart_append xs y a.1 b.1)

-- the keys of what is covered, and those of the next block
union_step : (lo next size key : ℕ) (b : Span) → b.lo ≡ next → b.hi + 1 ≡ next + size → lo ≤ next → 0 < size
    → ((nat_le lo key && nat_lt key next) || (is_in_span key b || false)) ≡ (nat_le lo key && nat_lt key (next + size))
union_step lo next size key b first last from some =
    elim (cases_lt key lo) [
      | inl below ↦ rw (lt-leb lo key below, lt-leb b.lo key (omega arith)) refl
      | inr above ↦
          rw (le-leb lo key above)
          (elim (cases_lt key next) [
            | inl old ↦ rw (lt-ltb key next old, lt-ltb key (next + size) (omega arith)) refl
            | inr later ↦
                rw (le-ltb key next later, le-leb b.lo key (omega arith))
                (elim (cases_lt key (next + size)) [
                  | inl within ↦ rw (lt-ltb key (next + size) within, le-leb key b.hi (omega arith)) refl
                  | inr past ↦ rw (le-ltb key (next + size) past, lt-leb key b.hi (omega arith)) refl
                ])
          ])
    ]

-- the blocks stay few
still_few : (next end bits count : ℕ) → next < end → end ≤ 2 ^ 64 → Widest next end bits → IsRising next count ⊎ IsFalling next end count
    → (count + 1 ≤ 128) × (next + 2 ^ bits < end → IsRising (next + 2 ^ bits) (count + 1) ⊎ IsFalling (next + 2 ^ bits) end (count + 1))
still_few next end bits count some fits w (inl r) = (
  omega (arith, r.1, r.3),
  λ more.
      elim (cases_eq (next % 2 ^ (bits + 1)) 0) [
        | inl even ↦
            let less = w.widest even in
            inr (bits, next_aligned next bits w.aligned, omega (arith, less, power_up bits), omega (arith, r.1, r.3, w.small))
        | inr odd ↦
            let aligned = aligned_up next bits w.aligned odd in
            let high : bits + 1 ≤ 63 =
            elim (cases_lt 63 (bits + 1)) [
              | inl h ↦ absurd (omega (arith, at_least (next + 2 ^ bits) (bits + 1) (omega (arith, pow_pos bits)) aligned, pow-le-pow_right {n = 2} (omega arith) {i = 64} {j = bits + 1} (omega arith), more, fits))
              | inr h ↦ h
            ] in
            let low : r.0 ≤ bits =
            elim (cases_lt bits r.0) [
              | inl h ↦ absurd (odd (aligned_less next (bits + 1) r.0 (omega arith) r.2))
              | inr h ↦ h
            ] in
            inl (bits + 1, high, aligned, omega (arith, r.3, low))
      ],
)
still_few next end bits count some fits w (inr f) =
    let less : bits < f.0 =
    elim (cases_lt bits f.0) [
      | inl h ↦ h
      | inr h ↦ absurd (omega (arith, w.within, f.2, pow-le-pow_right {n = 2} (omega arith) {i = f.0} {j = bits} h))
    ] in
    let next_less = w.widest (aligned_less next (bits + 1) f.0 (omega arith) f.1) in (
      omega (arith, f.3, less),
      λ more. inr (bits, next_aligned next bits w.aligned, omega (arith, next_less, power_up bits), omega (arith, f.3, less)),
    )

pub covers_more : {lo end next bits : ℕ} {blocks : List Span} (b : Span) → SoFar lo end next blocks → next < end → end ≤ 2 ^ 64 → Widest next end bits → b ≡ record { lo = next; hi = next + 2 ^ bits - 1 } → SoFar lo end (next + 2 ^ bits) (blocks ++ b ∷ [])
covers_more {lo} {end} {next} {bits} {blocks} b s some fits w is =
    let first : b.lo ≡ next = ap (λ (c : Span). c.lo) is in
    let hi : b.hi ≡ next + 2 ^ bits - 1 = ap (λ (c : Span). c.hi) is in
    let power = pow_pos bits in
    let last : b.hi + 1 ≡ next + 2 ^ bits = omega arith in
    let count : length (blocks ++ b ∷ []) ≡ length blocks + 1 = omega (arith, length-append blocks (b ∷ [])) in
    let few = still_few next end bits (length blocks) some fits w (s.still_few some) in
    record {
      from = omega (arith, s.from);
      upto = omega (arith, w.within);
      few = rw count few.0;
      still_few = λ more. rw count (few.1 more);
      each = all_append IsBlock blocks (b ∷ []) s.each (record { bits = bits; aligned = rw first w.aligned; size = rw first last }, tt);
      apart = apart_append blocks b s.apart (all_map _ (λ (c : Span). c.hi < b.lo) (λ c h. omega arith) blocks s.ended);
      ended = all_append (λ (c : Span). c.hi < next + 2 ^ bits) blocks (b ∷ []) (all_map _ (λ (c : Span). c.hi < next + 2 ^ bits) (λ c h. omega arith) blocks s.ended) (omega arith, tt);
      union = λ key. list_any-append (is_in_span key) blocks (b ∷ []) ∙ (ap (λ v. v || (is_in_span key b || false)) (s.union key) ∙ union_step lo next (2 ^ bits) key b first last s.from power);
    }
