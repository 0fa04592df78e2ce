-- Rows in order, cut where their keys come to have the highest bit in which they differ.
use Rattle.std.proofs.Common.{◌≡◌, ℕ, zero, suc, ◌+◌, ◌-◌, ◌*◌, ◌/◌, ◌^◌, ◌<◌, ◌≤◌, true, false, leb, List, [], ◌∷◌, ◌++◌, length, get_or, take, drop, ap, ◌∙◌, refl, arith, inl, inr, length-append}
use Rattle.std.specs.Int.Bits.{bit_xor}
use Rattle.std.specs.List.{AllWithin}
use Rattle.std.specs.List.Sorted.{IsNonDecreasingBy, IsPartitionPoint}
use Rattle.std.proofs.lemmas.Bool.{cases_lt, leb-true, leb-false}
use Rattle.std.proofs.lemmas.Nat.{pow_pos}
use Rattle.hy_base.specs.declared.record.Row.{Row}
use Rattle.hy_base.specs.Rows.{Each, IsOrdered}
use Rattle.hy_tree.specs.TreeRows.{CanFork}
use Rattle.hy_tree.proofs.Bits.{parted, within_power, same_power}
use Rattle.hy_tree.proofs.Blocks.{ordered_left, ordered_right}
use Rattle.hy_tree.proofs.Putting.{div_le, keys_part}

-- ---- the highest bit in which two keys differ

pub xor_some : (k n : ℕ) → k < n → n < 2 ^ 64 → 0 < bit_xor k n
xor_some k n lt fits =
    let p = keys_part k n lt fits in
    omega (arith, pow_pos p.bit, (within_power _ p.bit (parted k n p.bit p.prefix p.left p.right)).0)

-- at this bit the one key has what the other hasn't, and above it they are alike
pub record IsCut (bit k n : ℕ) : Type 0 where
  pub prefix : ℕ
  pub fits : bit < 64
  pub left : k / 2 ^ bit ≡ 2 * prefix
  pub right : n / 2 ^ bit ≡ 2 * prefix + 1

pub cut_at : (k n bit : ℕ) → k < n → n < 2 ^ 64 → 2 ^ bit ≤ bit_xor k n → bit_xor k n < 2 * 2 ^ bit → IsCut bit k n
cut_at k n bit lt fits low high =
    let p = keys_part k n lt fits in
    let w = within_power _ p.bit (parted k n p.bit p.prefix p.left p.right) in
    let same : bit ≡ p.bit = same_power _ bit p.bit low high w.0 w.1 in
    rw same (record { prefix = p.prefix; fits = p.low_bit; left = p.left; right = p.right })

-- ---- rows by their places

pub each_at : (P : Row → Type 0) (xs : List Row) (i : ℕ) (d : Row) → Each P xs → i < length xs → P (get_or xs i d)
each_at P [] i d a lt = absurd (omega arith)
each_at P (x ∷ xs) zero d a lt = a.0
each_at P (x ∷ xs) (suc i) d a lt = each_at P xs i d a.1 (omega arith)

key_less : (xs : List Row) (i j : ℕ) (d e : Row) → IsOrdered xs → i < j → j < length xs → (get_or xs i d).key < (get_or xs j e).key
key_less [] i j d e o lt within = absurd (omega arith)
key_less (x ∷ xs) i zero d e o lt within = absurd (omega arith)
key_less (x ∷ xs) zero (suc j) d e o lt within = each_at (λ y. x.key < y.key) xs j e o.0 (omega arith)
key_less (x ∷ xs) (suc i) (suc j) d e o lt within = key_less xs i j d e o.1 (omega arith) (omega arith)

get_same : (xs : List Row) (i : ℕ) (d e : Row) → i < length xs → get_or xs i d ≡ get_or xs i e
get_same [] i d e lt = absurd (omega arith)
get_same (x ∷ xs) zero d e lt = refl
get_same (x ∷ xs) (suc i) d e lt = get_same xs i d e (omega arith)

pub key_rise : (xs : List Row) (i j : ℕ) (d e : Row) → IsOrdered xs → i ≤ j → j < length xs → (get_or xs i d).key ≤ (get_or xs j e).key
key_rise xs i j d e o le within =
    elim (cases_lt i j) [
      | inl h ↦ omega (arith, key_less xs i j d e o h within)
      | inr h ↦ let at : i ≡ j = omega arith in omega (arith, ap (λ (n : ℕ). (get_or xs n d).key) at, ap (λ (r : Row). r.key) (get_same xs j d e within))
    ]

pub each_take : (P : Row → Type 0) (xs : List Row) (i : ℕ) → AllWithin P xs 0 i → i ≤ length xs → Each P (take i xs)
each_take P xs zero h le = tt
each_take P [] (suc i) h le = absurd (omega arith)
each_take P (x ∷ xs) (suc i) h le = (h 0 x (omega arith) (omega arith), each_take P xs i (λ k d low lt. h (suc k) d (omega arith) (omega arith)) (omega arith))

pub each_drop : (P : Row → Type 0) (xs : List Row) (i : ℕ) → AllWithin P xs i (length xs) → Each P (drop i xs)
each_drop P [] zero h = tt
each_drop P (x ∷ xs) zero h = (h 0 x (omega arith) (omega arith), each_drop P xs zero (λ k d low lt. h (suc k) d (omega arith) (omega arith)))
each_drop P [] (suc i) h = tt
each_drop P (x ∷ xs) (suc i) h = each_drop P xs i (λ k d low lt. h (suc k) d (omega arith) (omega arith))

-- ---- the cut

-- what the keys have from the bit on rises
pub rising : (bit : ℕ) (xs : List Row) → IsOrdered xs → IsNonDecreasingBy (λ (r : Row). r.key / 2 ^ bit) xs
rising bit xs o = λ i j d le within. div_le _ _ bit (key_rise xs i j d d o le within)

-- the first and the last key, and how many are no greater from the bit on than the first
pub record AreEnds (bit : ℕ) (xs : List Row) (x y : Row) (i : ℕ) : Type 0 where
  pub ordered : IsOrdered xs
  pub several : 1 < length xs
  pub first : x ≡ get_or xs 0 x
  pub last : y ≡ get_or xs (length xs - 1) y
  pub cut : IsCut bit x.key y.key
  pub within : i ≤ length xs
  pub point : IsPartitionPoint (λ (r : Row). leb (r.key / 2 ^ bit) (x.key / 2 ^ bit) ≡ true) (λ (r : Row). leb (r.key / 2 ^ bit) (x.key / 2 ^ bit) ≡ false) xs i

module _ {bit : ℕ} {xs : List Row} {x y : Row} {i : ℕ} (s : AreEnds bit xs x y i) where
  from_first : (k : ℕ) (d : Row) → k < length xs → x.key / 2 ^ bit ≤ (get_or xs k d).key / 2 ^ bit
  from_first k d lt = div_le _ _ bit (omega (arith, ap (λ (r : Row). r.key) s.first, key_rise xs 0 k x d s.ordered (omega arith) lt))

  to_last : (k : ℕ) (d : Row) → k < length xs → (get_or xs k d).key / 2 ^ bit ≤ y.key / 2 ^ bit
  to_last k d lt = div_le _ _ bit (omega (arith, ap (λ (r : Row). r.key) s.last, key_rise xs k (length xs - 1) d y s.ordered (omega arith) (omega (arith, s.several))))

  some_left : 0 < i
  some_left =
      elim (cases_lt 0 i) [
        | inl h ↦ h
        | inr h ↦
            let none = leb-false _ _ (s.point.1 0 x (omega arith) (omega (arith, s.several))) in
            absurd (omega (arith, none, ap (λ (r : Row). r.key / 2 ^ bit) s.first))
      ]

  some_right : i < length xs
  some_right =
      elim (cases_lt i (length xs)) [
        | inl h ↦ h
        | inr h ↦
            let low = leb-true _ _ (s.point.0 (length xs - 1) y (omega arith) (omega (arith, s.several))) in
            absurd (omega (arith, low, ap (λ (r : Row). r.key / 2 ^ bit) s.last, s.cut.left, s.cut.right))
      ]

  pub is_fork : (ls rs : List Row) → ls ≡ take i xs → rs ≡ drop i xs → length ls ≡ i → length rs + i ≡ length xs → CanFork ls rs
  is_fork ls rs el er nl nr = (
    bit,
    s.cut.prefix,
    record {
      bit_fits = s.cut.fits;
      left_some = omega (arith, some_left);
      right_some = omega (arith, some_right);
      left_in = rw el (each_take _ xs i (λ k d low lt. omega (arith, s.within, from_first k d (omega (arith, s.within)), leb-true _ _ (s.point.0 k d low lt), s.cut.left)) s.within);
      right_in = rw er (each_drop _ xs i (λ k d low lt. omega (arith, to_last k d lt, leb-false _ _ (s.point.1 k d low lt), s.cut.left, s.cut.right)));
    },
  )

-- the keys at both ends of several rows
pub ends_differ : (xs : List Row) (x y : Row) → IsOrdered xs → 1 < length xs → x ≡ get_or xs 0 x → y ≡ get_or xs (length xs - 1) y → x.key < y.key
ends_differ xs x y o several first last =
    omega (arith, ap (λ (r : Row). r.key) first, ap (λ (r : Row). r.key) last, key_less xs 0 (length xs - 1) x y o (omega arith) (omega arith))

-- ---- each side by itself

module _ (rows ls rs : List Row) (whole : rows ≡ ls ++ rs) (fork : CanFork ls rs) where
  lengths : length rows ≡ length ls + length rs
  lengths = ap length whole ∙ length-append ls rs

  pub left_shorter : length ls < length rows
  left_shorter = omega (arith, lengths, fork.2.right_some)

  pub right_shorter : length rs < length rows
  right_shorter = omega (arith, lengths, fork.2.left_some)

  pub left_ordered : IsOrdered rows → IsOrdered ls
  left_ordered o = ordered_left ls rs (rw whole at o)

  pub right_ordered : IsOrdered rows → IsOrdered rs
  right_ordered o = ordered_right ls rs (rw whole at o)
