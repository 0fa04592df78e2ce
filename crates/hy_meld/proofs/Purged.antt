-- Taking out tombstones at or below a line: where there are none, at a row, and at a fork, and what it costs.
use Rattle.std.proofs.Common.{◌≡◌, ◌⊎◌, ℕ, ◌+◌, ◌*◌, ◌/◌, ◌^◌, ◌<◌, ◌≤◌, true, false, List, [], ◌∷◌, ◌++◌, length, Option, Some, None, refl, sym, ap, ◌∙◌, subst, arith, inl, inr, length-append}
use Rattle.std.specs.Prelude.{is_some, min}
use Rattle.std.proofs.lemmas.Bool.{cases_Bool, cases_eq, cases_lt, eq-eqb, ne_eqb}
use Rattle.std.proofs.lemmas.List.{append-nil}
use Rattle.std.proofs.Math.Nat.{mul-le-mul_right}
use Rattle.hy_base.specs.declared.record.Row.{Row}
use Rattle.hy_base.specs.Rows.{Each, AreDeletedAfterStart, is_purgeable, IsPurgeable, purged}
use Rattle.hy_base.proofs.EachLemmas.{Each-map, Each-left, Each-right}
use Rattle.hy_base.proofs.PurgeLemmas.{purgeable_is, purgeable_test, purged-append, Each-purged}
use Rattle.hy_tree.specs.TreeRows.{InBlock, IsFork, CanFork, lesser_writer, deleted_by, least_deletion}
use Rattle.hy_tree.proofs.Blocks.{fork_bit_low}
use Rattle.hy_meld.specs.Purges.{count_purgeable, IsPurgedPart, AreJoined}

-- ---- no tombstone at or below the line

value_cases : {X : Type 0} (o : Option X) → (o ≡ None) ⊎ (is_some o ≡ true)
value_cases None = inl refl
value_cases (Some x) = inr refl

-- the lesser of two, where 0 stands for none, is at or below the line exactly where one of them is
lesser_past : (line a b : ℕ) → (lesser_writer a b ≡ 0) ⊎ (line < lesser_writer a b) → ((a ≡ 0) ⊎ (line < a)) × ((b ≡ 0) ⊎ (line < b))
lesser_past line a b h =
    elim (cases_eq a 0) [
      | inl x ↦ (inl x, rw (eq-eqb a 0 x) at h)
      | inr x ↦ elim (cases_eq b 0) [
        | inl y ↦ (rw (ne_eqb a 0 x, eq-eqb b 0 y) at h, inl y)
        | inr y ↦ elim (rw (ne_eqb a 0 x, ne_eqb b 0 y) at h) [ inl e ↦ absurd (x (omega arith)) | inr lt ↦ (inr (omega arith), inr (omega arith)) ]
      ]
    ]

not_purgeable : (line : ℕ) (r : Row) → (r.value ≡ None → 0 < r.writer) → (deleted_by r ≡ 0) ⊎ (line < deleted_by r) → is_purgeable line r ≡ false
not_purgeable line r some h =
    elim (cases_Bool (is_purgeable line r)) [
      | inr t ↦ t
      | inl t ↦
          let p = purgeable_is line r t in
          let dead : is_some r.value ≡ false = ap is_some p.0 in
          elim (rw dead at h) [ inl e ↦ absurd (omega (arith, some p.0, e)) | inr lt ↦ absurd (omega (arith, p.1, lt)) ]
    ]

pub none_purgeable : (line : ℕ) (rows : List Row) → AreDeletedAfterStart rows → (least_deletion rows ≡ 0) ⊎ (line < least_deletion rows) → (purged line rows ≡ rows) × (count_purgeable line rows ≡ 0)
none_purgeable line [] d h = (refl, refl)
none_purgeable line (r ∷ rs) d h =
    let p = lesser_past line (deleted_by r) (least_deletion rs) h in
    let t = not_purgeable line r d.0 p.0 in
    let i = none_purgeable line rs d.1 p.1 in
    (rw t (ap (λ l. r ∷ l) i.0), rw t i.1)

-- ---- some tombstone at or below the line

count-append : (line : ℕ) (xs ys : List Row) → count_purgeable line (xs ++ ys) ≡ count_purgeable line xs + count_purgeable line ys
count-append line [] ys = omega arith
count-append line (x ∷ xs) ys =
    elim (cases_Bool (is_purgeable line x)) [
      | inl t ↦ rw t (omega (arith, count-append line xs ys))
      | inr t ↦ rw t (omega (arith, count-append line xs ys))
    ]

lesser_one : (line a b : ℕ) → (lesser_writer a b ≡ 0 → ⊥) → lesser_writer a b ≤ line → ((a ≡ 0 → ⊥) × (a ≤ line)) ⊎ ((b ≡ 0 → ⊥) × (b ≤ line))
lesser_one line a b ne le =
    elim (cases_eq a 0) [
      | inl x ↦ inr (rw (eq-eqb a 0 x) at ne, rw (eq-eqb a 0 x) at le)
      | inr x ↦ elim (cases_eq b 0) [
        | inl y ↦ inl (x, rw (ne_eqb a 0 x, eq-eqb b 0 y) at le)
        | inr y ↦
            let m : min a b ≤ line = rw (ne_eqb a 0 x, ne_eqb b 0 y) at le in
            least_of x y m
      ]
    ]
  where
    least_of : (a ≡ 0 → ⊥) → (b ≡ 0 → ⊥) → min a b ≤ line → ((a ≡ 0 → ⊥) × (a ≤ line)) ⊎ ((b ≡ 0 → ⊥) × (b ≤ line))
    least_of x y m = elim (cases_lt a b) [ inl h ↦ inl (x, omega arith) | inr h ↦ inr (y, omega arith) ]

some_value : {X : Type 0} (o : Option X) → is_some o ≡ false → o ≡ None
some_value None e = refl
some_value (Some x) e = cc

is_deleted : (line : ℕ) (r : Row) → (deleted_by r ≡ 0 → ⊥) → deleted_by r ≤ line → is_purgeable line r ≡ true
is_deleted line r ne le =
    elim (cases_Bool (is_some r.value)) [
      | inl t ↦ absurd ((rw t at ne) refl)
      | inr t ↦ purgeable_test line r (some_value r.value t, rw t at le)
    ]

pub some_purgeable : (line : ℕ) (rows : List Row) → (least_deletion rows ≡ 0 → ⊥) → least_deletion rows ≤ line → 0 < count_purgeable line rows
some_purgeable line [] ne le = absurd (ne refl)
some_purgeable line (r ∷ rs) ne le =
    elim (lesser_one line (deleted_by r) (least_deletion rs) ne le) [
      | inl h ↦ rw (is_deleted line r h.0 h.1) (omega arith)
      | inr h ↦ elim (cases_Bool (is_purgeable line r)) [ inl t ↦ rw t (omega arith) | inr t ↦ rw t (some_purgeable line rs h.0 h.1) ]
    ]

-- ---- a fork

module _ {b p : ℕ} {rows l r : List Row} (f : IsFork b p l r) (whole : rows ≡ l ++ r) where
  lengths : length rows ≡ length l + length r
  lengths = ap length whole ∙ length-append l r

  pub left_shorter : length l < length rows
  left_shorter = omega (arith, lengths, f.right_some)

  pub right_shorter : length r < length rows
  right_shorter = omega (arith, lengths, f.left_some)

  pub sides_deleted : AreDeletedAfterStart rows → AreDeletedAfterStart l × AreDeletedAfterStart r
  sides_deleted d = let e = rw whole at d in (Each-left _ l r e, Each-right _ l r e)

  module _ {T : Type 0} (rows_of : T → List Row) (line : ℕ) where
    -- what is left of both sides makes a fork
    pub left_fork : (x y : T) → IsPurgedPart rows_of line l (Some x) → IsPurgedPart rows_of line r (Some y) → CanFork (rows_of x) (rows_of y)
    left_fork x y hx hy = (
      b,
      p,
      record {
        bit_fits = f.bit_fits;
        left_some = hx.1 f.left_some;
        right_some = hy.1 f.right_some;
        left_in = rw hx.0 (Each-purged _ line l f.left_in);
        right_in = rw hy.0 (Each-purged _ line r f.right_in);
      },
    )

    left_whole : purged line rows ≡ purged line l ++ purged line r
    left_whole = ap (purged line) whole ∙ purged-append line l r

    pub both_left : (x y both : Option T) → IsPurgedPart rows_of line l x → IsPurgedPart rows_of line r y → AreJoined rows_of x y both → IsPurgedPart rows_of line rows both
    both_left None None both hx hy j = rw j (left_whole ∙ rw (hx, hy) refl)
    both_left None (Some y) both hx hy j = rw j (hy.0 ∙ sym (left_whole ∙ rw hx refl), λ n. hy.1 f.right_some)
    both_left (Some x) None both hx hy j = rw j (hx.0 ∙ sym (left_whole ∙ rw hy (append-nil (purged line l))), λ n. hx.1 f.left_some)
    both_left (Some x) (Some y) None hx hy j = absurd j
    both_left (Some x) (Some y) (Some both) hx hy j = (j ∙ rw (hx.0, hy.0) (sym left_whole), λ n. omega (arith, ap length j, length-append (rows_of x) (rows_of y), hx.1 f.left_some))

  count_parts : (line : ℕ) → count_purgeable line rows ≡ count_purgeable line l + count_purgeable line r
  count_parts line = ap (count_purgeable line) whole ∙ count-append line l r

  room : (h c d : ℕ) → b < h → 0 < c → d ≤ c → 1 + (b + 1) * d ≤ (h + 1) * c
  room h c d low some le =
      let a : d * (b + 1) ≤ c * (b + 1) = mul-le-mul_right (b + 1) le in
      let e : (b + 2) * c ≤ (h + 1) * c = mul-le-mul_right c (omega arith) in
      omega (arith, a, e)

  pub purge_left : (line old mid new h q : ℕ) → 0 < count_purgeable line rows → mid ≡ old + 1 → ((k n : ℕ) → InBlock k n l → new ≤ mid + (k + 1) * count_purgeable line l) → InBlock h q rows → new ≤ old + (h + 1) * count_purgeable line rows
  purge_left line old mid new h q some e left i =
      omega (arith, left b (2 * p) f.left_in, room h (count_purgeable line rows) (count_purgeable line l) (fork_bit_low f h q (rw whole at i)) some (omega (arith, count_parts line)))

  pub purge_both : (line old mid new last h q : ℕ) → 0 < count_purgeable line rows → mid ≡ old + 1 → ((k n : ℕ) → InBlock k n l → new ≤ mid + (k + 1) * count_purgeable line l) → ((k n : ℕ) → InBlock k n r → last ≤ new + (k + 1) * count_purgeable line r) → InBlock h q rows → last ≤ old + (h + 1) * count_purgeable line rows
  purge_both line old mid new last h q some e left right i =
      omega (arith, left b (2 * p) f.left_in, right b (2 * p + 1) f.right_in, room h (count_purgeable line rows) (count_purgeable line rows) (fork_bit_low f h q (rw whole at i)) some (omega arith), ap (λ c. (b + 1) * c) (count_parts line))

-- one look is paid for by one tombstone
pub purge_look : (line old new h : ℕ) (rows : List Row) → 0 < count_purgeable line rows → new ≤ old + 1 → new ≤ old + (h + 1) * count_purgeable line rows
purge_look line old new h rows some e =
    let b : 1 * (h + 1) ≤ count_purgeable line rows * (h + 1) = mul-le-mul_right (h + 1) some in
    omega (arith, b)

-- a single row that is taken out
pub one_left : (line : ℕ) (rows : List Row) (r : Row) → rows ≡ r ∷ [] → 0 < count_purgeable line rows → purged line rows ≡ []
one_left line rows r e some =
    elim (cases_Bool (is_purgeable line r)) [
      | inl t ↦ rw (e, t) refl
      | inr t ↦ let n = rw (e, t) at some in absurd (omega arith)
    ]

pub some_at : (line low : ℕ) (rows : List Row) → low ≡ least_deletion rows → (low ≡ 0 → ⊥) → low ≤ line → 0 < count_purgeable line rows
some_at line low rows is ne le = some_purgeable line rows (λ e. ne (is ∙ e)) (omega arith)

pub none_at : (line low : ℕ) (rows : List Row) → low ≡ least_deletion rows → AreDeletedAfterStart rows → (low ≡ 0) ⊎ (line < low) → (purged line rows ≡ rows) × (count_purgeable line rows ≡ 0)
none_at line low rows is d h = none_purgeable line rows d (elim h [ inl e ↦ inl (sym is ∙ e) | inr lt ↦ inr (omega arith) ])
