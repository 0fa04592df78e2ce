-- What is found in parts of rows, and by several tests of their keys.
use Rattle.std.proofs.Common.{◌≡◌, ℕ, suc, ◌/◌, ◌^◌, ◌<◌, ◌≤◌, ◌||◌, Bool, true, false, cond, leb, ltb, List, [], ◌∷◌, ◌++◌, length, get_or, drop, Option, Some, None, refl, sym, ap, ◌∙◌, arith, inl, inr, drop-cons}
use Rattle.std.specs.Prelude.{IfSome, ◌==◌, ◌&&◌}
use Rattle.std.specs.List.{list_any}
use Rattle.std.proofs.lemmas.Bool.{cases_Bool, cases_eq, le-leb, le-ltb, lt-leb, eq-eqb, ne_eqb}
use Rattle.hy_base.specs.declared.record.Row.{Row}
use Rattle.hy_base.specs.declared.record.Span.{Span}
use Rattle.hy_base.specs.declared.record.Clash.{Clash}
use Rattle.hy_base.specs.Entry.{is_in_span}
use Rattle.hy_base.specs.Rows.{Each, IsOrdered}
use Rattle.hy_base.specs.Marks.{is_past, first_late}
use Rattle.hy_base.proofs.EachLemmas.{Each-map}
use Rattle.hy_base.proofs.MarkLemmas.{same_late}
use Rattle.hy_tree.specs.TreeRows.{InBlock, greatest_writer}
use Rattle.hy_tree.proofs.Bits.{lt_from_quotients}
use Rattle.hy_rules.specs.Validation.{comes_first}
use Rattle.hy_rules.specs.Members.{earliest}
use Rattle.hy_check.specs.Conflicts.{known_where}

-- ---- two lists of rows

pub first_left : (known : ℕ → Option ℕ) (xs ys : List Row) (c : Clash) → first_late known xs ≡ Some c → first_late known (xs ++ ys) ≡ Some c
first_left known [] ys c e = cc
first_left known (x ∷ xs) ys c e =
    elim (cases_Bool (is_past (known x.key) x.writer)) [
      | inl t ↦ rw t (rw t at e)
      | inr t ↦ rw t (first_left known xs ys c (rw t at e))
    ]

pub first_right : (known : ℕ → Option ℕ) (xs ys : List Row) → first_late known xs ≡ None → first_late known (xs ++ ys) ≡ first_late known ys
first_right known [] ys e = refl
first_right known (x ∷ xs) ys e =
    elim (cases_Bool (is_past (known x.key) x.writer)) [
      | inl t ↦ let f = rw t at e in cc
      | inr t ↦ rw t (first_right known xs ys (rw t at e))
    ]

pub first_front : (known : ℕ → Option ℕ) (xs ys : List Row) → first_late known ys ≡ None → first_late known (xs ++ ys) ≡ first_late known xs
first_front known [] ys e = e
first_front known (x ∷ xs) ys e = ap (cond (is_past (known x.key) x.writer) (Some (record { key = x.key; by = x.writer }))) (first_front known xs ys e)

-- ---- where one span finds nothing

kept_row : (b : Bool) (d w : ℕ) → w ≤ d → is_past (cond b (Some d) None) w ≡ false
kept_row true d w h = le-ltb d w h
kept_row false d w h = refl

-- no writer is past what is known
pub one_kept : (test : ℕ → Bool) (after : ℕ) (rows : List Row) → greatest_writer rows ≤ after → first_late (known_where test after) rows ≡ None
one_kept test after [] h = refl
one_kept test after (r ∷ rs) h = rw (kept_row (test r.key) after r.writer (omega arith)) (one_kept test after rs (omega arith))

-- no key passes the test
one_outside : (test : ℕ → Bool) (after : ℕ) (rows : List Row) → Each (λ r. test r.key ≡ false) rows → first_late (known_where test after) rows ≡ None
one_outside test after [] a = refl
one_outside test after (r ∷ rs) a = rw a.0 (one_outside test after rs a.1)

below_span : (key : ℕ) (span : Span) → key < span.lo → is_in_span key span ≡ false
below_span key span lt = rw (lt-leb span.lo key lt) refl

above_span : (key : ℕ) (span : Span) → span.hi < key → is_in_span key span ≡ false
above_span key span lt = rw (lt-leb key span.hi lt) (elim (cases_Bool (leb span.lo key)) [ inl t ↦ rw t refl | inr t ↦ rw t refl ])

-- the rows' part of the keys ends before the span begins
pub part_below : (span : Span) (after b q : ℕ) (rows : List Row) → InBlock b q rows → q < span.lo / 2 ^ b → first_late (known_where (λ key. is_in_span key span) after) rows ≡ None
part_below span after b q rows i lt = one_outside (λ key. is_in_span key span) after rows (Each-map (λ r. r.key / 2 ^ b ≡ q) _ (λ r e. below_span r.key span (lt_from_quotients r.key span.lo b (omega arith))) rows i)

-- the span ends before the rows' part of the keys begins
pub part_above : (span : Span) (after b q : ℕ) (rows : List Row) → InBlock b q rows → span.hi / 2 ^ b < q → first_late (known_where (λ key. is_in_span key span) after) rows ≡ None
part_above span after b q rows i lt = one_outside (λ key. is_in_span key span) after rows (Each-map (λ r. r.key / 2 ^ b ≡ q) _ (λ r e. above_span r.key span (lt_from_quotients span.hi r.key b (omega arith))) rows i)

-- ---- two tests

key_case : (k : ℕ) (c : Clash) (b : Bool) (rest : Option Clash) → k < c.key → IfSome rest (λ d. k < d.key) → IfSome (cond b (Some c) rest) (λ d. k < d.key)
key_case k c true rest h a = h
key_case k c false rest h a = a

-- what is found among rows past a key is past it
found_past : (known : ℕ → Option ℕ) (k : ℕ) (rows : List Row) → Each (λ r. k < r.key) rows → IfSome (first_late known rows) (λ d. k < d.key)
found_past known k [] a = tt
found_past known k (r ∷ rs) a = key_case k (record { key = r.key; by = r.writer }) (is_past (known r.key) r.writer) (first_late known rs) a.0 (found_past known k rs a.1)

-- a clash is reported, and not one of a greater key
before_other : (c : Clash) (o : Option Clash) → IfSome o (λ d. c.key < d.key) → earliest (Some c) o ≡ Some c
before_other c None a = refl
before_other c (Some d) a = let t : comes_first c d ≡ true = grind arith in rw t refl

behind_other : (c : Clash) (o : Option Clash) → IfSome o (λ d. c.key < d.key) → earliest o (Some c) ≡ Some c
behind_other c None a = refl
behind_other c (Some d) a = let t : comes_first d c ≡ false = grind arith in rw t refl

with_itself : (c : Clash) → earliest (Some c) (Some c) ≡ Some c
with_itself c = let t : comes_first c c ≡ true = grind arith in rw t refl

past_case : (p q : Bool) (after w : ℕ) → is_past (cond (p || q) (Some after) None) w ≡ (is_past (cond p (Some after) None) w || is_past (cond q (Some after) None) w)
past_case true true after w = elim (cases_Bool (ltb after w)) [ inl t ↦ rw t refl | inr t ↦ rw t refl ]
past_case true false after w = elim (cases_Bool (ltb after w)) [ inl t ↦ rw t refl | inr t ↦ rw t refl ]
past_case false true after w = refl
past_case false false after w = refl

either_case : (c : Clash) (x y : Bool) (fs gs : Option Clash) → IfSome fs (λ d. c.key < d.key) → IfSome gs (λ d. c.key < d.key)
    → cond (x || y) (Some c) (earliest fs gs) ≡ earliest (cond x (Some c) fs) (cond y (Some c) gs)
either_case c true true fs gs a b = sym (with_itself c)
either_case c true false fs gs a b = sym (before_other c gs b)
either_case c false true fs gs a b = sym (behind_other c fs a)
either_case c false false fs gs a b = refl

-- what either test finds is the first of what each finds
pub first_of_either : (p q : ℕ → Bool) (after : ℕ) (rows : List Row) → IsOrdered rows
    → first_late (known_where (λ key. p key || q key) after) rows ≡ earliest (first_late (known_where p after) rows) (first_late (known_where q after) rows)
first_of_either p q after [] o = refl
first_of_either p q after (r ∷ rs) o =
    let c : Clash = record { key = r.key; by = r.writer } in
    let f : ℕ → Option ℕ = known_where p after in
    let g : ℕ → Option ℕ = known_where q after in
    rw (past_case (p r.key) (q r.key) after r.writer, first_of_either p q after rs o.1)
    (either_case c (is_past (f r.key) r.writer) (is_past (g r.key) r.writer) (first_late f rs) (first_late g rs) (found_past f r.key rs o.0) (found_past g r.key rs o.0))

-- ---- the tests of a list, from the back

nothing_known : (after : ℕ) (rows : List Row) → first_late (known_where (λ key. false) after) rows ≡ None
nothing_known after [] = refl
nothing_known after (r ∷ rs) = nothing_known after rs

pub first_of_none : {X : Type 0} (test : X → ℕ → Bool) (xs : List X) (after : ℕ) (rows : List Row) → first_late (known_where (λ key. list_any (λ x. test x key) (drop (length xs) xs)) after) rows ≡ None
first_of_none test [] after rows = nothing_known after rows
first_of_none test (x ∷ xs) after rows = first_of_none test xs after rows

drop_at : {X : Type 0} (xs : List X) (at next : ℕ) (x d : X) → at < length xs → x ≡ get_or xs at d → suc at ≡ next → drop at xs ≡ x ∷ drop next xs
drop_at xs at next x d within is follows = drop-cons xs at d within ∙ (λ i. sym is i ∷ drop (follows i) xs)

pub first_of_more : {X : Type 0} (test : X → ℕ → Bool) (xs : List X) (at next : ℕ) (x d : X) (after : ℕ) (rows : List Row) (first found : Option Clash) → IsOrdered rows → at < length xs → x ≡ get_or xs at d → suc at ≡ next
    → first ≡ first_late (known_where (test x) after) rows → found ≡ first_late (known_where (λ key. list_any (λ y. test y key) (drop next xs)) after) rows
    → earliest first found ≡ first_late (known_where (λ key. list_any (λ y. test y key) (drop at xs)) after) rows
first_of_more test xs at next x d after rows first found o within is follows one more =
    (λ i. earliest (one i) (more i))
    ∙ (sym (first_of_either (test x) (λ key. list_any (λ y. test y key) (drop next xs)) after rows o)
    ∙ ap (λ ys. first_late (known_where (λ key. list_any (λ y. test y key) ys) after) rows) (sym (drop_at xs at next x d within is follows)))

-- ---- a span of one key

apart : (point key : ℕ) (a b : Bool) → (point ≡ key → ⊥) → leb point key ≡ a → leb key point ≡ b → (a && b) ≡ false
apart point key true true ne e f = absurd (ne (grind arith))
apart point key true false ne e f = refl
apart point key false b ne e f = refl

one_key : (point key : ℕ) → is_in_span key (record { lo = point; hi = point }) ≡ (point == key)
one_key point key =
    elim (cases_eq point key) [
      | inl e ↦ rw (eq-eqb point key e, le-leb point key (omega (arith, e)), le-leb key point (omega (arith, e))) refl
      | inr ne ↦ rw (ne_eqb point key ne) (apart point key (leb point key) (leb key point) ne refl refl)
    ]

pub first_at_key : (point after : ℕ) (rows : List Row) → first_late (known_where (λ key. is_in_span key (record { lo = point; hi = point })) after) rows ≡ first_late (known_where (λ key. point == key) after) rows
first_at_key point after rows = same_late _ _ (λ key. ap (λ b. cond b (Some after) None) (one_key point key)) rows
