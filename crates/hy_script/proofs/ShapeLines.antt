-- The line of a shape.
use Rattle.std.proofs.Common.{arith, ◌≡◌, ℕ, ◌*◌, ◌%◌, ◌==◌, Bool, true, false, ◌&&◌, List, [], ◌∷◌, length, refl, sym, ap, subst, ◌∙◌, not, if◌then◌else◌}
use Rattle.std.specs.Prelude.{Option, Some, None, IfSome, Result, Ok, Err, is_ok, ok_or, bytes_eq, codes}
use Rattle.std.specs.List.{list_any}
use Rattle.std.specs.Option.{is_some}
use Rattle.std.proofs.lemmas.Bool.{and_from, and_parts, eq-eqb, eqb-true, ne_eqb}
use Rattle.std.proofs.lemmas.Slice.Eq.{bytes_eq-Decides}
use Rattle.hy_base.specs.declared.layout.Shape.{Shape}
use Rattle.hy_base.specs.Shape.{IsGoodShape, IsWithin, has_horizon, is_horizon, is_within, largest_cap, largest_group, largest_window, newest_version, shape_fault}
use Rattle.hy_base.specs.Spelling.{Text, number_of}
use Rattle.hy_base.proofs.ShapeLemmas.{IsWithin-test, is_within-true, horizon_good}
use Rattle.hy_script.specs.Forms.{Meaning, OtherFourth, is_blank, judged_words, read_fields, read_line}
use Rattle.hy_script.specs.Fields.{and_then, three_numbers, four_numbers}
use Rattle.hy_script.specs.Grammar.{Place, AtStart, Shaped, shaped, shape_forms, forms_at, makes_if}
use Rattle.hy_script.specs.LineParts.{leading}
use Rattle.hy_script.specs.ScriptFields.{as_shape, good_shape, shape_line, shape_numbers, told_by_three, told_by_four, told_with_horizon}
use Rattle.hy_script.specs.declared.script.ToldShape.{ToldShape}
use Rattle.hy_script.specs.declared.why.Why.{Why}
use Rattle.hy_script.specs.declared.why.Why.TheVariants.{Form, Range}
use Rattle.hy_script.proofs.FieldLemmas.{three_fields, four_fields, same_either, no_form, reads_by}

-- ---- the ranges

passed : {A E : Type 0} (t : Bool) (x : Result A E) (e : E) → t ≡ true → is_ok x ≡ true → is_ok (if t then x else Err e) ≡ true
passed true x e is ok = ok
passed false x e is ok = cc

horizon_passes : (s : Shape) (h : Option ℕ) → IfSome h (IsWithin (s.group * s.window) largest_cap) → is_some h ≡ has_horizon s.version → is_horizon s h ≡ true
horizon_passes s None within there = ap not (sym there)
horizon_passes s (Some h) within there = and_from (has_horizon s.version) (is_within (s.group * s.window) largest_cap h) (sym there) (IsWithin-test (s.group * s.window) largest_cap h within)

pub good_passes : (s : Shape) → IsGoodShape s → is_ok (shape_fault s) ≡ true
good_passes s good =
    passed (is_within 1 largest_group s.group) _ _ (IsWithin-test 1 largest_group s.group good.group)
    (passed (is_within 1 largest_window s.window) _ _ (IsWithin-test 1 largest_window s.window good.window)
    (passed (is_within s.group largest_cap s.cap && (s.cap % s.group == 0)) _ _
    (and_from (is_within s.group largest_cap s.cap) (s.cap % s.group == 0) (IsWithin-test s.group largest_cap s.cap good.cap) (eq-eqb (s.cap % s.group) 0 good.whole_groups))
    (passed (is_within 1 newest_version s.version) _ _ (IsWithin-test 1 newest_version s.version good.version)
    (passed (is_horizon s s.horizon) (Ok tt) _ (horizon_passes s s.horizon good.horizon good.versioned) refl))))

met : {A E : Type 0} (t : Bool) (x : Result A E) (e : E) → is_ok (if t then x else Err e) ≡ true → (t ≡ true) × (is_ok x ≡ true)
met true x e ok = (refl, ok)
met false x e ok = cc

pub passes_good : (s : Shape) → is_ok (shape_fault s) ≡ true → IsGoodShape s
passes_good s ok =
    let group = met (is_within 1 largest_group s.group) _ _ ok in
    let window = met (is_within 1 largest_window s.window) _ _ group.1 in
    let cap = met (is_within s.group largest_cap s.cap && (s.cap % s.group == 0)) _ _ window.1 in
    let version = met (is_within 1 newest_version s.version) _ _ cap.1 in
    let horizon = met (is_horizon s s.horizon) (Ok tt) _ version.1 in
    let whole = and_parts (is_within s.group largest_cap s.cap) (s.cap % s.group == 0) cap.0 in
    record {
      group = is_within-true 1 largest_group s.group group.0;
      window = is_within-true 1 largest_window s.window window.0;
      cap = is_within-true s.group largest_cap s.cap whole.0;
      whole_groups = eqb-true (s.cap % s.group) 0 whole.1;
      version = is_within-true 1 newest_version s.version version.0;
      horizon = (horizon_good s horizon.0).0;
      versioned = (horizon_good s horizon.0).1;
    }

-- ---- the fields

-- what the numbers of a line mean
abbrev told_meaning : ToldShape → Meaning Place
told_meaning t = shaped t.group t.window t.cap t.version t.horizon

abbrev read_told : Result ToldShape Why → Result Place Why
read_told numbers = and_then numbers (λ t. judged_words (told_meaning t))

then_told : {A : Type 0} (read : Result A Why) (told : A → ToldShape) → and_then read (λ a. judged_words (told_meaning (told a))) ≡ read_told (and_then read (λ a. Ok (told a)))
then_told (Ok a) told = refl
then_told (Err why) told = refl

-- three numbers
by_three : (a b c : Text) → read_fields shape_forms (a ∷ b ∷ c ∷ []) ≡ read_told (told_by_three (a ∷ b ∷ c ∷ []))
by_three a b c =
    three_fields (list_any is_blank (a ∷ b ∷ c ∷ [])) (λ k l m. shaped k l m 1 None) (number_of a) (number_of b) (number_of c)
    ∙ then_told (three_numbers (a ∷ b ∷ c ∷ [])) (λ p. record { group = p.0; window = p.1; cap = p.2; version = 1; horizon = None })

-- and a fourth field, which is 3 or isn't
by_four : (t : Bool) (a b c d : Text) → bytes_eq d (codes "3") ≡ t
    → read_fields shape_forms (a ∷ b ∷ c ∷ d ∷ []) ≡ read_told (if t then Err Form else told_by_four (a ∷ b ∷ c ∷ d ∷ []))
by_four true a b c d is = no_form shape_forms (a ∷ b ∷ c ∷ d ∷ []) (refl, (ap not is, (refl, tt)))
by_four false a b c d is =
    reads_by shape_forms (OtherFourth "shape" "3" (λ k l m n. shaped k l m n None)) (a ∷ b ∷ c ∷ d ∷ []) (rw is refl)
    ∙ four_fields (list_any is_blank (a ∷ b ∷ c ∷ d ∷ [])) (λ k l m n. shaped k l m n None) (number_of a) (number_of b) (number_of c) (number_of d)
    ∙ then_told (four_numbers (a ∷ b ∷ c ∷ d ∷ [])) (λ p. record { group = p.0; window = p.1; cap = p.2; version = p.3; horizon = None })

-- and a horizon
with_horizon : (a b c e : Text) → read_fields shape_forms (a ∷ b ∷ c ∷ codes "3" ∷ e ∷ []) ≡ read_told (told_with_horizon (a ∷ b ∷ c ∷ e ∷ []))
with_horizon a b c e =
    four_fields (list_any is_blank (a ∷ b ∷ c ∷ e ∷ [])) (λ k l m n. shaped k l m 3 (Some n)) (number_of a) (number_of b) (number_of c) (number_of e)
    ∙ then_told (four_numbers (a ∷ b ∷ c ∷ e ∷ [])) (λ p. record { group = p.0; window = p.1; cap = p.2; version = 3; horizon = Some p.3 })

by_five : (t : Bool) (a b c d e : Text) → bytes_eq d (codes "3") ≡ t
    → read_fields shape_forms (a ∷ b ∷ c ∷ d ∷ e ∷ []) ≡ read_told (if t then told_with_horizon (a ∷ b ∷ c ∷ e ∷ []) else Err Form)
by_five true a b c d e is =
    subst (λ w. read_fields shape_forms (a ∷ b ∷ c ∷ w ∷ e ∷ []) ≡ read_told (told_with_horizon (a ∷ b ∷ c ∷ e ∷ []))) (sym ((bytes_eq-Decides d (codes "3")).0 is)) (with_horizon a b c e)
by_five false a b c d e is = no_form shape_forms (a ∷ b ∷ c ∷ d ∷ e ∷ []) (refl, (refl, (is, tt)))

fields_read : (fields : List Text) → read_fields shape_forms fields ≡ read_told (shape_numbers fields)
fields_read [] = refl
fields_read (a ∷ []) = same_either (list_any is_blank (a ∷ [])) (Err Form)
fields_read (a ∷ b ∷ []) = same_either (list_any is_blank (a ∷ b ∷ [])) (Err Form)
fields_read (a ∷ b ∷ c ∷ []) = by_three a b c
fields_read (a ∷ b ∷ c ∷ d ∷ []) = by_four (bytes_eq d (codes "3")) a b c d refl
fields_read (a ∷ b ∷ c ∷ d ∷ e ∷ []) = by_five (bytes_eq d (codes "3")) a b c d e refl
fields_read (a ∷ b ∷ c ∷ d ∷ e ∷ f ∷ rest) =
    let fields = a ∷ b ∷ c ∷ d ∷ e ∷ f ∷ rest in
    no_form shape_forms fields (ne_eqb 3 (length fields) (omega arith), (ne_eqb 4 (length fields) (omega arith), (ne_eqb 5 (length fields) (omega arith), tt)))

-- fields of which the fourth is 3
pub horizon_follows : (a b c d e : Text) (fields : List Text) (read : Result ToldShape Why) → fields ≡ a ∷ b ∷ c ∷ d ∷ e ∷ [] → bytes_eq d (codes "3") ≡ true
    → read ≡ told_with_horizon (a ∷ b ∷ c ∷ e ∷ []) → read ≡ shape_numbers fields
horizon_follows a b c d e fields read are third told = told ∙ sym (ap shape_numbers are ∙ ap (λ t. if t then told_with_horizon (a ∷ b ∷ c ∷ e ∷ []) else Err Form) third)

-- ---- the line

one_test : (t : Bool) (shape : Shape) → judged_words (makes_if ((t, Range) ∷ []) (Shaped shape)) ≡ leading Shaped (ok_or (if t then Some shape else None) Range)
one_test true shape = refl
one_test false shape = refl

told_leads : (numbers : Result ToldShape Why) → read_told numbers ≡ leading Shaped (and_then numbers (λ t. ok_or (good_shape t) Range))
told_leads (Ok t) = one_test (is_ok (shape_fault (as_shape t))) (as_shape t)
told_leads (Err why) = refl

line_by : (sim : Bool) (number : ℕ) (word : Text) (fields : List Text) (t : Bool) → bytes_eq word (codes "shape") ≡ t
    → leading Shaped (shape_line (word ∷ fields)) ≡ read_line (forms_at sim AtStart number) (word ∷ fields)
line_by sim number word fields true e =
    subst (λ w. leading Shaped (shape_line (w ∷ fields)) ≡ read_line (forms_at sim AtStart number) (w ∷ fields)) (sym ((bytes_eq-Decides word (codes "shape")).0 e))
    (sym (fields_read fields ∙ told_leads (shape_numbers fields)))
line_by sim number word fields false e = rw e refl

pub shape_leads : (sim : Bool) (number : ℕ) (words : List Text) → leading Shaped (shape_line words) ≡ read_line (forms_at sim AtStart number) words
shape_leads sim number [] = refl
shape_leads sim number (word ∷ fields) = line_by sim number word fields (bytes_eq word (codes "shape")) refl
