-- What the forms with one first word make of fields.
use Rattle.std.proofs.Common.{arith, ◌≡◌, sym, ℕ, ◌<◌, ◌≤◌, get_or, Bool, true, false, ◌||◌, ◌&&◌, List, [], ◌∷◌, length, refl, ap, ◌∙◌, if◌then◌else◌}
use Rattle.std.specs.Prelude.{Option, Some, None, option_and_then, Result, Ok, Err, IsErrAnd, ok_or}
use Rattle.std.specs.List.{AllByRecursion, list_any}
use Rattle.std.specs.Option.{option_map_or}
use Rattle.std.proofs.lemmas.Bool.{ne_eqb}
use Prim.Native.String.{String}
use Rattle.hy_base.specs.Script.{Workload}
use Rattle.hy_script.specs.Grammar.{event_forms, makes_if, publish, stop}
use Rattle.hy_base.specs.Spelling.{Text, number_of}
use Rattle.hy_script.specs.Forms.{Meaning, LineForm, Alone, OneNumber, TwoNumbers, ThreeNumbers, NumberAndText, ThreeNumbersAndText, judged_words, read_line, read_fields, meaning_of, has_form, form_with, is_blank}
use Rattle.hy_script.specs.Fields.{HasFields, HasWords, and_then, in_range, one_number, two_numbers, three_numbers, number_and_text, three_numbers_and_text, no_fields}
use Rattle.hy_base.specs.Shape.{is_within}
use Rattle.hy_base.specs.declared.workload.Event.{Event}
use Rattle.hy_script.specs.declared.words.Fields.{Fields}
use Rattle.hy_script.specs.declared.why.Why.{Why}
use Rattle.hy_script.specs.declared.why.Why.TheVariants.{Form, Number, Range}

pub same_either : {A : Type 0} (t : Bool) (x : A) → (if t then x else x) ≡ x
same_either true x = refl
same_either false x = refl

-- a line of a word that may stand elsewhere is read on
pub passes : {A : Type 0} (t : Bool) (x y : A) → (if t && false then x else y) ≡ y
passes true x y = refl
passes false x y = refl

found_one : {T : Type 0} (found : Option ℕ) (meaning : ℕ → Meaning T)
    → option_map_or (λ m. judged_words m) (option_and_then (λ l. Some (meaning l)) found) (Err Number) ≡ and_then (ok_or found Number) (λ n. judged_words (meaning n))
found_one None meaning = refl
found_one (Some n) meaning = refl

pub one_field : {T : Type 0} (t : Bool) (meaning : ℕ → Meaning T) (found : Option ℕ)
    → (if t || false then Err Form else option_map_or (λ m. judged_words m) (option_and_then (λ l. Some (meaning l)) found) (Err Number))
    ≡ and_then (if t then Err Form else ok_or found Number) (λ n. judged_words (meaning n))
one_field true meaning found = refl
one_field false meaning found = found_one found meaning

-- what fields make once their form is found
found_by : {T : Type 0} (s : Bool) (found : Option (LineForm T)) (form : LineForm T) (fields : List Text) → found ≡ Some form
    → (if s then Err Form else elim found [ None ↦ Err Form | Some f ↦ option_map_or (λ m. judged_words m) (meaning_of f fields) (Err Number) ])
    ≡ (if s then Err Form else option_map_or (λ m. judged_words m) (meaning_of form fields) (Err Number))
found_by s None form fields is = cc
found_by s (Some f) form fields is =
    let same : f ≡ form = cc is in ap (λ g. if s then Err Form else option_map_or (λ m. judged_words m) (meaning_of g fields) (Err Number)) same

found_none : {T : Type 0} (s : Bool) (found : Option (LineForm T)) (fields : List Text) → found ≡ None
    → (if s then Err Form else elim found [ None ↦ Err Form | Some f ↦ option_map_or (λ m. judged_words m) (meaning_of f fields) (Err Number) ]) ≡ Err Form
found_none true found fields none = refl
found_none false None fields none = refl
found_none false (Some f) fields none = cc

pub reads_by : {T : Type 0} (forms : List (LineForm T)) (form : LineForm T) (fields : List Text) → form_with fields forms ≡ Some form
    → read_fields forms fields ≡ (if list_any is_blank fields then Err Form else option_map_or (λ m. judged_words m) (meaning_of form fields) (Err Number))
reads_by forms form fields is = found_by (list_any is_blank fields) (form_with fields forms) form fields is

-- the fields are of none of these forms
abbrev pub AreOfNone : {T : Type 0} → List (LineForm T) → List Text → Type 0
AreOfNone forms fields = AllByRecursion (λ form. has_form form fields ≡ false) forms

none_with : {T : Type 0} (forms : List (LineForm T)) (fields : List Text) → AreOfNone forms fields → form_with fields forms ≡ None
none_with [] fields none = refl
none_with (form ∷ forms) fields none = ap (λ t. if t then Some form else form_with fields forms) none.0 ∙ none_with forms fields none.1

pub no_form : {T : Type 0} (forms : List (LineForm T)) (fields : List Text) → AreOfNone forms fields → read_fields forms fields ≡ Err Form
no_form forms fields none = found_none (list_any is_blank fields) (form_with fields forms) fields (none_with forms fields none)

pub other_count : {T : Type 0} (form : LineForm T) (fields : List Text) → has_form form fields ≡ false → read_fields (form ∷ []) fields ≡ Err Form
other_count form fields not = no_form (form ∷ []) fields (not, tt)

pub read_one : {T : Type 0} (name : String) (meaning : ℕ → Meaning T) (fields : List Text)
    → read_fields (OneNumber name meaning ∷ []) fields ≡ and_then (one_number fields) (λ n. judged_words (meaning n))
read_one name meaning [] = refl
read_one name meaning (a ∷ []) = one_field (is_blank a) meaning (number_of a)
read_one name meaning (a ∷ b ∷ rest) = other_count (OneNumber name meaning) (a ∷ b ∷ rest) (ne_eqb 1 (length (a ∷ b ∷ rest)) (omega arith))

pub two_fields : {T : Type 0} (t : Bool) (meaning : ℕ → ℕ → Meaning T) (x y : Option ℕ)
    → (if t then Err Form else option_map_or (λ m. judged_words m) (option_and_then (λ l. option_and_then (λ m. Some (meaning l m)) y) x) (Err Number))
    ≡ and_then {A = ℕ × ℕ} (if t then Err Form else and_then (ok_or x Number) (λ l. and_then {B = ℕ × ℕ} (ok_or y Number) (λ m. Ok (l, m)))) (λ p. judged_words (meaning p.0 p.1))
two_fields true meaning x y = refl
two_fields false meaning None y = refl
two_fields false meaning (Some l) None = refl
two_fields false meaning (Some l) (Some m) = refl

pub read_two : {T : Type 0} (name : String) (meaning : ℕ → ℕ → Meaning T) (fields : List Text)
    → read_fields (TwoNumbers name meaning ∷ []) fields ≡ and_then (two_numbers fields) (λ p. judged_words (meaning p.0 p.1))
read_two name meaning [] = refl
read_two name meaning (a ∷ []) = other_count (TwoNumbers name meaning) (a ∷ []) refl
read_two name meaning (a ∷ b ∷ []) = two_fields (list_any is_blank (a ∷ b ∷ [])) meaning (number_of a) (number_of b)
read_two name meaning (a ∷ b ∷ c ∷ rest) = other_count (TwoNumbers name meaning) (a ∷ b ∷ c ∷ rest) (ne_eqb 2 (length (a ∷ b ∷ c ∷ rest)) (omega arith))

pub one_letter : (word : Text) (b : ℕ) → length word < 2 → 1 ≤ length word → get_or word 0 0 ≡ b → word ≡ b ∷ []
one_letter [] b below least e = absurd (omega arith)
one_letter (c ∷ []) b below least e = ap (λ x. x ∷ []) e
one_letter (c ∷ d ∷ rest) b below least e = absurd (omega arith)

-- a number between two others, and what it makes
ranged : {T : Type 0} (low high : ℕ) (make : ℕ → T) (read : Result ℕ Why)
    → and_then read (λ n. judged_words (makes_if ((is_within low high n, Range) ∷ []) (make n))) ≡ and_then (and_then read (in_range low high)) (λ n. Ok (make n))
ranged low high make (Err why) = refl
ranged low high make (Ok n) = in_or_out (is_within low high n) where
  in_or_out : (t : Bool) → judged_words (makes_if ((t, Range) ∷ []) (make n)) ≡ and_then (if t then Ok n else Err Range) (λ m. Ok (make m))
  in_or_out true = refl
  in_or_out false = refl

-- a line whose word is a letter, with fields, is read as the form of that letter reads them
letter_line : (script : Workload) (letter : ℕ) {words fields : List Text} {word : Text} {read : Result Event Why} → words ≡ word ∷ fields → word ≡ letter ∷ [] → read_line (event_forms script) ((letter ∷ []) ∷ fields) ≡ read → read_line (event_forms script) words ≡ read
letter_line script letter {fields = fields} split named form = ap (read_line (event_forms script)) (split ∙ ap (λ x. x ∷ fields) named) ∙ form

-- a line of a letter and a number between two others is read once that number is: it makes its event, or fails as the number does
module _ (script : Workload) {words : List Text} {word : Text} (entry : Fields) (letter low high : ℕ) (event : ℕ → Event) {read : Result ℕ Why} (cut : HasWords words word entry) (named : word ≡ letter ∷ [])
    (form : (fields : List Text) → read_line (event_forms script) ((letter ∷ []) ∷ fields) ≡ and_then (one_number fields) (λ n. judged_words (makes_if ((is_within low high n, Range) ∷ []) (event n))))
    (told : (fields : List Text) → HasFields entry fields → read ≡ and_then (one_number fields) (in_range low high)) where
  numbered : read_line (event_forms script) words ≡ and_then read (λ n. Ok (event n))
  numbered = letter_line script letter cut.1 named (form cut.0) ∙ ranged low high event (one_number cut.0) ∙ ap (λ r. and_then r (λ n. Ok (event n))) (sym (told cut.0 cut.2))

  pub line_made : {n : ℕ} → read ≡ Ok n → Ok (event n) ≡ read_line (event_forms script) words
  line_made is = sym (numbered ∙ ap (λ r. and_then r (λ n. Ok (event n))) is)

  pub line_refused : {why : Why} (result : Result Event Why) → read ≡ Err why → IsErrAnd result (λ x. x ≡ why) → result ≡ read_line (event_forms script) words
  line_refused (Ok e) is was = absurd was
  line_refused (Err x) is was = ap (λ y. Err y) was ∙ sym (numbered ∙ ap (λ r. and_then r (λ n. Ok (event n))) is)

pub publish_line : (script : Workload) {words : List Text} {word : Text} (entry : Fields) → HasWords words word entry → word ≡ 114 ∷ [] → {read : Result Event Why} → ((fields : List Text) → HasFields entry fields → read ≡ and_then (two_numbers fields) (λ p. judged_words (publish script p.0 p.1))) → read ≡ read_line (event_forms script) words
publish_line script entry cut named told = told cut.0 cut.2 ∙ sym (letter_line script 114 cut.1 named (read_two "r" (publish script) cut.0))

pub stop_line : (script : Workload) {words : List Text} {word : Text} (entry : Fields) → HasWords words word entry → word ≡ 116 ∷ [] → {read : Result Event Why} → ((fields : List Text) → HasFields entry fields → read ≡ and_then (two_numbers fields) (λ p. judged_words (stop p.0 p.1))) → read ≡ read_line (event_forms script) words
stop_line script entry cut named told = told cut.0 cut.2 ∙ sym (letter_line script 116 cut.1 named (read_two "t" stop cut.0))

pub three_fields : {T : Type 0} (t : Bool) (meaning : ℕ → ℕ → ℕ → Meaning T) (x y z : Option ℕ)
    → (if t then Err Form else option_map_or (λ m. judged_words m) (option_and_then (λ l. option_and_then (λ m. option_and_then (λ n. Some (meaning l m n)) z) y) x) (Err Number))
    ≡ and_then {A = ℕ × ℕ × ℕ} (if t then Err Form else and_then (ok_or x Number) (λ l. and_then {B = ℕ × ℕ × ℕ} (ok_or y Number) (λ m. and_then {B = ℕ × ℕ × ℕ} (ok_or z Number) (λ n. Ok (l, m, n))))) (λ p. judged_words (meaning p.0 p.1 p.2))
three_fields true meaning x y z = refl
three_fields false meaning None y z = refl
three_fields false meaning (Some l) None z = refl
three_fields false meaning (Some l) (Some m) None = refl
three_fields false meaning (Some l) (Some m) (Some n) = refl

pub read_three : {T : Type 0} (name : String) (meaning : ℕ → ℕ → ℕ → Meaning T) (fields : List Text)
    → read_fields (ThreeNumbers name meaning ∷ []) fields ≡ and_then (three_numbers fields) (λ p. judged_words (meaning p.0 p.1 p.2))
read_three name meaning [] = refl
read_three name meaning (a ∷ []) = other_count (ThreeNumbers name meaning) (a ∷ []) refl
read_three name meaning (a ∷ b ∷ []) = other_count (ThreeNumbers name meaning) (a ∷ b ∷ []) refl
read_three name meaning (a ∷ b ∷ c ∷ []) = three_fields (list_any is_blank (a ∷ b ∷ c ∷ [])) meaning (number_of a) (number_of b) (number_of c)
read_three name meaning (a ∷ b ∷ c ∷ d ∷ rest) = other_count (ThreeNumbers name meaning) (a ∷ b ∷ c ∷ d ∷ rest) (ne_eqb 3 (length (a ∷ b ∷ c ∷ d ∷ rest)) (omega arith))

pub four_fields : {T : Type 0} (t : Bool) (meaning : ℕ → ℕ → ℕ → ℕ → Meaning T) (w x y z : Option ℕ)
    → (if t then Err Form
    else option_map_or (λ m. judged_words m) (option_and_then (λ k. option_and_then (λ l. option_and_then (λ m. option_and_then (λ n. Some (meaning k l m n)) z) y) x) w) (Err Number))
    ≡ and_then {A = ℕ × ℕ × ℕ × ℕ} (if t then Err Form
    else and_then (ok_or w Number) (λ k. and_then {B = ℕ × ℕ × ℕ × ℕ} (ok_or x Number) (λ l. and_then {B = ℕ × ℕ × ℕ × ℕ} (ok_or y Number) (λ m. and_then {B = ℕ × ℕ × ℕ × ℕ} (ok_or z Number) (λ n. Ok (k, l, m, n))))))
    (λ p. judged_words (meaning p.0 p.1 p.2 p.3))
four_fields true meaning w x y z = refl
four_fields false meaning None x y z = refl
four_fields false meaning (Some k) None y z = refl
four_fields false meaning (Some k) (Some l) None z = refl
four_fields false meaning (Some k) (Some l) (Some m) None = refl
four_fields false meaning (Some k) (Some l) (Some m) (Some n) = refl

text_fields : {T : Type 0} (t : Bool) (meaning : ℕ → Text → Meaning T) (x : Option ℕ) (text : Text)
    → (if t then Err Form else option_map_or (λ m. judged_words m) (option_and_then (λ l. Some (meaning l text)) x) (Err Number))
    ≡ and_then {A = ℕ × Text} (if t then Err Form else and_then (ok_or x Number) (λ l. Ok (l, text))) (λ p. judged_words (meaning p.0 p.1))
text_fields true meaning x text = refl
text_fields false meaning None text = refl
text_fields false meaning (Some l) text = refl

pub read_text : {T : Type 0} (name : String) (meaning : ℕ → Text → Meaning T) (fields : List Text)
    → read_fields (NumberAndText name meaning ∷ []) fields ≡ and_then (number_and_text fields) (λ p. judged_words (meaning p.0 p.1))
read_text name meaning [] = refl
read_text name meaning (a ∷ []) = other_count (NumberAndText name meaning) (a ∷ []) refl
read_text name meaning (a ∷ b ∷ []) = text_fields (list_any is_blank (a ∷ b ∷ [])) meaning (number_of a) b
read_text name meaning (a ∷ b ∷ c ∷ rest) = other_count (NumberAndText name meaning) (a ∷ b ∷ c ∷ rest) (ne_eqb 2 (length (a ∷ b ∷ c ∷ rest)) (omega arith))

numbers_text_fields : {T : Type 0} (t : Bool) (meaning : ℕ → ℕ → ℕ → Text → Meaning T) (x y z : Option ℕ) (text : Text)
    → (if t then Err Form else option_map_or (λ m. judged_words m) (option_and_then (λ k. option_and_then (λ l. option_and_then (λ m. Some (meaning k l m text)) z) y) x) (Err Number))
    ≡ and_then {A = ℕ × ℕ × ℕ × Text} (if t then Err Form
    else and_then (ok_or x Number) (λ l. and_then {B = ℕ × ℕ × ℕ × Text} (ok_or y Number) (λ m. and_then {B = ℕ × ℕ × ℕ × Text} (ok_or z Number) (λ n. Ok (l, m, n, text)))))
    (λ p. judged_words (meaning p.0 p.1 p.2 p.3))
numbers_text_fields true meaning x y z text = refl
numbers_text_fields false meaning None y z text = refl
numbers_text_fields false meaning (Some l) None z text = refl
numbers_text_fields false meaning (Some l) (Some m) None text = refl
numbers_text_fields false meaning (Some l) (Some m) (Some n) text = refl

pub read_numbers_text : {T : Type 0} (name : String) (meaning : ℕ → ℕ → ℕ → Text → Meaning T) (fields : List Text)
    → read_fields (ThreeNumbersAndText name meaning ∷ []) fields ≡ and_then (three_numbers_and_text fields) (λ p. judged_words (meaning p.0 p.1 p.2 p.3))
read_numbers_text name meaning [] = refl
read_numbers_text name meaning (a ∷ []) = other_count (ThreeNumbersAndText name meaning) (a ∷ []) refl
read_numbers_text name meaning (a ∷ b ∷ []) = other_count (ThreeNumbersAndText name meaning) (a ∷ b ∷ []) refl
read_numbers_text name meaning (a ∷ b ∷ c ∷ []) = other_count (ThreeNumbersAndText name meaning) (a ∷ b ∷ c ∷ []) refl
read_numbers_text name meaning (a ∷ b ∷ c ∷ text ∷ []) = numbers_text_fields (list_any is_blank (a ∷ b ∷ c ∷ text ∷ [])) meaning (number_of a) (number_of b) (number_of c) text
read_numbers_text name meaning (a ∷ b ∷ c ∷ d ∷ e ∷ rest) = other_count (ThreeNumbersAndText name meaning) (a ∷ b ∷ c ∷ d ∷ e ∷ rest) (ne_eqb 4 (length (a ∷ b ∷ c ∷ d ∷ e ∷ rest)) (omega arith))

pub read_alone : {T : Type 0} (name : String) (meaning : Meaning T) (fields : List Text)
    → read_fields (Alone name meaning ∷ []) fields ≡ and_then (no_fields fields) (λ u. judged_words meaning)
read_alone name meaning [] = refl
read_alone name meaning (a ∷ rest) = other_count (Alone name meaning) (a ∷ rest) (ne_eqb 0 (length (a ∷ rest)) (omega arith))
