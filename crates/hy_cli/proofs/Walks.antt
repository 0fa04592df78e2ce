-- What clap makes of the options of one command.
use Rattle.std.proofs.Common.{◌≡◌, ◌∙◌, ◌<◌, ◌^◌, ◌==◌, ℕ, Bool, true, false, refl, sym, ap, subst, arith, List, [], ◌∷◌, ◌++◌, map, length, Option, Some, None, codes, true≢false}
use Rattle.std.specs.Prelude.{nat_lt, option_and_then, fold, decimal}
use Rattle.std.specs.List.{find, list_all}
use Rattle.std.specs.Str.{bytes_eq}
use Rattle.std.specs.Str.Parse.{AllDigits, IsNumeral, digits_value, without_leading_plus}
use Rattle.std.proofs.lemmas.Fmt.{decimal_is_IsNumeral}
use Rattle.std.proofs.lemmas.Str.Parse.{digit_from_value}
use Rattle.hy_base.specs.Spelling.{Text}
use Rattle.hy_base.specs.Shape.{is_within}
use Rattle.std.specs.Char.{digit_value}
use Rattle.std.proofs.lemmas.List.{append-nil, map-append}
use Rattle.std.proofs.lemmas.Slice.Eq.{bytes_eq-Decides}
use Rattle.std.proofs.lemmas.Bool.{lt-ltb, ltb-true, ne_eqb, and_from}
use Rattle.clap.specs.Lexer.{long_of, short_of}
use Rattle.clap.specs.Walk.{Row, Rule, Walk, arg_by_id, arg_by_long, at_row, idle, more_values, settled_rows, used, walked, without, has_row}
use Rattle.clap.specs.Simple.{Shape, filled, new_shape}
use Rattle.clap.specs.Takes.{settle_passes, use_passes, walk_passes}
use Rattle.clap.specs.ValueTests.{accepts}
use Rattle.clap.specs.declared.builder.value_parser.Reading.TheVariants.{AsWritten}
use Rattle.clap.specs.declared.builder.value_parser.ValueParser.TheVariants as vp
use Rattle.clap.specs.declared.parser.matches.ValueSource.TheVariants.{CommandLine}
use Rattle.clap.proofs.WalkLemmas.{list_any-map}
use Rattle.hy_cli.specs.CommandLine.{OptionKind, flag, number, CliOption, Given, is_given, is_number_in, spelled, option_named, given_flag, given_number, met, met_as, reads}
use Rattle.hy_cli.specs.Matches.{rule_for}

-- ---- tests

pub bytes_refl : (a : Text) → bytes_eq a a ≡ true
bytes_refl a = (bytes_eq-Decides a a).1 refl

-- ---- numbers

-- what the spelling of a number in a range is
pub record IsNumberIn (low high : ℕ) (text : Text) : Type 0 where
  pub numeral : IsNumeral 10 text
  pub small : digits_value 10 text < 2 ^ 64
  pub within : is_within low high (digits_value 10 text) ≡ true

pub number_in : (low high : ℕ) (text : Text) → is_number_in low high text ≡ true → IsNumberIn low high text
number_in low high text e = go (nat_lt (digits_value 10 text) (2 ^ 64)) (bytes_eq (decimal (digits_value 10 text)) text) refl refl
  where
    go : (a b : Bool) → nat_lt (digits_value 10 text) (2 ^ 64) ≡ a → bytes_eq (decimal (digits_value 10 text)) text ≡ b → IsNumberIn low high text
    go false b p q = absurd (true≢false (sym (rw p at e)))
    go true false p q = absurd (true≢false (sym (rw (p, q) at e)))
    go true true p q =
        let small = ltb-true (digits_value 10 text) (2 ^ 64) p in
        record {
          numeral = subst (IsNumeral 10) ((bytes_eq-Decides (decimal (digits_value 10 text)) text).0 q) (decimal_is_IsNumeral (digits_value 10 text) small).0;
          small = small;
          within = rw (p, q) at e;
        }

pub starts_with_digit : (text : Text) → IsNumeral 10 text → (long_of text ≡ None) × (short_of text ≡ None) × (bytes_eq text (45 ∷ 45 ∷ []) ≡ false) × (without_leading_plus text ≡ text)
starts_with_digit [] h = absurd (omega (arith, h.0))
starts_with_digit (d ∷ ds) h =
    let range = digit_from_value d h.1.0 in
    let no_minus : (d == 45) ≡ false = ne_eqb d 45 (λ e. omega (arith, range)) in
    let no_plus : (d == 43) ≡ false = ne_eqb d 43 (λ e. omega (arith, range)) in
    (rw no_minus refl, rw no_minus refl, rw no_minus refl, rw no_plus refl)

digits_read : (ds : Text) → AllDigits 10 ds → list_all (λ d. nat_lt (digit_value d) 10) ds ≡ true
digits_read [] h = refl
digits_read (d ∷ ds) h = and_from _ _ (lt-ltb (digit_value d) 10 h.0) (digits_read ds h.1)

pub number_accepted : (low high : ℕ) (text : Text) → is_number_in low high text ≡ true → accepts false (vp.Unsigned low high) text ≡ true
number_accepted low high text e =
    let h = number_in low high text e in
    let plain = (starts_with_digit text h.numeral).3 in
    rw plain (and_from _ _ (and_from _ _ (lt-ltb 0 (length text) h.numeral.0) (digits_read text h.numeral.1)) (and_from _ _ (lt-ltb _ _ h.small) h.within))

-- ---- the rows of the options that were given

abbrev pub row_for : Text × Text → Row
row_for p = record { id = p.0; values = p.1 ∷ []; count = None; source = Some CommandLine; reading = AsWritten }

abbrev pub rows_for : Given → List Row
rows_for = map row_for

pub has_row_given : (id : Text) (g : Given) → has_row id (rows_for g) ≡ is_given id g
has_row_given id g = sym (list_any-map (λ (r : Row). bytes_eq r.id id) row_for g)

-- a change at an id that no row has adds what is missing
pub at_no_row : (id : Text) (change : Row → List Row) (missing rows : List Row) → has_row id rows ≡ false → at_row id change missing rows ≡ rows ++ missing
at_no_row id change missing [] e = refl
at_no_row id change missing (r ∷ rs) e = go (bytes_eq r.id id) refl (at_no_row id change missing rs)
  where
    go : (b : Bool) → bytes_eq r.id id ≡ b → (has_row id rs ≡ false → at_row id change missing rs ≡ rs ++ missing) → at_row id change missing (r ∷ rs) ≡ (r ∷ rs) ++ missing
    go true here more = absurd (true≢false (rw here at e))
    go false here more = rw here (ap (λ xs. r ∷ xs) (more (rw here at e)))

abbrev pub built_rule : CliOption → Rule
built_rule o = filled (rule_for o)

abbrev pub built_rules : List CliOption → List Rule
built_rules = map built_rule

abbrev pub flag_opt : Text → Bool → CliOption
flag_opt name needed = record { name = name; kind = flag; needed = needed }

abbrev pub number_opt : ℕ → ℕ → Text → Bool → CliOption
number_opt low high name needed = record { name = name; kind = number low high; needed = needed }

-- one more option, which was not given before
pub used_number : (low high : ℕ) (name : Text) (needed : Bool) (v : Text) (g : Given) → is_given name g ≡ false
    → used (built_rule (number_opt low high name needed)) (v ∷ []) (rows_for g) ≡ rows_for (g ++ (name, v) ∷ [])
used_number low high name needed v g new =
    let absent : has_row name (rows_for g) ≡ false = has_row_given name g ∙ new in
    let kept : without name (rows_for g) ≡ rows_for g = at_no_row name (λ _. []) [] (rows_for g) absent ∙ append-nil (rows_for g) in
    rw kept (at_no_row name (more_values CommandLine (v ∷ [])) (row_for (name, v) ∷ []) (rows_for g) absent ∙ sym (map-append row_for g ((name, v) ∷ [])))

pub used_flag : (name : Text) (needed : Bool) (g : Given) → is_given name g ≡ false
    → used (built_rule (flag_opt name needed)) [] (rows_for g) ≡ rows_for (g ++ (name, codes "true") ∷ [])
used_flag name needed g new =
    let absent : has_row name (rows_for g) ≡ false = has_row_given name g ∙ new in
    let kept : without name (rows_for g) ≡ rows_for g = at_no_row name (λ _. []) [] (rows_for g) absent ∙ append-nil (rows_for g) in
    rw kept (at_no_row name (more_values CommandLine (codes "true" ∷ [])) (row_for (name, codes "true") ∷ []) (rows_for g) absent ∙ sym (map-append row_for g ((name, codes "true") ∷ [])))

pub number_passes : (low high : ℕ) (name : Text) (needed : Bool) (v : Text) (g : Given) → is_given name g ≡ false → is_number_in low high v ≡ true
    → use_passes false (built_rule (number_opt low high name needed)) (v ∷ []) (rows_for g) ≡ true
number_passes low high name needed v g new right =
    let absent : has_row name (rows_for g) ≡ false = has_row_given name g ∙ new in
    rw (absent, number_accepted low high v right) refl

pub flag_passes : (name : Text) (needed : Bool) (g : Given) → is_given name g ≡ false
    → use_passes false (built_rule (flag_opt name needed)) [] (rows_for g) ≡ true
flag_passes name needed g new =
    let absent : has_row name (rows_for g) ≡ false = has_row_given name g ∙ new in
    rw absent refl

-- ---- the walk over the words of one command

-- what the lemmas need to know of an option of the command
pub record IsKnownOption (options : List CliOption) (o : CliOption) : Type 0 where
  pub long : long_of (spelled o.name) ≡ Some (o.name, None)
  pub dashes : bytes_eq (spelled o.name) (45 ∷ 45 ∷ []) ≡ false
  pub by_long : arg_by_long (built_rules options) o.name ≡ Some (built_rule o)
  pub by_id : arg_by_id (built_rules options) o.name ≡ Some (built_rule o)
  pub by_name : find (λ x. bytes_eq x.name o.name) options ≡ Some o

abbrev pub at_word : List Row → Option (Text × List Text) → Walk
at_word rows pending = record {
  held = record { rows = rows; pending = pending; skip = 0 };
  waiting = idle;
  position = 1;
  is_trailing = false;
  stopped = None;
}

abbrev pub leaf_shape : Text → List CliOption → Shape
leaf_shape name options = record (new_shape name) {
  rules = built_rules options;
  disable_help_flag = true;
  disable_help_subcommand = true;
  is_built = true;
}

-- each option was given with a value that is right for it
abbrev pub RightFor : OptionKind → Text → Type 0
RightFor flag v = v ≡ codes "true"
RightFor (number low high) v = is_number_in low high v ≡ true

abbrev pub IsRight : Option CliOption → Text → Type 0
IsRight None v = ⊥
IsRight (Some o) v = RightFor o.kind v

abbrev pub opt_by_name : List CliOption → Text → Option CliOption
opt_by_name options name = find (λ o. bytes_eq o.name name) options

abbrev pub AreRight : List CliOption → Given → Type 0
AreRight options [] = Unit {0}
AreRight options (p ∷ g) = IsRight (opt_by_name options p.0) p.1 × AreRight options g

pub right_more : (options : List CliOption) (g : Given) (p : Text × Text) → AreRight options g → IsRight (opt_by_name options p.0) p.1 → AreRight options (g ++ p ∷ [])
right_more options [] p h last = (last, tt)
right_more options (q ∷ g) p h last = (h.0, right_more options g p h.1 last)

-- the walk stands between two options, and the rows are those of the options given
pub record WalkStands (options : List CliOption) (g : Given) (rows : List Row) (pending : Option (Text × List Text)) : Type 0 where
  pub right : AreRight options g
  pub settles : settle_passes (built_rules options) false (record { rows = rows; pending = pending; skip = 0 }) ≡ true
  pub settled : settled_rows (built_rules options) pending rows ≡ rows_for g

module _ (command : Text) (options : List CliOption) where
  abbrev c : List Rule
  c = built_rules options

  abbrev s : Shape
  s = leaf_shape command options

  -- a flag
  flag_walks : (name : Text) (needed : Bool) (g : Given) (rows : List Row) (pending : Option (Text × List Text)) → IsKnownOption options (flag_opt name needed) → WalkStands options g rows pending
      → is_given name g ≡ false → walked c [] (at_word rows pending) (spelled name) ≡ at_word (rows_for (g ++ (name, codes "true") ∷ [])) None
  unfolding walked
  flag_walks name needed g rows pending known stands new =
      rw (known.dashes, known.long, known.by_long, stands.settled, used_flag name needed g new) refl

  flag_turn : (name : Text) (needed : Bool) (g : Given) (rows : List Row) (pending : Option (Text × List Text)) (rest : List Text) → IsKnownOption options (flag_opt name needed) → WalkStands options g rows pending
      → is_given name g ≡ false → walk_passes s [] (at_word (rows_for (g ++ (name, codes "true") ∷ [])) None) rest ≡ true
      → walk_passes s [] (at_word rows pending) (spelled name ∷ rest) ≡ true
  unfolding walk_passes
  flag_turn name needed g rows pending rest known stands new after =
      let moves = flag_walks name needed g rows pending known stands new in
      let absent : has_row name (rows_for g) ≡ false = has_row_given name g ∙ new in
      rw (known.dashes, known.long, known.by_long, moves, stands.settles, stands.settled, absent) after

  number_walks : (low high : ℕ) (name : Text) (needed : Bool) (v : Text) (g : Given) (rows : List Row) (pending : Option (Text × List Text)) → IsKnownOption options (number_opt low high name needed)
      → WalkStands options g rows pending → IsNumeral 10 v
      → walked c [] (walked c [] (at_word rows pending) (spelled name)) v ≡ at_word (rows_for g) (Some (name, v ∷ []))
  unfolding walked
  number_walks low high name needed v g rows pending known stands right =
      let plain = starts_with_digit v right in
      rw (known.dashes, known.long, known.by_long, stands.settled, plain.2, plain.0, plain.1, known.by_id, bytes_refl name) refl

  number_turn : (low high : ℕ) (name : Text) (needed : Bool) (v : Text) (g : Given) (rows : List Row) (pending : Option (Text × List Text)) (rest : List Text)
      → IsKnownOption options (number_opt low high name needed) → WalkStands options g rows pending → IsNumeral 10 v
      → walk_passes s [] (at_word (rows_for g) (Some (name, v ∷ []))) rest ≡ true
      → walk_passes s [] (at_word rows pending) (spelled name ∷ (v ∷ rest)) ≡ true
  unfolding walk_passes walked
  number_turn low high name needed v g rows pending rest known stands right after =
      let plain = starts_with_digit v right in
      rw (known.dashes, known.long, known.by_long, stands.settles, stands.settled, plain.2, plain.0, plain.1, known.by_id, bytes_refl name) after

  flag_stands : (name : Text) (needed : Bool) (g : Given) (rows : List Row) (pending : Option (Text × List Text)) → IsKnownOption options (flag_opt name needed) → WalkStands options g rows pending
      → WalkStands options (g ++ (name, codes "true") ∷ []) (rows_for (g ++ (name, codes "true") ∷ [])) None
  flag_stands name needed g rows pending known stands = record {
    right = right_more options g (name, codes "true") stands.right (rw known.by_name refl);
    settles = refl;
    settled = refl;
  }

  number_stands : (low high : ℕ) (name : Text) (needed : Bool) (v : Text) (g : Given) (rows : List Row) (pending : Option (Text × List Text))
      → IsKnownOption options (number_opt low high name needed) → WalkStands options g rows pending → is_given name g ≡ false → is_number_in low high v ≡ true
      → WalkStands options (g ++ (name, v) ∷ []) (rows_for g) (Some (name, v ∷ []))
  number_stands low high name needed v g rows pending known stands new right = record {
    right = right_more options g (name, v) stands.right (rw known.by_name right);
    settles = rw known.by_id (number_passes low high name needed v g new right);
    settled = rw known.by_id (used_number low high name needed v g new);
  }

  -- clap's walk passes, and stands where the options are those that were read
  pub record Walks (g : Given) (rows : List Row) (pending : Option (Text × List Text)) (words : List Text) : Type 0 where
    pub passes : walk_passes s [] (at_word rows pending) words ≡ true
    pub rows_then : List Row
    pub pending_then : Option (Text × List Text)
    pub ends : fold (walked c []) (at_word rows pending) words ≡ at_word rows_then pending_then
    pub stands : WalkStands options g rows_then pending_then

  flag_case : (o : CliOption) (g last : Given) (rows : List Row) (pending : Option (Text × List Text)) (rest : List Text) → o.kind ≡ flag → IsKnownOption options o → WalkStands options g rows pending
      → is_given o.name g ≡ false
      → (WalkStands options (g ++ (o.name, codes "true") ∷ []) (rows_for (g ++ (o.name, codes "true") ∷ [])) None
      → Walks last (rows_for (g ++ (o.name, codes "true") ∷ [])) None rest)
      → Walks last rows pending (spelled o.name ∷ rest)
  flag_case o g last rows pending rest is known stands new more =
      let same : IsKnownOption options (flag_opt o.name o.needed) = subst (IsKnownOption options) (λ i. record o { kind = is i }) known in
      let next = more (flag_stands o.name o.needed g rows pending same stands) in
      record {
        passes = flag_turn o.name o.needed g rows pending rest same stands new next.passes;
        rows_then = next.rows_then;
        pending_then = next.pending_then;
        ends = ap (λ w. fold (walked c []) w rest) (flag_walks o.name o.needed g rows pending same stands new) ∙ next.ends;
        stands = next.stands;
      }

  number_case : (o : CliOption) (low high : ℕ) (v : Text) (g last : Given) (rows : List Row) (pending : Option (Text × List Text)) (rest : List Text) → o.kind ≡ number low high → IsKnownOption options o
      → WalkStands options g rows pending → is_given o.name g ≡ false → is_number_in low high v ≡ true
      → (WalkStands options (g ++ (o.name, v) ∷ []) (rows_for g) (Some (o.name, v ∷ [])) → Walks last (rows_for g) (Some (o.name, v ∷ [])) rest)
      → Walks last rows pending (spelled o.name ∷ (v ∷ rest))
  number_case o low high v g last rows pending rest is known stands new right more =
      let same : IsKnownOption options (number_opt low high o.name o.needed) = subst (IsKnownOption options) (λ i. record o { kind = is i }) known in
      let next = more (number_stands low high o.name o.needed v g rows pending same stands new right) in
      let decimal = (number_in low high v right).numeral in
      record {
        passes = number_turn low high o.name o.needed v g rows pending rest same stands decimal next.passes;
        rows_then = next.rows_then;
        pending_then = next.pending_then;
        ends = ap (λ w. fold (walked c []) w rest) (number_walks low high o.name o.needed v g rows pending same stands decimal) ∙ next.ends;
        stands = next.stands;
      }

  -- each word that names an option names one that the lemmas know
  abbrev pub AllKnown : Type 0
  AllKnown = (w : Text) (o : CliOption) → option_named options w ≡ Some o → (w ≡ spelled o.name) × IsKnownOption options o

  -- what a reading of one option asks
  flag_new : (o : CliOption) (g last : Given) (more : Given → Option Given) → option_and_then more (given_flag o g) ≡ Some last
      → (is_given o.name g ≡ false) × (more (g ++ (o.name, codes "true") ∷ []) ≡ Some last)
  flag_new o g last more e = go (is_given o.name g) refl
    where
      go : (b : Bool) → is_given o.name g ≡ b → (is_given o.name g ≡ false) × (more (g ++ (o.name, codes "true") ∷ []) ≡ Some last)
      go true h = cc (rw h at e)
      go false h = (h, rw h at e)

  number_new : (low high : ℕ) (o : CliOption) (v : Text) (g last : Given) (more : Given → Option Given) → option_and_then more (given_number low high o v g) ≡ Some last
      → (is_given o.name g ≡ false) × (is_number_in low high v ≡ true) × (more (g ++ (o.name, v) ∷ []) ≡ Some last)
  number_new low high o v g last more e = go (is_given o.name g) (is_number_in low high v) refl refl
    where
      go : (b n : Bool) → is_given o.name g ≡ b → is_number_in low high v ≡ n
          → (is_given o.name g ≡ false) × (is_number_in low high v ≡ true) × (more (g ++ (o.name, v) ∷ []) ≡ Some last)
      go true n h k = cc (rw h at e)
      go false false h k = cc (rw (h, k) at e)
      go false true h k = (h, k, rw (h, k) at e)

  no_words : (g last : Given) (rows : List Row) (pending : Option (Text × List Text)) → WalkStands options g rows pending → Some g ≡ Some last → Walks last rows pending []
  unfolding walk_passes
  no_words g last rows pending stands e =
      let same : g ≡ last = cc in
      record {
        passes = refl;
        rows_then = rows;
        pending_then = pending;
        ends = refl;
        stands = subst (λ (x : Given). WalkStands options x rows pending) same stands;
      }

  one_read : (known : AllKnown) (w : Text) (g last : Given) (rows : List Row) (pending : Option (Text × List Text)) → WalkStands options g rows pending
      → met (option_named options w) None g (λ g. Some g) (λ g. None) ≡ Some last → Walks last rows pending (w ∷ [])
  one_read known w g last rows pending stands e = go (option_named options w) refl
    where
      by_kind : (o : CliOption) (k : OptionKind) → o.kind ≡ k → IsKnownOption options o → met_as k o None g (λ g. Some g) (λ g. None) ≡ Some last → Walks last rows pending (spelled o.name ∷ [])
      by_kind o flag is k h =
          let new = flag_new o g last (λ g. Some g) h in
          flag_case o g last rows pending [] is k stands new.0 (λ next. no_words _ last _ None next new.1)
      by_kind o (number low high) is k h = cc h

      go : (found : Option CliOption) → option_named options w ≡ found → Walks last rows pending (w ∷ [])
      go None is = cc (rw is at e)
      go (Some o) is =
          let k = known w o is in
          subst (λ (x : Text). Walks last rows pending (x ∷ [])) (sym k.0) (by_kind o o.kind refl k.1 (rw is at e))

  -- reading on from any state
  abbrev ReadsOn : Given → List Text → Type 0
  ReadsOn last words = (g : Given) (rows : List Row) (pending : Option (Text × List Text)) → WalkStands options g rows pending → reads options g words ≡ Some last → Walks last rows pending words

  two_read : (known : AllKnown) (w v : Text) (rest : List Text) (g last : Given) (rows : List Row) (pending : Option (Text × List Text)) → WalkStands options g rows pending
      → ReadsOn last (v ∷ rest) → ReadsOn last rest → reads options g (w ∷ (v ∷ rest)) ≡ Some last → Walks last rows pending (w ∷ (v ∷ rest))
  two_read known w v rest g last rows pending stands flagged valued e = go (option_named options w) refl
    where
      by_kind : (o : CliOption) (k : OptionKind) → o.kind ≡ k → IsKnownOption options o → met_as k o (Some v) g (λ g. reads options g (v ∷ rest)) (λ g. reads options g rest) ≡ Some last
          → Walks last rows pending (spelled o.name ∷ (v ∷ rest))
      by_kind o flag is k h =
          let new = flag_new o g last (λ g. reads options g (v ∷ rest)) h in
          flag_case o g last rows pending (v ∷ rest) is k stands new.0 (λ next. flagged _ _ None next new.1)
      by_kind o (number low high) is k h =
          let new = number_new low high o v g last (λ g. reads options g rest) h in
          number_case o low high v g last rows pending rest is k stands new.0 new.1 (λ next. valued _ _ _ next new.2)

      go : (found : Option CliOption) → option_named options w ≡ found → Walks last rows pending (w ∷ (v ∷ rest))
      go None is = cc (rw is at e)
      go (Some o) is =
          let k = known w o is in
          subst (λ (x : Text). Walks last rows pending (x ∷ (v ∷ rest))) (sym k.0) (by_kind o o.kind refl k.1 (rw is at e))

  pub read_on : (known : AllKnown) (last : Given) (words : List Text) → ReadsOn last words
  read_on known last [] g rows pending stands e = no_words g last rows pending stands e
  read_on known last (w ∷ []) g rows pending stands e = one_read known w g last rows pending stands e
  read_on known last (w ∷ (v ∷ rest)) g rows pending stands e =
      two_read known w v rest g last rows pending stands (read_on known last (v ∷ rest)) (read_on known last rest) e
