-- Where clap refuses nothing, each value in the rows of a command passed its parser.
use Rattle.std.proofs.Common.{◌≡◌, ◌∙◌, ◌&&◌, ◌||◌, not, ℕ, Bool, true, false, cond, refl, sym, ap, subst, List, [], ◌∷◌, ◌++◌, length, Option, Some, None, codes, is_some, option_map, true≢false, zero, suc}
use Rattle.std.specs.Prelude.{fold, slice_get}
use Rattle.std.specs.Option.{option_map_or}
use Rattle.std.specs.List.{find, list_all, list_any}
use Rattle.std.specs.Str.{bytes_eq, chars}
use Rattle.std.proofs.lemmas.List.{append-nil}
use Rattle.clap.specs.Facts.{parser_of_value}
use Rattle.clap.specs.Lexer.{long_of, short_of}
use Rattle.clap.specs.Walk.{Held, Outcome, default_rows, after_step, bundle, long_or_other, short_or_plain, subcommand_or_other, trailing, after_flag, bundle_step, has_long, long_met, long_word, next, option_word, plain_word, subcommand, Row, Rule, Walk, Waiting, Step, arg_by_id, arg_by_index, arg_by_long, arg_by_short, bundle_met, has_row, idle, more_values, nothing_held, option, plain, positional, reacted, reading_by, rows_after, settled, settled_rows, subcommand_met, takes_values, used, used_by_id, value, walk, walk_from, walked, with_default, with_values, without, word_met}
use Rattle.clap.specs.Simple.{Shape}
use Rattle.clap.specs.Kinds.{Kinds, or_else, value_kinds}
use Rattle.clap.specs.Faults.{bundle_fault, defaults_fault, flag_word_fault, flags_fault, other_fault, step_fault, word_fault, level_fault, long_fault, react_fault, set_fault, settle_fault, turn_fault, use_fault, values_fault, walk_fault}
use Rattle.clap.specs.Takes.{value_passes, values_pass, is_given as is_used}
use Rattle.std.proofs.lemmas.Bool.{and_from}
use Rattle.std.proofs.lemmas.Slice.Eq.{bytes_eq-Decides}
use Rattle.hy_cli.proofs.Matches.{row_at}
use Rattle.clap.specs.declared.builder.value_parser.Reading.TheVariants.{AsWritten}
use Rattle.clap.specs.declared.error.kind.ErrorKind.TheVariants.{ArgumentConflict, MissingRequiredArgument}
use Rattle.clap.specs.declared.parser.matches.ValueSource.TheVariants.{CommandLine, DefaultValue}
use Rattle.clap.proofs.WalkLemmas.{both}
use Rattle.hy_base.specs.Spelling.{Text}
use Rattle.hy_cli.specs.CommandLine.{OptionKind, flag, number, CliOption}
use Rattle.hy_cli.specs.Matches.{is_accepted, value_accepted}
use Rattle.hy_cli.proofs.Walks.{IsKnownOption, at_no_row, built_rule, built_rules, flag_opt, leaf_shape, number_opt, opt_by_name}
use Rattle.hy_cli.proofs.Levels.{EachKnown}

-- ---- what an empty list of faults says

pub or_nil : (a b : Kinds) → or_else a b ≡ [] → (a ≡ []) × (b ≡ [])
or_nil [] b e = (refl, e)
or_nil (k ∷ ks) b e = cc e

accepted_values : (a : Rule) (vs : List Text) → values_fault a vs ≡ [] → values_pass a vs ≡ true
accepted_values a [] e = refl
accepted_values a (v ∷ vs) e =
    let p = or_nil _ _ e in
    and_from _ _ (go (value_passes a v) refl p.0) (accepted_values a vs p.1)
  where
    go : (b : Bool) → value_passes a v ≡ b → value_kinds a.ignore_case (parser_of_value a.parser) v ≡ [] → b ≡ true
    go true is h = refl
    go false is h = cc (rw is at h)

-- ---- rows whose values passed

abbrev pub ValuesOk : Option CliOption → List Text → Type 0
ValuesOk None vs = ⊥
ValuesOk (Some o) vs = (values_pass (built_rule o) vs ≡ true) × (is_some (slice_get vs 0) ≡ true)

abbrev pub RowOk : List CliOption → Row → Type 0
RowOk options r = ValuesOk (opt_by_name options r.id) r.values × (r.reading ≡ AsWritten)

abbrev pub RowsOk : List CliOption → List Row → Type 0
RowsOk options [] = Unit {0}
RowsOk options (r ∷ rs) = RowOk options r × RowsOk options rs

rows_more : (options : List CliOption) (rows : List Row) (r : Row) → RowsOk options rows → RowOk options r → RowsOk options (rows ++ r ∷ [])
rows_more options [] r ok last = (last, tt)
rows_more options (x ∷ xs) r ok last = (ok.0, rows_more options xs r ok.1 last)

-- ---- one use of an option

no_repeat : (rows : List Row) (id : Text) (b : Bool) → has_row id rows ≡ b → (cond (b && true) (ArgumentConflict ∷ []) []) ≡ [] → has_row id rows ≡ false
no_repeat rows id true is e = cc e
no_repeat rows id false is e = is

set_ok : (options : List CliOption) (o : CliOption) (x : Text) (xs : List Text) (rows : List Row) → opt_by_name options o.name ≡ Some o → set_fault false (built_rule o) (x ∷ xs) rows ≡ []
    → RowsOk options rows → RowsOk options (with_values o.name AsWritten CommandLine (x ∷ xs) (without o.name rows))
set_ok options o x xs rows named e ok =
    let p = or_nil _ _ e in
    let new = no_repeat rows o.name (has_row o.name rows) refl p.0 in
    let passed = accepted_values (built_rule o) (x ∷ xs) p.1 in
    let row : Row = record { id = o.name; values = x ∷ xs; count = None; source = Some CommandLine; reading = AsWritten } in
    let kept : without o.name rows ≡ rows = at_no_row o.name (λ _. []) [] rows new ∙ append-nil rows in
    let added : with_values o.name AsWritten CommandLine (x ∷ xs) (without o.name rows) ≡ rows ++ row ∷ [] =
    ap (with_values o.name AsWritten CommandLine (x ∷ xs)) kept ∙ at_no_row o.name (more_values CommandLine (x ∷ xs)) (row ∷ []) rows new in
    subst (RowsOk options) (sym added) (rows_more options rows row ok (rw named (passed, refl), refl))

number_ok : (options : List CliOption) (low high : ℕ) (name : Text) (needed : Bool) (vs : List Text) (rows : List Row) → opt_by_name options name ≡ Some (number_opt low high name needed)
    → use_fault false (built_rule (number_opt low high name needed)) vs rows ≡ [] → RowsOk options rows → RowsOk options (used (built_rule (number_opt low high name needed)) vs rows)
number_ok options low high name needed [] rows named e ok = cc e
number_ok options low high name needed (v ∷ vs) rows named e ok = set_ok options (number_opt low high name needed) v vs rows named (or_nil _ _ e).1 ok

flag_ok : (options : List CliOption) (name : Text) (needed : Bool) (vs : List Text) (rows : List Row) → opt_by_name options name ≡ Some (flag_opt name needed)
    → use_fault false (built_rule (flag_opt name needed)) vs rows ≡ [] → RowsOk options rows → RowsOk options (used (built_rule (flag_opt name needed)) vs rows)
flag_ok options name needed [] rows named e ok = set_ok options (flag_opt name needed) (codes "true") [] rows named e ok
flag_ok options name needed (v ∷ vs) rows named e ok = set_ok options (flag_opt name needed) v vs rows named (or_nil _ _ e).1 ok

use_ok : (options : List CliOption) (o : CliOption) (vs : List Text) (rows : List Row) → opt_by_name options o.name ≡ Some o → use_fault false (built_rule o) vs rows ≡ []
    → RowsOk options rows → RowsOk options (used (built_rule o) vs rows)
use_ok options o vs rows named e ok = go o.kind refl
  where
    go : (k : OptionKind) → o.kind ≡ k → RowsOk options (used (built_rule o) vs rows)
    go flag is =
        let same : o ≡ flag_opt o.name o.needed = λ i. record o { kind = is i } in
        subst (λ (x : CliOption). RowsOk options (used (built_rule x) vs rows)) (sym same)
        (flag_ok options o.name o.needed vs rows (named ∙ ap (λ x. Some x) same) (subst (λ (x : CliOption). use_fault false (built_rule x) vs rows ≡ []) same e) ok)
    go (number low high) is =
        let same : o ≡ number_opt low high o.name o.needed = λ i. record o { kind = is i } in
        subst (λ (x : CliOption). RowsOk options (used (built_rule x) vs rows)) (sym same)
        (number_ok options low high o.name o.needed vs rows (named ∙ ap (λ x. Some x) same) (subst (λ (x : CliOption). use_fault false (built_rule x) vs rows ≡ []) same e) ok)

-- what holds of each flag and of each number holds of each option
each_kind : (P : CliOption → Type 0) → ((name : Text) (needed : Bool) → P (flag_opt name needed)) → ((low high : ℕ) (name : Text) (needed : Bool) → P (number_opt low high name needed)) → (o : CliOption) → P o
each_kind P f n o = go o.kind refl
  where
    go : (k : OptionKind) → o.kind ≡ k → P o
    go flag is = let same : flag_opt o.name o.needed ≡ o = λ i. record o { kind = sym is i } in subst P same (f o.name o.needed)
    go (number low high) is = let same : number_opt low high o.name o.needed ≡ o = λ i. record o { kind = sym is i } in subst P same (n low high o.name o.needed)

defaults_pass : (o : CliOption) → values_pass (built_rule o) (built_rule o).defaults ≡ true
defaults_pass = each_kind (λ o. values_pass (built_rule o) (built_rule o).defaults ≡ true) (λ name needed. refl) (λ low high name needed. refl)

reads_as_written : (o : CliOption) → reading_by (built_rule o) ≡ AsWritten
reads_as_written = each_kind (λ o. reading_by (built_rule o) ≡ AsWritten) (λ name needed. refl) (λ low high name needed. refl)

value_test : (v : Text) (o : CliOption) → value_passes (built_rule o) v ≡ value_accepted o.kind v
value_test v = each_kind (λ o. value_passes (built_rule o) v ≡ value_accepted o.kind v) (λ name needed. refl) (λ low high name needed. refl)

-- ---- the walk of a command

-- a rule that a search finds is that of an option
found_rule : (p : Rule → Bool) (all some : List CliOption) → EachKnown all some → (a : Rule) → find p (built_rules some) ≡ Some a → (o : CliOption) × (a ≡ built_rule o) × IsKnownOption all o
found_rule p all [] each a e = cc e
found_rule p all (o ∷ rest) each a e = go (p (built_rule o)) refl (found_rule p all rest each.1)
  where
    go : (b : Bool) → p (built_rule o) ≡ b → ((a : Rule) → find p (built_rules rest) ≡ Some a → (o : CliOption) × (a ≡ built_rule o) × IsKnownOption all o) → (o : CliOption) × (a ≡ built_rule o) × IsKnownOption all o
    go true here more = (o, sym (let h : Some (built_rule o) ≡ Some a = rw here at e in cc), each.0)
    go false here more = more a (rw here at e)

no_short : (options : List CliOption) (x : ℕ) → arg_by_short (built_rules options) x ≡ None
no_short [] x = refl
no_short (o ∷ rest) x = no_short rest x

no_index : (options : List CliOption) (i : ℕ) → arg_by_index (built_rules options) i ≡ None
no_index [] i = refl
no_index (o ∷ rest) i = no_index rest i

module _ (options : List CliOption) (each : EachKnown options options) where
  abbrev c : List Rule
  c = built_rules options

  by_id_ok : (p : Rule → Bool) (found : Option Rule) (vs : List Text) (rows : List Row) → find p c ≡ found → option_map_or (λ a. use_fault false a vs rows) found [] ≡ [] → RowsOk options rows
      → RowsOk options (used_by_id found vs rows)
  by_id_ok p None vs rows is e ok = ok
  by_id_ok p (Some a) vs rows is e ok =
      let o = found_rule p options options each a is in
      subst (λ (r : Rule). RowsOk options (used r vs rows)) (sym o.1) (use_ok options o.0 vs rows o.2.by_name (subst (λ (r : Rule). use_fault false r vs rows ≡ []) o.1 e) ok)

  settle_ok : (h : Held) → settle_fault c false h ≡ [] → RowsOk options h.rows → RowsOk options (settled c h).rows
  settle_ok h e ok = go h.pending refl
    where
      go : (p : Option (Text × List Text)) → h.pending ≡ p → RowsOk options (settled_rows c h.pending h.rows)
      go None is = rw is ok
      go (Some p) is = rw is (by_id_ok (λ a. bytes_eq a.id p.0) (arg_by_id c p.0) p.1 h.rows refl (rw is at e) ok)

  react_ok : (o : CliOption) (vs : List Text) (h : Held) → IsKnownOption options o → react_fault c false (built_rule o) vs h ≡ [] → RowsOk options h.rows → RowsOk options (reacted c (built_rule o) vs h).rows
  react_ok o vs h known e ok =
      let p = or_nil (settle_fault c false h) _ e in
      use_ok options o vs (settled c h).rows known.by_name p.1 (settle_ok h p.0 ok)

  abbrev s : Text → Shape
  s command = leaf_shape command options

  -- between two words
  abbrev HeldOk : Held → Type 0
  HeldOk h = (h.skip ≡ 0) × RowsOk options h.rows

  abbrev NoSubcommand : Step → Type 0
  NoSubcommand (subcommand name) = ⊥
  NoSubcommand _ = Unit {0}

  abbrev MetOk : Held × Step → Type 0
  MetOk m = HeldOk m.0 × NoSubcommand m.1

  plain_ok : (waiting : Waiting) (word : Text) (h : Held) → HeldOk h → MetOk (plain_word c waiting word h)
  plain_ok idle word h ok = (ok, tt)
  plain_ok positional word h ok = (ok, tt)
  plain_ok (option id) word h ok = go (arg_by_id c id)
    where
      go : (found : Option Rule) → MetOk ((option_word found id word h).0, next (option_word found id word h).1)
      go None = (ok, tt)
      go (Some a) = (ok, tt)

  long_ok : (waiting : Waiting) (word name : Text) (v : Option Text) (h : Held) → long_fault c false (arg_by_long c name) v h ≡ [] → HeldOk h → MetOk (long_word c waiting word name v h)
  long_ok waiting word name v h e ok = go (arg_by_long c name) refl
    where
      with_rule_of : (o : CliOption) (takes : Bool) (v : Option Text) → IsKnownOption options o → takes_values (built_rule o) ≡ takes → long_fault c false (Some (built_rule o)) v h ≡ []
          → MetOk (after_flag c waiting word (long_met c (Some (built_rule o)) v h).0 (long_met c (Some (built_rule o)) v h).1)
      with_rule_of o true (Some x) known takes f = rw takes ((ok.0, react_ok o (x ∷ []) h known (rw takes at f) ok.1), tt)
      with_rule_of o true None known takes f = rw takes ((ok.0, settle_ok h (rw takes at f) ok.1), tt)
      with_rule_of o false (Some x) known takes f = cc (rw takes at f)
      with_rule_of o false None known takes f = rw takes ((ok.0, react_ok o [] h known (rw takes at f) ok.1), tt)

      go : (found : Option Rule) → arg_by_long c name ≡ found → MetOk (long_word c waiting word name v h)
      go None is = cc (rw is at e)
      go (Some a) is =
          let o = found_rule (λ a. not (is_some a.index) && has_long a name) options options each a is in
          let there : arg_by_long c name ≡ Some (built_rule o.0) = is ∙ ap (λ x. Some x) o.1 in
          rw there (with_rule_of o.0 (takes_values (built_rule o.0)) v o.2 refl (rw there at e))

  pub bundle_plain : (k : ℕ) (flags : Text) (h : Held) → flags_fault c false k flags 0 h ≡ [] → bundle_met c k flags 0 plain h ≡ (h, plain)
  unfolding flags_fault bundle_met
  bundle_plain zero flags h e = refl
  bundle_plain (suc k) flags h e = go (slice_get (chars flags) 0) refl
    where
      go : (x : Option ℕ) → slice_get (chars flags) 0 ≡ x → bundle_step c x flags 0 plain h (bundle_met c k) ≡ (h, plain)
      go None is = refl
      go (Some x) is = cc (rw (is, no_short options x) at e)

  short_ok : (waiting : Waiting) (word : Text) (h : Held) (flags : Option Text) → option_map_or (λ f. bundle_fault c false f h) flags [] ≡ [] → HeldOk h
      → MetOk (short_or_plain c waiting word flags h)
  short_ok waiting word h None e ok = plain_ok waiting word h ok
  short_ok waiting word h (Some flags) e ok =
      let start : Held = record h { skip = 0 } in
      let fault : flags_fault c false (length flags) flags 0 start ≡ [] = ap (λ n. flags_fault c false (length flags) flags n start) (sym ok.0) ∙ e in
      let met : bundle c flags h ≡ (start, plain) = ap (λ n. bundle_met c (length flags) flags n plain start) ok.0 ∙ bundle_plain (length flags) flags start fault in
      subst (λ (m : Held × Outcome). MetOk (after_flag c waiting word m.0 m.1)) (sym met) (plain_ok waiting word start (refl, ok.1))

  flag_word_ok : (waiting : Waiting) (word : Text) (h : Held) (long : Option (Text × Option Text)) → flag_word_fault c false long word h ≡ [] → HeldOk h
      → MetOk (long_or_other c waiting word long h)
  flag_word_ok waiting word h (Some p) e ok = long_ok waiting word p.0 p.1 h e ok
  flag_word_ok waiting word h None e ok = short_ok waiting word h (short_of word) e ok

  no_command : (waiting : Waiting) (word : Text) → subcommand_met [] waiting word ≡ None
  no_command idle word = refl
  no_command positional word = refl
  no_command (option id) word = refl

  word_ok : (command : Text) (trailing : Bool) (waiting : Waiting) (position : ℕ) (word : Text) (h : Held) → word_fault (s command) [] trailing waiting word h ≡ [] → HeldOk h
      → MetOk (word_met c [] trailing waiting position word h)
  word_ok command true waiting position word h e ok = (ok, tt)
  word_ok command false waiting position word h e ok = rw (no_command waiting word) (go (bytes_eq word (45 ∷ 45 ∷ [])) refl)
    where
      fault : other_fault (s command) None word h ≡ []
      fault = rw (no_command waiting word) at e

      go : (b : Bool) → bytes_eq word (45 ∷ 45 ∷ []) ≡ b → MetOk (subcommand_or_other c None waiting position word h)
      go true is = rw is (ok, tt)
      go false is = rw is (flag_word_ok waiting word h (long_of word) (rw is at fault) ok)

  pub record WalkOk (w : Walk) : Type 0 where
    pub stopped : w.stopped ≡ None
    pub held : HeldOk w.held

  step_ok : (word : Text) (w : Walk) (h : Held) (step : Step) → w.stopped ≡ None → HeldOk h → NoSubcommand step → WalkOk (after_step c word w h step)
  step_ok word w h (next waiting) stopped ok none = record { stopped = stopped; held = ok }
  step_ok word w h (trailing position) stopped ok none = record { stopped = stopped; held = ok }
  step_ok word w h (subcommand name) stopped ok none = absurd none
  step_ok word w h value stopped ok none = rw (no_index options w.position) (record { stopped = stopped; held = ok })

  turn_ok : (command : Text) (w : Walk) (word : Text) → turn_fault (s command) [] w word ≡ [] → WalkOk w → WalkOk (walked c [] w word)
  unfolding walked
  turn_ok command w word e ok =
      let fault : or_else (word_fault (s command) [] w.is_trailing w.waiting word w.held) (step_fault (s command) w.position (word_met c [] w.is_trailing w.waiting w.position word w.held).0
      (word_met c [] w.is_trailing w.waiting w.position word w.held).1) ≡ [] = rw ok.stopped at e in
      let met = word_ok command w.is_trailing w.waiting w.position word w.held (or_nil _ _ fault).0 ok.held in
      rw ok.stopped (step_ok word (record w { stopped = None }) _ _ refl met.0 met.1)

  walk_ok : (command : Text) (words : List Text) (w : Walk) → walk_fault (s command) [] w words ≡ [] → WalkOk w → WalkOk (fold (walked c []) w words)
  unfolding walk_fault
  walk_ok command [] w e ok = ok
  walk_ok command (word ∷ rest) w e ok =
      let p = or_nil (turn_fault (s command) [] w word) _ e in
      walk_ok command rest (walked c [] w word) p.1 (turn_ok command w word p.0 ok)

  -- ---- after the walk

  default_ok : (rows : List Row) (o : CliOption) → opt_by_name options o.name ≡ Some o → RowsOk options rows → RowsOk options (with_default rows (built_rule o))
  default_ok rows o named ok = go (has_row o.name rows) refl
    where
      add : (ds : List Text) → has_row o.name rows ≡ false → values_pass (built_rule o) ds ≡ true → RowsOk options (default_rows o.name AsWritten ds rows)
      add [] new passed = ok
      add (d ∷ ds) new passed =
          let row : Row = record { id = o.name; values = d ∷ ds; count = None; source = Some DefaultValue; reading = AsWritten } in
          subst (RowsOk options) (sym (at_no_row o.name (more_values DefaultValue (d ∷ ds)) (row ∷ []) rows new)) (rows_more options rows row ok (rw named (passed, refl), refl))

      go : (b : Bool) → has_row o.name rows ≡ b → RowsOk options (with_default rows (built_rule o))
      go true is = rw is ok
      go false is = rw (is, reads_as_written o) (add (built_rule o).defaults is (defaults_pass o))

  defaults_ok : (some : List CliOption) → EachKnown options some → (rows : List Row) → RowsOk options rows → RowsOk options (fold with_default rows (built_rules some))
  defaults_ok [] known rows ok = ok
  defaults_ok (o ∷ rest) known rows ok = defaults_ok rest known.1 (with_default rows (built_rule o)) (default_ok rows o known.0.by_name ok)

  row_ok_at : (id : Text) (rows : List Row) (r : Row) → row_at id rows ≡ Some r → RowsOk options rows → (r.id ≡ id) × RowOk options r
  row_ok_at id [] r e ok = cc e
  row_ok_at id (x ∷ xs) r e ok = go (bytes_eq x.id id) refl (row_ok_at id xs r)
    where
      go : (b : Bool) → bytes_eq x.id id ≡ b → (row_at id xs ≡ Some r → RowsOk options xs → (r.id ≡ id) × RowOk options r) → (r.id ≡ id) × RowOk options r
      go true is more =
          let same : x ≡ r = let h : Some x ≡ Some r = rw is at e in cc in
          subst (λ (y : Row). (y.id ≡ id) × RowOk options y) same ((bytes_eq-Decides x.id id).0 is, ok.0)
      go false is more = more (rw is at e) ok.1

  -- the option's value is one that its parser takes
  option_ok : (o : CliOption) (rows : List Row) → opt_by_name options o.name ≡ Some o → RowsOk options rows → (not o.needed || is_used o.name rows) ≡ true → is_accepted rows o ≡ true
  option_ok o rows named ok used = go (row_at o.name rows) refl
    where
      absent : (b : Bool) → (not b || false) ≡ true → not b ≡ true
      absent true h = h
      absent false h = refl

      with_values_of : (vs : List Text) → ValuesOk (Some o) vs → option_map_or (value_accepted o.kind) (option_map (λ (v : Text). v) (slice_get vs 0)) (not o.needed) ≡ true
      with_values_of [] h = absurd (true≢false (sym h.1))
      with_values_of (v ∷ vs) h = sym (value_test v o) ∙ (both (value_passes (built_rule o) v) _ h.0).0

      go : (found : Option Row) → row_at o.name rows ≡ found → is_accepted rows o ≡ true
      go None is = rw is (absent o.needed (rw is at used))
      go (Some r) is =
          let there = row_ok_at o.name rows r is ok in
          let values : ValuesOk (Some o) r.values = subst (λ (x : Option CliOption). ValuesOk x r.values) named (subst (λ (x : Text). ValuesOk (opt_by_name options x) r.values) there.0 there.1.0) in
          rw (is, there.1.1) (with_values_of r.values values)

  options_ok : (some : List CliOption) (rows : List Row) → EachKnown options some → RowsOk options rows → list_any (λ (a : Rule). a.required && not (is_used a.id rows)) (built_rules some) ≡ false
      → list_all (is_accepted rows) some ≡ true
  options_ok [] rows known ok used = refl
  options_ok (o ∷ rest) rows known ok used =
      let p = neither (o.needed && not (is_used o.name rows)) _ used in
      and_from _ _ (option_ok o rows known.0.by_name ok (given o.needed (is_used o.name rows) p.0)) (options_ok rest rows known.1 ok p.1)
    where
      neither : (a b : Bool) → (a || b) ≡ false → (a ≡ false) × (b ≡ false)
      neither true b h = absurd (true≢false h)
      neither false b h = (refl, h)

      given : (a b : Bool) → (a && not b) ≡ false → (not a || b) ≡ true
      given true true h = refl
      given true false h = absurd (true≢false h)
      given false b h = refl

  -- where clap refuses nothing, the options have accepted values
  pub leaf_accepted : (command : Text) (words : List Text) → level_fault (s command) [] nothing_held words false [] ≡ [] → list_all (is_accepted (rows_after c [] words)) options ≡ true
  leaf_accepted command words e =
      let end = (walk c [] nothing_held words).held in
      let p = or_nil (walk_fault (s command) [] (walk_from nothing_held) words) _ e in
      let q = or_nil (settle_fault c false end) _ p.1 in
      let r = or_nil (defaults_fault (settled c end).rows c) _ q.1 in
      let walks = walk_ok command words (walk_from nothing_held) p.0 (record { stopped = refl; held = (refl, tt) }) in
      let rows = defaults_ok options each (settled c end).rows (settle_ok end q.0 walks.held.1) in
      options_ok options (rows_after c [] words) each rows (none_missing _ r.1)
    where
      none_missing : (b : Bool) → cond b (MissingRequiredArgument ∷ []) [] ≡ [] → b ≡ false
      none_missing true h = cc h
      none_missing false h = refl
