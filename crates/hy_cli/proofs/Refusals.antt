-- Where clap refuses nothing, the words name a command, and its options have accepted values.
use Rattle.std.proofs.Common.{◌≡◌, ◌∙◌, Bool, true, false, refl, sym, ap, subst, List, [], ◌∷◌, length, Option, Some, None, is_some, option_map}
use Rattle.std.specs.Prelude.{slice_get}
use Rattle.std.specs.Option.{option_map_or}
use Rattle.std.specs.List.{list_all}
use Rattle.std.specs.Str.{bytes_eq}
use Rattle.clap.specs.Lexer.{long_of, short_of}
use Rattle.clap.specs.Walk.{Held, Outcome, Row, Walk, after_flag, bundle, bundle_met, finished, settled, idle, long_or_other, nothing_held, plain, rows_after, short_or_plain, subcommand_met, subcommand_or_other, walk, walk_from, walked}
use Rattle.clap.specs.Simple.{Shape, built, entered, rows_at, subcommand_of}
use Rattle.clap.specs.Kinds.{Kinds, or_else}
use Rattle.clap.specs.Faults.{bundle_fault, check_fault, defaults_fault, settle_fault, entered_fault, fault_of, flag_word_fault, flags_fault, level_fault, other_fault, step_fault, turn_fault, walk_fault}
use Rattle.hy_base.specs.Spelling.{Text}
use Rattle.hy_cli.specs.CommandLine.{CliCommand, CliOption, command_named, names_command}
use Rattle.hy_cli.specs.Matches.{has_accepted, hyder_app, is_accepted}
use Rattle.hy_cli.proofs.Walks.{built_rules, leaf_shape}
use Rattle.hy_cli.proofs.Accepted.{bundle_plain, leaf_accepted, or_nil}
use Rattle.hy_cli.proofs.Lines.{Enters, IsTableRow, enters, named_row, names, top, unknown_word, walk_ends}

-- ---- the words name a command

named_accepted : (program name : Text) (options : List CliOption) → Enters name options → (rest : List Text) → fault_of hyder_app (program ∷ (name ∷ rest)) ≡ []
    → (subcommand_of hyder_app (program ∷ (name ∷ rest)) ≡ Some (name, rows_after (built_rules options) [] rest)) × (list_all (is_accepted (rows_after (built_rules options) [] rest)) options ≡ true)
named_accepted program name options enters rest e =
    let ends = walk_ends name options enters rest in
    let stop = (walk top.rules names nothing_held (name ∷ rest)).stopped in
    let p = or_nil (walk_fault top names (walk_from nothing_held) (name ∷ rest)) _ e in
    let q = or_nil (entered_fault (built hyder_app) stop) _ p.1 in
    let entered_is : entered_fault (built hyder_app) stop ≡ level_fault (leaf_shape name options) [] nothing_held rest false [] =
    ap (λ (w : Walk). entered_fault (built hyder_app) w.stopped) ends ∙ ap (λ (o : Option Shape). option_map_or (λ s. level_fault s [] nothing_held rest false []) o []) enters.found in
    let rows_are : subcommand_of hyder_app (program ∷ (name ∷ rest)) ≡ Some (name, rows_after (built_rules options) [] rest) =
    ap (λ (w : Walk). entered (built hyder_app) w.stopped) ends ∙ ap (option_map (λ s. rows_at s rest)) enters.found in
    (rows_are, leaf_accepted options enters.table.known name rest (sym entered_is ∙ q.0))

-- ---- the words name none

stray_plain : (word : Text) (h : Held) → step_fault top 1 (after_flag [] idle word h plain).0 (after_flag [] idle word h plain).1 ≡ [] → ⊥
stray_plain word h e = cc e

stray_short : (word : Text) (h : Held) (flags : Option Text) → h.skip ≡ 0 → option_map_or (λ f. bundle_fault [] false f h) flags [] ≡ []
    → step_fault top 1 (short_or_plain [] idle word flags h).0 (short_or_plain [] idle word flags h).1 ≡ [] → ⊥
stray_short word h None skip faults step = cc step
stray_short word h (Some flags) skip faults step =
    let start : Held = record h { skip = 0 } in
    let fault : flags_fault [] false (length flags) flags 0 start ≡ [] = ap (λ n. flags_fault [] false (length flags) flags n start) (sym skip) ∙ faults in
    let met : bundle [] flags h ≡ (start, plain) = ap (λ n. bundle_met [] (length flags) flags n plain start) skip ∙ bundle_plain [] tt (length flags) flags start fault in
    stray_plain word start (subst (λ (m : Held × Outcome). step_fault top 1 (after_flag [] idle word m.0 m.1).0 (after_flag [] idle word m.0 m.1).1 ≡ []) met step)

stray_word : (word : Text) (long : Option (Text × Option Text)) → flag_word_fault [] false long word nothing_held ≡ []
    → step_fault top 1 (long_or_other [] idle word long nothing_held).0 (long_or_other [] idle word long nothing_held).1 ≡ [] → ⊥
stray_word word (Some p) faults step = cc faults
stray_word word None faults step = stray_short word nothing_held (short_of word) refl faults step

-- a word that is no command, and not `--`, is refused
refused_word : (word : Text) → subcommand_met names idle word ≡ None → turn_fault top names (walk_from nothing_held) word ≡ [] → bytes_eq word (45 ∷ 45 ∷ []) ≡ true
refused_word word unknown e = go (bytes_eq word (45 ∷ 45 ∷ [])) refl
  where
    fault : or_else (other_fault top None word nothing_held) (step_fault top 1 (subcommand_or_other [] None idle 1 word nothing_held).0 (subcommand_or_other [] None idle 1 word nothing_held).1) ≡ []
    fault = rw unknown at e

    go : (b : Bool) → bytes_eq word (45 ∷ 45 ∷ []) ≡ b → b ≡ true
    go true is = refl
    go false is =
        let p = or_nil (other_fault top None word nothing_held) (step_fault top 1 (subcommand_or_other [] None idle 1 word nothing_held).0 (subcommand_or_other [] None idle 1 word nothing_held).1) fault in
        absurd (stray_word word (long_of word) (rw is at p.0) (rw is at p.1))

after_dashes : (word : Text) → subcommand_met names idle word ≡ None → bytes_eq word (45 ∷ 45 ∷ []) ≡ true
    → walked [] names (walk_from nothing_held) word ≡ record (walk_from nothing_held) { is_trailing = true }
unfolding walked
after_dashes word unknown is = rw (unknown, is) refl

-- what is checked after a walk
abbrev end_fault : Walk → Kinds
end_fault w = or_else (entered_fault (built hyder_app) w.stopped) (or_else (settle_fault top.rules false w.held) (or_else (defaults_fault (settled top.rules w.held).rows top.rules)
    (check_fault top (finished top.rules w.held) (is_some (entered (built hyder_app) w.stopped)))))

none_named : (program word : Text) (rest : List Text) → subcommand_met names idle word ≡ None → fault_of hyder_app (program ∷ (word ∷ rest)) ≡ [] → ⊥
unfolding walk_fault defaults_fault
none_named program word [] unknown e =
    let all = or_nil (walk_fault top names (walk_from nothing_held) (word ∷ [])) (end_fault (walk top.rules names nothing_held (word ∷ []))) e in
    let p = or_nil (turn_fault top names (walk_from nothing_held) word) _ all.0 in
    let dashes = after_dashes word unknown (refused_word word unknown p.0) in
    let missing : end_fault (record (walk_from nothing_held) { is_trailing = true }) ≡ [] = sym (ap end_fault dashes) ∙ all.1 in
    cc missing
none_named program word (v ∷ vs) unknown e =
    let all = or_nil (walk_fault top names (walk_from nothing_held) (word ∷ (v ∷ vs))) _ e in
    let p = or_nil (turn_fault top names (walk_from nothing_held) word) _ all.0 in
    let q = or_nil (turn_fault top names (walked top.rules names (walk_from nothing_held) word) v) _ p.1 in
    let dashes = after_dashes word unknown (refused_word word unknown p.0) in
    let stray : turn_fault top names (record (walk_from nothing_held) { is_trailing = true }) v ≡ [] = sym (ap (λ (w : Walk). turn_fault top names w v) dashes) ∙ q.0 in
    cc stray

no_words_refused : fault_of hyder_app [] ≡ [] → ⊥
unfolding walk_fault defaults_fault
no_words_refused e = cc e

one_word_refused : (program : Text) → fault_of hyder_app (program ∷ []) ≡ [] → ⊥
unfolding walk_fault defaults_fault
one_word_refused program e = cc e

-- ---- what clap takes

-- the words name a command, and the command's options have accepted values
pub record IsTaken (words : List Text) : Type 0 where
  pub name : Text
  pub rows : List Row
  pub entered : subcommand_of hyder_app words ≡ Some (name, rows)
  pub command : is_some (command_named name) ≡ true
  pub accepted : has_accepted name rows ≡ true
  pub named : names_command words ≡ true
  pub first : slice_get words 1 ≡ Some name

command_taken : (program : Text) (c : CliCommand) (rest : List Text) → IsTableRow c → command_named c.name ≡ Some c → fault_of hyder_app (program ∷ (c.name ∷ rest)) ≡ [] → IsTaken (program ∷ (c.name ∷ rest))
command_taken program c rest row known e =
    let rows = rows_after (built_rules c.options) [] rest in
    let taken = named_accepted program c.name c.options (enters c known row.table) rest e in
    record {
      name = c.name;
      rows = rows;
      entered = taken.0;
      command = ap is_some known;
      accepted = ap (λ found. option_map_or (λ c. list_all (is_accepted rows) c.options) found false) known ∙ taken.1;
      named = ap is_some known;
      first = refl;
    }

word_taken : (program word : Text) (rest : List Text) → fault_of hyder_app (program ∷ (word ∷ rest)) ≡ [] → IsTaken (program ∷ (word ∷ rest))
word_taken program word rest e = go (command_named word) refl
  where
    go : (found : Option CliCommand) → command_named word ≡ found → IsTaken (program ∷ (word ∷ rest))
    go None is = absurd (none_named program word rest (unknown_word word is) e)
    go (Some c) is =
        let row = named_row word c is in
        let here = subst (λ (x : Text). fault_of hyder_app (program ∷ (x ∷ rest)) ≡ []) (sym row.0) e in
        subst (λ (x : Text). IsTaken (program ∷ (x ∷ rest))) row.0 (command_taken program c rest row.1 (ap command_named row.0 ∙ is) here)

pub taken_words : (words : List Text) → fault_of hyder_app words ≡ [] → IsTaken words
taken_words [] e = absurd (no_words_refused e)
taken_words (program ∷ []) e = absurd (one_word_refused program e)
taken_words (program ∷ (word ∷ rest)) e = word_taken program word rest e
