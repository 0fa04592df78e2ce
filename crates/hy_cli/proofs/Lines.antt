-- clap takes each command line, and its matches mean what the words ask for.
use Rattle.std.proofs.Common.{◌≡◌, ◌∙◌, Bool, true, false, refl, sym, ap, subst, List, [], ◌∷◌, ◌++◌, Option, Some, None, codes, option_map}
use Rattle.std.specs.Prelude.{fold, map, option_and_then}
use Rattle.std.specs.List.{find}
use Rattle.std.specs.Str.{bytes_eq}
use Rattle.clap.specs.Walk.{Names, Walk, answers_to, idle, nothing_held, subcommand_met, rows_after, walk, walk_from, walked}
use Rattle.clap.specs.Simple.{Shape, built, entered, rows_at, is_simple, label_of, names_of, subcommand_of}
use Rattle.clap.specs.Takes.{takes, walk_passes}
use Rattle.clap.proofs.WalkLemmas.{walk_stopped}
use Rattle.std.proofs.lemmas.Slice.Eq.{bytes_eq-Decides}
use Rattle.hy_base.specs.Spelling.{Text}
use Rattle.hy_base.specs.Limits.{most_threads, largest_load}
use Rattle.hy_cli.specs.CommandLine.{CliCommand, CliOption, Given, choices_given, follow_command, command_line, command_named, commands, given_all, line_of, load_command, point_option, report_command, reports, run_command, save_option, seed_option, sim_command, size_option, threads_option}
use Rattle.hy_cli.specs.Matches.{choices_found, hyder_app, line_found, meant}
use Rattle.hy_cli.specs.declared.commands.Line.{Line}
use Rattle.hy_cli.specs.declared.commands.Line.TheVariants.{Run, Sim, Follow, Load}
use Rattle.hy_cli.specs.declared.commands.Report.{Report}
use Rattle.hy_cli.proofs.Matches.{flag_same, number_same}
use Rattle.hy_cli.proofs.Walks.{AreRight, built_rules, leaf_shape}
use Rattle.hy_cli.proofs.Levels.{IsTable, leaf_takes, rows_of_all}

-- ---- the tables of options

no_table : IsTable []
no_table = record { known = tt; defaults = refl; free = refl }

sim_table : IsTable sim_command.options
sim_table = record {
  known = (record { long = refl; dashes = refl; by_long = refl; by_id = refl; by_name = refl }, tt);
  defaults = refl;
  free = refl;
}

run_table : IsTable run_command.options
run_table = record {
  known = (
    record { long = refl; dashes = refl; by_long = refl; by_id = refl; by_name = refl },
    (
      record { long = refl; dashes = refl; by_long = refl; by_id = refl; by_name = refl },
      (record { long = refl; dashes = refl; by_long = refl; by_id = refl; by_name = refl }, tt),
    ),
  );
  defaults = refl;
  free = refl;
}

load_table : IsTable load_command.options
load_table = record {
  known = (
    record { long = refl; dashes = refl; by_long = refl; by_id = refl; by_name = refl },
    (
      record { long = refl; dashes = refl; by_long = refl; by_id = refl; by_name = refl },
      (record { long = refl; dashes = refl; by_long = refl; by_id = refl; by_name = refl }, tt),
    ),
  );
  defaults = refl;
  free = refl;
}

-- ---- the program

stopped_passes : (s : Shape) (names : Names) (w : Walk) (name : Text) (seen words : List Text) → walk_passes s names (record w { stopped = Some (name, seen) }) words ≡ true
unfolding walk_passes walked
stopped_passes s names w name seen [] = refl
stopped_passes s names w name seen (x ∷ xs) = stopped_passes s names w name (seen ++ x ∷ []) xs

pub program_simple : is_simple hyder_app ≡ true
program_simple = refl

abbrev pub top : Shape
top = (built hyder_app).top

abbrev pub names : Names
names = names_of (built hyder_app)

-- a command among those of the program
abbrev leaf_of : CliCommand → Shape
leaf_of c = leaf_shape c.name c.options

-- what clap finds by a name is the command of that name
found_as : {T : Type 0} (f : CliCommand → T) (label : T → Text × List Text) → ((c : CliCommand) → label (f c) ≡ (c.name, [])) → (cs : List CliCommand) (word : Text)
    → find (λ t. answers_to word (label t)) (map f cs) ≡ option_map f (find (λ c. bytes_eq c.name word) cs)
found_as f label same [] word = refl
found_as f label same (c ∷ cs) word = go (bytes_eq c.name word) refl (found_as f label same cs word)
  where
    go : (b : Bool) → bytes_eq c.name word ≡ b → find (λ t. answers_to word (label t)) (map f cs) ≡ option_map f (find (λ c. bytes_eq c.name word) cs)
        → find (λ t. answers_to word (label t)) (map f (c ∷ cs)) ≡ option_map f (find (λ c. bytes_eq c.name word) (c ∷ cs))
    go true here more = rw (same c, here) refl
    go false here more = rw (same c, here) more

met_as : (word : Text) → subcommand_met names idle word ≡ option_map (λ c. c.name) (command_named word)
met_as word = ap (option_map (λ (s : Text × List Text). s.0)) (found_as (λ c. (c.name, [])) (λ l. l) (λ c. refl) commands word) ∙ fused (command_named word)
  where
    fused : (found : Option CliCommand) → option_map (λ (s : Text × List Text). s.0) (option_map (λ c. (c.name, [])) found) ≡ option_map (λ c. c.name) found
    fused None = refl
    fused (Some c) = refl

-- the command of this name has these options
pub record Enters (name : Text) (options : List CliOption) : Type 0 where
  pub met : walked top.rules names (walk_from nothing_held) name ≡ record (walk_from nothing_held) { stopped = Some (name, []) }
  pub passes : (rest : List Text) → walk_passes top names (walk_from nothing_held) (name ∷ rest) ≡ walk_passes top names (record (walk_from nothing_held) { stopped = Some (name, []) }) rest
  pub found : find (λ s. answers_to name (label_of s)) (built hyder_app).subs ≡ Some (leaf_shape name options)
  pub table : IsTable options

pub enters : (c : CliCommand) → command_named c.name ≡ Some c → IsTable c.options → Enters c.name c.options
unfolding walked walk_passes
enters c named table =
    let met : subcommand_met names idle c.name ≡ Some c.name = met_as c.name ∙ ap (option_map (λ c. c.name)) named in
    record {
      met = rw met refl;
      passes = λ rest. passes rest (bytes_eq c.name (codes "help")) refl met;
      found = found_as leaf_of label_of (λ c. refl) commands c.name ∙ ap (option_map leaf_of) named;
      table = table;
    }
  where
    passes : (rest : List Text) (b : Bool) → bytes_eq c.name (codes "help") ≡ b → subcommand_met names idle c.name ≡ Some c.name
        → walk_passes top names (walk_from nothing_held) (c.name ∷ rest) ≡ walk_passes top names (record (walk_from nothing_held) { stopped = Some (c.name, []) }) rest
    passes rest true is met = rw (met, is) refl
    passes rest false is met = rw (met, is) refl

-- the words after the command's name are left to the command
pub walk_ends : (name : Text) (options : List CliOption) → Enters name options → (rest : List Text)
    → walk top.rules names nothing_held (name ∷ rest) ≡ record (walk_from nothing_held) { stopped = Some (name, rest) }
walk_ends name options enters rest =
    ap (λ (w : Walk). fold (walked top.rules names) w rest) enters.met ∙ sym (walk_stopped top.rules names (walk_from nothing_held) name [] rest)

pub takes_command : (program name : Text) (options : List CliOption) → Enters name options → (rest : List Text) (g : Given) → given_all options rest ≡ Some g
    → (takes hyder_app (program ∷ (name ∷ rest)) ≡ true) × (subcommand_of hyder_app (program ∷ (name ∷ rest)) ≡ Some (name, rows_of_all options g)) × AreRight options g
takes_command program name options enters rest g e =
    let leaf = leaf_takes name options enters.table rest g e in
    let ends = walk_ends name options enters rest in
    let passes : walk_passes top names (walk_from nothing_held) (name ∷ rest) ≡ true = enters.passes rest ∙ stopped_passes top names (walk_from nothing_held) name [] rest in
    let entered_is : subcommand_of hyder_app (program ∷ (name ∷ rest)) ≡ Some (name, rows_after (built_rules options) [] rest) =
    ap (λ (w : Walk). entered (built hyder_app) w.stopped) ends ∙ ap (option_map (λ s. rows_at s rest)) enters.found in
    (rw (ends, enters.found, passes, leaf.0) refl, entered_is ∙ ap (λ rows. Some (name, rows)) leaf.1, leaf.2)

-- ---- the table of commands

-- the matches of a command mean what was given
pub record IsTableRow (c : CliCommand) : Type 0 where
  pub table : IsTable c.options
  pub means : (g : Given) → AreRight c.options g → c.line (choices_found (rows_of_all c.options g)) ≡ c.line (choices_given g)

abbrev AreTableRows : List CliCommand → Type 0
AreTableRows [] = Unit {0}
AreTableRows (c ∷ cs) = IsTableRow c × AreTableRows cs

run_means : (g : Given) → AreRight run_command.options g → run_command.line (choices_found (rows_of_all run_command.options g)) ≡ run_command.line (choices_given g)
run_means g right =
    let rows = rows_of_all run_command.options g in
    let threads = number_same run_command.options (codes "threads") 1 most_threads 2 threads_option g rows right refl refl refl refl in
    let point = flag_same run_command.options (codes "point") point_option _ g rows right refl refl refl refl refl in
    let save = flag_same run_command.options (codes "save") save_option _ g rows right refl refl refl refl refl in
    λ i. Run (threads i) (point i) (save i)

sim_means : (g : Given) → AreRight sim_command.options g → sim_command.line (choices_found (rows_of_all sim_command.options g)) ≡ sim_command.line (choices_given g)
sim_means g right = ap (λ n. Sim n) (number_same sim_command.options (codes "threads") 1 most_threads 2 threads_option g (rows_of_all sim_command.options g) right refl refl refl refl)

follow_means : (g : Given) → AreRight follow_command.options g → follow_command.line (choices_found (rows_of_all follow_command.options g)) ≡ follow_command.line (choices_given g)
follow_means g right = ap (λ n. Follow n) (number_same follow_command.options (codes "threads") 1 most_threads 2 threads_option g (rows_of_all follow_command.options g) right refl refl refl refl)

load_means : (g : Given) → AreRight load_command.options g → load_command.line (choices_found (rows_of_all load_command.options g)) ≡ load_command.line (choices_given g)
load_means g right =
    let rows = rows_of_all load_command.options g in
    let seed = number_same load_command.options (codes "seed") 0 18446744073709551615 0 seed_option g rows right refl refl refl refl in
    let size = number_same load_command.options (codes "size") 1 largest_load 1 size_option g rows right refl refl refl refl in
    let threads = number_same load_command.options (codes "threads") 1 most_threads 2 threads_option g rows right refl refl refl refl in
    λ i. Load (seed i) (size i) (threads i)

report_rows : (reports : List Report) → AreTableRows (map report_command reports)
report_rows [] = tt
report_rows (r ∷ reports) = (record { table = no_table; means = λ g right. refl }, report_rows reports)

all_rows : AreTableRows commands
all_rows = (
  record { table = run_table; means = run_means },
  (
    record { table = sim_table; means = sim_means },
    (
      record { table = no_table; means = λ g right. refl },
      (record { table = sim_table; means = follow_means }, (record { table = load_table; means = load_means }, report_rows reports)),
    ),
  ),
)

found_row : (cs : List CliCommand) → AreTableRows cs → (word : Text) (c : CliCommand) → find (λ c. bytes_eq c.name word) cs ≡ Some c → (c.name ≡ word) × IsTableRow c
found_row [] rows word c e = cc e
found_row (x ∷ cs) rows word c e = go (bytes_eq x.name word) refl (found_row cs rows.1 word c)
  where
    go : (b : Bool) → bytes_eq x.name word ≡ b → (find (λ c. bytes_eq c.name word) cs ≡ Some c → (c.name ≡ word) × IsTableRow c) → (c.name ≡ word) × IsTableRow c
    go true here more =
        let same : x ≡ c = cc (rw here at e) in
        subst (λ (y : CliCommand). (y.name ≡ word) × IsTableRow y) same ((bytes_eq-Decides x.name word).0 here, rows.0)
    go false here more = more (rw here at e)

-- a command that a word names has that name, and is a row of the table
pub named_row : (word : Text) (c : CliCommand) → command_named word ≡ Some c → (c.name ≡ word) × IsTableRow c
named_row word c e = found_row commands all_rows word c e

-- and a word that names none is none of clap's either
pub unknown_word : (word : Text) → command_named word ≡ None → subcommand_met names idle word ≡ None
unknown_word word e = met_as word ∙ ap (option_map (λ c. c.name)) e

-- ---- what a line means

abbrev Obeys : Text → Text → List Text → Line → Type 0
Obeys program name rest l = (takes hyder_app (program ∷ (name ∷ rest)) ≡ true) × (meant (subcommand_of hyder_app (program ∷ (name ∷ rest))) ≡ Some l)

-- from what a command was given to what its matches mean
command_obeyed : (program : Text) (c : CliCommand) (rest : List Text) (l : Line) → IsTableRow c → command_named c.name ≡ Some c → command_line c rest ≡ Some l → Obeys program c.name rest l
command_obeyed program c rest l row known e = go (given_all c.options rest) refl
  where
    go : (given : Option Given) → given_all c.options rest ≡ given → Obeys program c.name rest l
    go None is = cc (rw is at e)
    go (Some g) is =
        let taken = takes_command program c.name c.options (enters c known row.table) rest g is in
        let same : c.line (choices_given g) ≡ l = cc (rw is at e) in
        let rows = rows_of_all c.options g in
        let here : line_found c.name rows ≡ Some (c.line (choices_found rows)) = ap (option_map (λ c. c.line (choices_found rows))) known in
        (taken.0, ap meant taken.1 ∙ here ∙ ap (λ x. Some x) (row.means g taken.2 ∙ same))

word_obeyed : (program word : Text) (rest : List Text) (l : Line) → option_and_then (λ c. command_line c rest) (command_named word) ≡ Some l → Obeys program word rest l
word_obeyed program word rest l e = go (command_named word) refl
  where
    go : (found : Option CliCommand) → command_named word ≡ found → Obeys program word rest l
    go None is = cc (rw is at e)
    go (Some c) is =
        let row = named_row word c is in
        subst (λ (x : Text). Obeys program x rest l) row.0 (command_obeyed program c rest l row.1 (ap command_named row.0 ∙ is) (rw is at e))

-- a command line is taken, and its matches mean it
pub line_obeyed : (words : List Text) (l : Line) → line_of words ≡ Some l → (takes hyder_app words ≡ true) × (meant (subcommand_of hyder_app words) ≡ Some l)
line_obeyed [] l e = cc e
line_obeyed (program ∷ []) l e = cc e
line_obeyed (program ∷ (word ∷ rest)) l e = word_obeyed program word rest l e
