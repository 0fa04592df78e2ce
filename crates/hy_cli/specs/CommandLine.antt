-- What the words of a command line ask for: one command with its options, or nothing.
--     A command is a row of the table `commands`, and an option is one of its command's table. So a further command or
--     option is a further row; a command that tells of the log is one of `reports`.
use Rattle.std.specs.Prelude.{ℕ, Bool, true, false, not, ◌&&◌, ◌||◌, List, [], ◌∷◌, ◌++◌, Option, Some, None, if◌then◌else◌}
use Rattle.std.specs.Prelude.{map, codes, bytes_eq, option_map, option_and_then, slice_get, is_some}
use Rattle.std.specs.List.{find, list_all, list_any}
use Rattle.std.specs.Option.{option_map_or}
use Rattle.std.specs.Str.Parse.{digits_value}
use Rattle.hy_base.specs.Spelling.{Text, number_of}
use Rattle.hy_base.specs.Shape.{is_within}
use Rattle.hy_base.specs.Limits.{IsThreadCount, IsLoadSize, largest_load, most_threads}
use Rattle.hy_cli.specs.declared.commands.Line.{Line}
use Rattle.hy_cli.specs.declared.commands.Line.TheVariants.{Run, Sim, Tell, Compact, Follow, Load}
use Rattle.hy_cli.specs.declared.commands.Report.{Report}
use Rattle.hy_cli.specs.declared.commands.Report.TheVariants.{Dump, Verdicts, Stream}

-- ---- options

-- an option without a value, or one whose value is a number from the first to the second
pub data OptionKind : Type 0 where
  flag : OptionKind
  number : ℕ → ℕ → OptionKind

-- an option: its name without the hyphens, and whether its command can't do without
pub record CliOption : Type 0 where
  pub name : Text
  pub kind : OptionKind
  pub needed : Bool

-- the options that were given, each with its value, the first first
abbrev pub Given : Type 0
Given = List (Text × Text)

abbrev pub is_given : Text → Given → Bool
is_given name given = list_any (λ p. bytes_eq p.0 name) given

abbrev pub value_of : Text → Given → Option Text
value_of name given = option_map (λ p. p.1) (find (λ p. bytes_eq p.0 name) given)

-- What the options of a command say: the number of one, or another number where it was not given; and whether a flag was given.
pub record Choices : Type 0 where
  pub number_or : ℕ → Text → ℕ
  pub has : Text → Bool

abbrev pub choices_given : Given → Choices
choices_given given = record {
  number_or = λ otherwise name. option_map_or (digits_value 10) (value_of name given) otherwise;
  has = λ name. is_given name given;
}

-- ---- commands

-- a command: its name, its options, and what it asks for
pub record CliCommand : Type 0 where
  pub name : Text
  pub options : List CliOption
  pub line : Choices → Line

abbrev pub threads_option : CliOption
threads_option = record { name = codes "threads"; kind = number 1 most_threads; needed = false }

abbrev pub point_option : CliOption
point_option = record { name = codes "point"; kind = flag; needed = false }

abbrev pub save_option : CliOption
save_option = record { name = codes "save"; kind = flag; needed = false }

abbrev pub seed_option : CliOption
seed_option = record { name = codes "seed"; kind = number 0 18446744073709551615; needed = true }

abbrev pub size_option : CliOption
size_option = record { name = codes "size"; kind = number 1 largest_load; needed = true }

abbrev pub run_command : CliCommand
run_command = record {
  name = codes "run";
  options = threads_option ∷ point_option ∷ save_option ∷ [];
  line = λ c. Run (c.number_or 2 (codes "threads")) (c.has (codes "point")) (c.has (codes "save"));
}

abbrev pub sim_command : CliCommand
sim_command = record { name = codes "sim"; options = threads_option ∷ []; line = λ c. Sim (c.number_or 2 (codes "threads")) }

abbrev pub compact_command : CliCommand
compact_command = record { name = codes "compact"; options = []; line = λ c. Compact }

abbrev pub follow_command : CliCommand
follow_command =
    record { name = codes "follow"; options = threads_option ∷ []; line = λ c. Follow (c.number_or 2 (codes "threads")) }

-- the seed and the size have to be given, so the number for one that is not is never taken
abbrev pub load_command : CliCommand
load_command = record {
  name = codes "load";
  options = seed_option ∷ size_option ∷ threads_option ∷ [];
  line = λ c. Load (c.number_or 0 (codes "seed")) (c.number_or 1 (codes "size")) (c.number_or 2 (codes "threads"));
}

-- what is told of a log, each by a command of this name, without options
abbrev pub reports : List Report
reports = Dump ∷ Verdicts ∷ Stream ∷ []

abbrev pub report_word : Report → Text
report_word Dump = codes "recover"
report_word Verdicts = codes "check"
report_word Stream = codes "ship"

abbrev pub report_command : Report → CliCommand
report_command report = record { name = report_word report; options = []; line = λ c. Tell report }

abbrev pub commands : List CliCommand
commands =
    run_command ∷ sim_command ∷ compact_command ∷ follow_command ∷ load_command ∷ map report_command reports

abbrev pub command_named : Text → Option CliCommand
command_named word = find (λ c. bytes_eq c.name word) commands

-- the numbers of a line are in their ranges
abbrev pub IsInOptionRange : Line → Type 0
IsInOptionRange (Run threads point save) = IsThreadCount threads
IsInOptionRange (Sim threads) = IsThreadCount threads
IsInOptionRange (Follow threads) = IsThreadCount threads
IsInOptionRange (Load seed size threads) = IsLoadSize size × IsThreadCount threads
IsInOptionRange _ = Unit {0}

-- the word for the command of a line
abbrev pub command_word : Line → Text
command_word (Run threads point save) = codes "run"
command_word (Sim threads) = codes "sim"
command_word (Tell report) = report_word report
command_word Compact = codes "compact"
command_word (Follow threads) = codes "follow"
command_word (Load seed size threads) = codes "load"

-- the line that is written where words ask for nothing
abbrev pub usage_text : Text
usage_text = codes "hyder: usage: run|sim|recover|check|load|compact|ship|follow" ++ 10 ∷ []

-- ---- the words after the command

-- the spelling of a number from the first to the second
abbrev pub is_number_in : ℕ → ℕ → Text → Bool
is_number_in low high text = option_map_or (is_within low high) (number_of text) false

-- an option as a word
abbrev pub spelled : Text → Text
spelled name = 45 ∷ 45 ∷ name

abbrev pub option_named : List CliOption → Text → Option CliOption
option_named options word = find (λ o. bytes_eq (spelled o.name) word) options

-- an option joins those given, if it was not given before, and its value is right
abbrev pub given_flag : CliOption → Given → Option Given
given_flag o given = if not (is_given o.name given) then Some (given ++ (o.name, codes "true") ∷ []) else None

abbrev pub given_number : ℕ → ℕ → CliOption → Text → Given → Option Given
given_number low high o value given =
    if not (is_given o.name given) && is_number_in low high value then Some (given ++ (o.name, value) ∷ []) else None

-- One option: `flagged` reads on after a flag, and `valued` after the value of a number.
abbrev pub met_as : OptionKind → CliOption → Option Text → Given → (Given → Option Given)
    → (Given → Option Given) → Option Given
met_as flag o next given flagged valued = option_and_then flagged (given_flag o given)
met_as (number low high) o next given flagged valued =
    option_and_then (λ v. option_and_then valued (given_number low high o v given)) next

abbrev pub met : Option CliOption → Option Text → Given → (Given → Option Given) → (Given → Option Given) → Option Given
met None next given flagged valued = None
met (Some o) next given flagged valued = met_as o.kind o next given flagged valued

-- the words are options in any order, each at most once, a value being the word after its option
abbrev pub reads : List CliOption → Given → List Text → Option Given
reads options given [] = Some given
reads options given (w ∷ []) = met (option_named options w) None given (λ g. Some g) (λ g. None)
reads options given (w ∷ (v ∷ rest)) =
    met (option_named options w) (Some v) given (λ g. reads options g (v ∷ rest)) (λ g. reads options g rest)

abbrev pub has_needed : List CliOption → Given → Bool
has_needed options given = list_all (λ o. not o.needed || is_given o.name given) options

abbrev pub given_all : List CliOption → List Text → Option Given
given_all options words = option_and_then (λ g. if has_needed options g then Some g else None) (reads options [] words)

-- ---- the line

abbrev pub command_line : CliCommand → List Text → Option Line
command_line c rest = option_map (λ g. c.line (choices_given g)) (given_all c.options rest)

-- what the words ask for, the first of them being the program's name
abbrev pub line_of : List Text → Option Line
line_of [] = None
line_of (program ∷ []) = None
line_of (program ∷ (word ∷ rest)) = option_and_then (λ c. command_line c rest) (command_named word)

-- the word after the program's name is a command
abbrev pub names_command : List Text → Bool
names_command words = is_some (option_and_then command_named (slice_get words 1))
