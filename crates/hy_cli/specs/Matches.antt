-- What clap is told of the program, and what its matches mean.
use Rattle.std.specs.Prelude.{◌≡◌, ◌≢◌, Bool, true, false, not, List, [], Option, Some, None, codes, bytes_eq, option_map}
use Rattle.std.specs.Prelude.{option_and_then, fold}
use Rattle.std.specs.List.{list_all}
use Rattle.std.specs.Option.{option_map_or}
use Rattle.std.specs.Str.Parse.{digits_value, without_leading_plus}
use Rattle.clap.specs.ValueTests.{accepts}
use Rattle.clap.specs.Words.{App, Row, Rule, fault_of, new_app, new_rule, one_of, subcommand_of, with_rule, with_subcommand}
use Rattle.clap.specs.Simple.{on_top}
use Rattle.clap.specs.declared.builder.action.ArgAction.{ArgAction}
use Rattle.clap.specs.declared.builder.action.ArgAction.TheVariants.{Set, SetTrue}
use Rattle.clap.specs.declared.builder.value_parser.ValueParser.{ValueParser}
use Rattle.clap.specs.declared.builder.value_parser.ValueParser.TheVariants as vp
use Rattle.hy_base.specs.Spelling.{Text}
use Rattle.hy_cli.specs.CommandLine.{OptionKind, flag, number, CliOption, CliCommand, Choices, commands, command_named}
use Rattle.hy_cli.specs.declared.commands.Line.{Line}

-- ---- what clap is told

abbrev pub action_for : OptionKind → ArgAction
action_for flag = SetTrue
action_for (number low high) = Set

abbrev pub parser_for : OptionKind → Option ValueParser
parser_for flag = None
parser_for (number low high) = Some (vp.Unsigned low high)

-- the argument of an option
abbrev pub rule_for : CliOption → Rule
rule_for o = record (new_rule o.name) {
  long = Some o.name;
  action = Some (action_for o.kind);
  parser = parser_for o.kind;
  required = o.needed;
}

-- a command with its options
abbrev pub app_for : Text → List CliOption → App
app_for name options = fold (λ a o. with_rule a (rule_for o)) (new_app name) options

-- the program before its commands; it has no help of its own, so a word for help is a word like others
abbrev pub program : App
program =
    on_top (λ s. record s { disable_help_flag = true; disable_help_subcommand = true; subcommand_required = true })
    (new_app (codes "hyder"))

abbrev pub with_command : App → CliCommand → App
with_command a c = with_subcommand a (app_for c.name c.options).top

abbrev pub hyder_app : App
hyder_app = fold with_command program commands

-- clap refuses the words for another cause than memory
abbrev pub refuses : List Text → Type 0
refuses words = fault_of hyder_app words ≢ []

-- ---- what the matches mean

abbrev pub choices_found : List Row → Choices
choices_found rows = record {
  number_or = λ otherwise name. option_map_or (λ t. digits_value 10 (without_leading_plus t)) (one_of name rows) otherwise;
  has = λ name. option_map_or (λ t. bytes_eq t (codes "true")) (one_of name rows) false;
}

abbrev pub line_found : Text → List Row → Option Line
line_found name rows = option_map (λ c. c.line (choices_found rows)) (command_named name)

-- the line that a subcommand with its matches stands for
abbrev pub meant : Option (Text × List Row) → Option Line
meant found = option_and_then (λ p. line_found p.0 p.1) found

-- ---- what clap has made sure of

abbrev pub value_accepted : OptionKind → Text → Bool
value_accepted flag text = accepts false vp.Bool text
value_accepted (number low high) text = accepts false (vp.Unsigned low high) text

-- the option has a value that its parser takes, or none where it may have none
abbrev pub is_accepted : List Row → CliOption → Bool
is_accepted rows o = option_map_or (value_accepted o.kind) (one_of o.name rows) (not o.needed)

abbrev pub has_accepted : Text → List Row → Bool
has_accepted name rows = option_map_or (λ c. list_all (is_accepted rows) c.options) (command_named name) false

-- What the words ask for: clap takes them, and its matches mean this line.
abbrev pub Asks : List Text → Line → Type 0
Asks words line = (fault_of hyder_app words ≡ []) × (meant (subcommand_of hyder_app words) ≡ Some line)
