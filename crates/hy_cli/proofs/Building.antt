-- What clap was told by a further option.
use Rattle.std.proofs.Common.{◌≡◌, ◌∙◌, ap₂, false}
use Rattle.std.specs.Prelude.{◌||◌}
use Rattle.clap.specs.Words.{AddsArg, App, app_of, rule_of, with_rule}
use Rattle.clap.specs.declared.builder.arg.Arg.{Arg}
use Rattle.clap.specs.declared.builder.command.Command.{Command}
use Rattle.clap.specs.declared.builder.command.Command.TheViews.{out-Command}
use Rattle.hy_cli.specs.CommandLine.{CliOption}
use Rattle.hy_cli.specs.Matches.{rule_for}

-- what clap was told of the command, which has no global argument
abbrev pub IsTold : App → Command → Type 0
IsTold a c = (app_of c ≡ a) × ((out-Command c).has_globals ≡ false)

pub option_added : (a : App) (o : CliOption) (old new : Command) (arg : Arg) → IsTold a old → rule_of arg ≡ rule_for o → arg.global ≡ false → AddsArg old arg new → IsTold (with_rule a (rule_for o)) new
option_added a o old new arg told rule local adds = (adds.shape local ∙ ap₂ with_rule told.0 rule, adds.globals ∙ ap₂ (λ x y. x || y) told.1 local)
