use Rattle.std.proofs.Common.{◌≡◌, ◌∙◌, ap, true, codes}
use Rattle.clap.specs.Words.{Shape, app_of, new_app}
use Rattle.clap.specs.Simple.{app_of_fields, on_top}
use Rattle.hy_cli.proofs.commands.program.Goals as goal

abbrev no_help_flag : Shape → Shape
no_help_flag s = record s { disable_help_flag = true }

abbrev no_help_command : Shape → Shape
no_help_command s = record s { disable_help_subcommand = true }

abbrev needs_command : Shape → Shape
needs_command s = record s { subcommand_required = true }

pub returns : goal.returns
returns c =
    let no_help : app_of c.disable_help_flag.result ≡ on_top no_help_flag (new_app (codes "hyder")) =
    ap app_of_fields c.disable_help_flag.ensures ∙ ap (on_top no_help_flag) c.new.ensures.app in
    let no_topic : app_of c.disable_help_subcommand.result ≡ on_top no_help_command (on_top no_help_flag (new_app (codes "hyder"))) =
    ap app_of_fields c.disable_help_subcommand.ensures ∙ ap (on_top no_help_command) no_help in
    ap app_of_fields c.subcommand_required.ensures ∙ ap (on_top needs_command) no_topic
