use Rattle.std.proofs.Common.{◌≡◌, ◌∙◌, Ok, ap, refl}
use Rattle.std.proofs.lemmas.Result.{IfOk-at_ok, IfOk-weaker}
use Rattle.clap.specs.Words.{App, app_of, with_subcommand}
use Rattle.hy_cli.proofs.commands.with_command.Goals as goal

pub returns : goal.returns
returns c =
    let made : c.args.command ≡ Ok c.in_ok-command.field-0 = rw (c.branch-command.ensures, c.in_ok-command.is) refl in
    IfOk-weaker c.subcommand.result _ _ (λ r adds added told.
    let is = IfOk-at_ok _ made told in
    adds.shape is.1 ∙ ap (λ (a : App). with_subcommand (app_of c.args.app) a.top) is.0) c.subcommand.ensures
