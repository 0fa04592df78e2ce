use Rattle.std.proofs.Common.{◌≡◌, ◌∙◌, ap, ap₂, map}
use Rattle.std.specs.Prelude.{fold}
use Rattle.std.proofs.lemmas.Result.{IfOk-weaker}
use Rattle.clap.specs.Words.{App, app_of, with_subcommand}
use Rattle.hy_cli.specs.CommandLine.{follow_command, load_command, report_command, reports, run_command, sim_command}
use Rattle.hy_cli.specs.Matches.{program, with_command}
use Rattle.hy_cli.proofs.commands.hyder_command.Goals as goal

pub returns : goal.returns
returns c =
    let run_is : app_of c.in_ok-app.app ≡ with_command program run_command =
    c.in_ok-app.ensures run_command c.run_command.ensures ∙ ap (λ a. with_command a run_command) c.program.ensures in
    let sim_is = c.in_ok-with_command.ensures sim_command c.sim_command.ensures ∙ ap (λ a. with_command a sim_command) run_is in
    let compact_is = c.in_ok-app-2.ensures.shape c.new.ensures.local ∙ ap₂ with_subcommand sim_is (ap (λ (a : App). a.top) c.new.ensures.app) in
    let follow_is = c.in_ok-app-3.ensures follow_command c.follow_command.ensures ∙ ap (λ a. with_command a follow_command) compact_is in
    let load_is = c.in_ok-app-4.ensures load_command c.load_command.ensures ∙ ap (λ a. with_command a load_command) follow_is in
    IfOk-weaker c.with_reports.result _ _ (λ r h. h ∙ ap (λ a. fold with_command a (map report_command reports)) load_is) c.with_reports.ensures
