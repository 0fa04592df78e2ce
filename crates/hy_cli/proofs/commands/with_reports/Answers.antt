use Rattle.std.proofs.Common.{◌≡◌, ◌∙◌, ◌<◌, ◌++◌, ◌+◌, ℕ, List, [], ◌∷◌, arith, ap, ap₂, length, map, sym, take}
use Rattle.std.specs.Prelude.{fold}
use Rattle.std.proofs.Math.ListN.{get_or}
use Rattle.std.proofs.lemmas.List.{map-append, take_more}
use Rattle.std.proofs.lemmas.List.Sums.{fold-append}
use Rattle.clap.specs.Words.{App, app_of, with_subcommand}
use Rattle.hy_cli.specs.CommandLine.{report_command, reports}
use Rattle.hy_cli.specs.declared.commands.Report.{Report}
use Rattle.hy_cli.specs.declared.commands.Report.TheVariants.{Dump}
use Rattle.hy_cli.specs.Matches.{with_command}
use Rattle.hy_cli.proofs.commands.with_reports.Goals as goal

one_more : (a : App) (at : ℕ) (r : Report) → at < length reports → with_command (fold with_command a (map report_command (take at reports))) (report_command (get_or reports at r))
    ≡ fold with_command a (map report_command (take (at + 1) reports))
one_more a at r within =
    sym (fold-append with_command a (map report_command (take at reports)) (report_command (get_or reports at r) ∷ []))
    ∙ ap (fold with_command a) (sym (map-append report_command (take at reports) (get_or reports at r ∷ [])) ∙ ap (map report_command) (sym (take_more reports at r within)))

pub loop-at-preserved : goal.loop-at-preserved
loop-at-preserved c =
    c.in_ok-app.ensures.shape c.report_command.ensures.1 ∙ ap₂ with_subcommand c.loop-at.invariant (ap (λ (a : App). a.top) c.report_command.ensures.0)
    ∙ one_more (app_of c.args.app) c.loop-at.at Dump c.loop-at-test.true
