use Rattle.std.proofs.Common.{◌≡◌, map, take}
use Rattle.std.specs.Prelude.{fold}
use Rattle.clap.specs.Words.{app_of}
use Rattle.hy_cli.specs.CommandLine.{report_command, reports}
use Rattle.hy_cli.specs.Matches.{with_command}
use Rattle.hy_cli.proofs.commands.with_reports.Given as goal

abbrev pub invariant-loop-at : goal.invariant-loop-at
invariant-loop-at l = app_of l.app ≡ fold with_command (app_of l.fn.app) (map report_command (take l.at reports))
