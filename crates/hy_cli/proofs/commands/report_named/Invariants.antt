use Rattle.std.proofs.Common.{◌≡◌, map, drop}
use Rattle.std.specs.List.{find}
use Rattle.std.specs.Str.{bytes_eq}
use Rattle.hy_cli.specs.CommandLine.{report_command, reports}
use Rattle.hy_cli.proofs.commands.report_named.Given as goal

abbrev pub invariant-loop-at : goal.invariant-loop-at
invariant-loop-at l = find (λ c. bytes_eq c.name l.name) (map report_command (drop l.at reports)) ≡ find (λ c. bytes_eq c.name l.name) (map report_command reports)
