use Rattle.std.proofs.Common.{◌≡◌, ◌+◌, drop}
use Rattle.hy_base.specs.Script.{command_count}
use Rattle.hy_script.proofs.ranges.command_count.Given as goal

-- what the commands so far count as, and those that are left
abbrev pub invariant-loop-command : goal.invariant-loop-command
invariant-loop-command l = l.count + command_count (drop l.command-index l.commands) ≡ command_count l.commands
