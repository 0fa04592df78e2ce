use Rattle.std.proofs.Common.{◌≡◌, ◌%◌, true, length, take}
use Rattle.std.specs.Prelude.{◌==◌}
use Rattle.std.specs.List.{list_all}
use mathlib.Core.List.{IsPrefix}
use Rattle.hy_hub.specs.Trace.{state_after}
use Rattle.hy_hub.specs.Calls.{len_of}
use Rattle.hy_clients.specs.Passing.{IsRunPass}
use Rattle.hy_clients.specs.Services.{IsAtEnd}
use Rattle.hy_clients.proofs.closing.publish_ends.Given as goal

-- the first servers are at the log's end, and so is the roller
abbrev pub invariant-loop-at : goal.invariant-loop-at
invariant-loop-at g l =
    IsRunPass g.B.Since.suits l.fn.service.hub.now l.fn.service.script.now l.pass × (l.pass.parts ≡ l.fn.pass.parts) × IsPrefix l.fn.pass.seen l.pass.seen × (list_all (λ board. board == length (state_after l.pass.seen).log) (take l.at (state_after l.pass.seen).boards) ≡ true)
    × IsAtEnd l.pass.seen l.fn.end
