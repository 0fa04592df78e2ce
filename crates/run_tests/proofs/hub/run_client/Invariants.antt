use Rattle.std.proofs.Common.{◌≡◌, None}
use Rattle.run_tests.specs.Trial.{IsTrial}
use Rattle.run_tests.proofs.hub.run_client.Given as goal

abbrev pub invariant-loop-program : goal.invariant-loop-program
invariant-loop-program g l = IsTrial l.hub (record { group = 1; window = 1; cap = 8; version = 1; horizon = None }) l.pass × (l.pass.parts ≡ l.fn.pass.parts)
