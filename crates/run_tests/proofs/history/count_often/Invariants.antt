use Rattle.std.proofs.Common.{◌≡◌, ◌+◌, length, Some}
use Rattle.hy_hist.specs.Passes.{made, Makes}
use Rattle.run_tests.specs.Desk.{IsReady}
use Rattle.run_tests.proofs.history.count_often.Given as goal

abbrev pub invariant-loop-done : goal.invariant-loop-done
invariant-loop-done g l = IsReady l.lock l.pass × (l.pass.parts ≡ l.fn.pass.parts) × Makes l.pass l.last (Some l.number) × (length (made l.pass) ≡ length (made l.fn.pass) + l._done)
