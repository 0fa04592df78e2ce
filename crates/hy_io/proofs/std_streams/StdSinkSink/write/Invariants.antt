use Rattle.std.proofs.Common.{◌≡◌}
use Rattle.hy_io.proofs.std_streams.StdSinkSink.write.Given as goal

-- the tries so far counted no fault
abbrev pub invariant-loop : goal.invariant-loop
invariant-loop g l = l.self.faults ≡ l.initial.self.faults
