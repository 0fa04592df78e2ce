use Rattle.std.proofs.Common.{length}
use Rattle.hy_follow.specs.Steps.{IsJudged, TakesSome}
use Rattle.hy_follow.proofs.intake.Intake.take.Given as goal

abbrev pub invariant-loop-left : goal.invariant-loop-left
invariant-loop-left g l = record { ready : IsJudged l.self; taken : TakesSome l.fn.self l.fn.bytes l.self l.left }

abbrev pub decreases-loop-left : goal.decreases-loop-left
decreases-loop-left g l = length l.left
