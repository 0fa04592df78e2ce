use Rattle.std.proofs.Common.{◌≡◌, length, arith}
use Rattle.std.proofs.lemmas.Grind.{common_steps}
use Rattle.hy_follow.proofs.Takes.{takes_done}
use Rattle.hy_follow.proofs.intake.Intake.take.Goals as goal

pub returns-after-loop-left-clause-taken : goal.returns-after-loop-left-clause-taken
returns-after-loop-left-clause-taken g c =
    takes_done c.args.self.now c.loop-left.self c.args.bytes.now c.loop-left.left.now c.loop-left.invariant.taken (λ none. let empty : length c.loop-left.left.now ≡ 0 = grind (arith, common_steps, none) in empty)
