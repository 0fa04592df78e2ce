use Rattle.std.proofs.Common.{◌≡◌, ◌++◌, ◌<◌, ◌≤◌, ◌+◌, length, rules, arith}
use Rattle.std.proofs.lemmas.Grind.{common_steps}
use Rattle.hy_follow.specs.Following.{shape_of}
use Rattle.hy_follow.specs.Steps.{due, holding, after_judging}
use Rattle.hy_follow.proofs.Takes.{front_ready, takes_front}
use Rattle.hy_follow.proofs.intake.Intake.take_some.Goals as goal

pub returns-clause-ready : goal.returns-clause-ready
returns-clause-ready c =
    let f = c.args.self.now in
    let front = c.split_at.result.0.now in
    let within : length f.waiting + length front ≤ due (shape_of f.roll) f.waiting = grind (arith, common_steps) in
    let is : c.judge.new.self ≡ after_judging (holding f (f.waiting ++ front)) = search rules in
    front_ready f c.judge.new.self front c.requires.ready c.requires.fine within is

pub returns-clause-taken : goal.returns-clause-taken
returns-clause-taken c =
    let f = c.args.self.now in
    let front = c.split_at.result.0.now in
    let within : length f.waiting + length front ≤ due (shape_of f.roll) f.waiting = grind (arith, common_steps) in
    let is : c.judge.new.self ≡ after_judging (holding f (f.waiting ++ front)) = search rules in
    let below : length f.waiting < due (shape_of f.roll) f.waiting = c.requires.ready.below c.requires.fine in
    let some : 0 < length front = grind (arith, common_steps, below) in
    let whole : front ++ c.split_at.result.1.now ≡ c.args.bytes.now = grind (arith, common_steps) in
    takes_front f c.judge.new.self front c.split_at.result.1.now c.args.bytes.now c.requires.ready c.requires.fine some within whole is
