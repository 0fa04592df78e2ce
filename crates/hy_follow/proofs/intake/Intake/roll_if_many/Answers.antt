use Rattle.std.proofs.lemmas.Result.{on_ok_weaker}
use Rattle.hy_follow.proofs.Takes.{fed_ready, rolled_takes}
use Rattle.hy_follow.proofs.intake.Intake.roll_if_many.Goals as goal

pub returns-then-len-ge-WINDOW_ENTRIES-clause-ready : goal.returns-then-len-ge-WINDOW_ENTRIES-clause-ready
returns-then-len-ge-WINDOW_ENTRIES-clause-ready g c = on_ok_weaker c.roll_whole.result (λ is. fed_ready c.args.self.now c.roll_whole.new.self c.requires.ready is) c.roll_whole.ensures

pub returns-then-len-ge-WINDOW_ENTRIES-clause-same : goal.returns-then-len-ge-WINDOW_ENTRIES-clause-same
returns-then-len-ge-WINDOW_ENTRIES-clause-same g c = on_ok_weaker c.roll_whole.result (λ is. rolled_takes c.args.self.now c.roll_whole.new.self is) c.roll_whole.ensures
