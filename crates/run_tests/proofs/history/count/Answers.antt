use Rattle.std.proofs.Common.{Some}
use Rattle.run_tests.specs.Desk.{CountsAt}
use Rattle.run_tests.proofs.DeskLemmas.{made_own, one_more, none_wait}
use Rattle.hy_hist.proofs.Turned.{turned}
use Rattle.run_tests.proofs.history.count.Goals as goal

pub returns-clause-own : goal.returns-clause-own
returns-clause-own g c = made_own c.hold-desk.new.pass c.give.new.pass c.add-place.result c.add-place.new.self (Some c.args.number) c.give.ensures.made c.give.ensures.seen c.add-place.ensures.place

pub returns-clause-more : goal.returns-clause-more
returns-clause-more g c = one_more c.args.pass.now c.give.new.pass c.args.number c.add-place.result
    (turned c.args.pass.now c.hold-desk.new.pass c.give.new.pass c.hold-desk.result c.add-place.new.self c.add-place.result (CountsAt c.args.number c.add-place.result) c.hold-desk.ensures.list c.hold-desk.ensures.grown c.hold-desk.ensures.made c.give.ensures.seen c.give.ensures.order c.add-place.ensures.added)

pub give-requires-clause-waits : goal.give-requires-clause-waits
give-requires-clause-waits g c = none_wait _ _ _
