use Rattle.std.proofs.Common.{sym, subst}
use Rattle.hy_follow.specs.Following.{HasFollowed}
use Rattle.hy_follow.proofs.Takes.{fed_ready, fed_followed}
use Rattle.hy_follow.proofs.follower.fed.Goals as goal

pub returns-clause-ready : goal.returns-clause-ready
returns-clause-ready g c = fed_ready c.take.new.self c.roll_whole.new.self c.in_ok-take.ensures.ready c.in_ok-roll_whole.ensures

pub returns-clause-taken : goal.returns-clause-taken
returns-clause-taken g c bytes followed =
    fed_followed bytes c.args.piece.now c.in_ok-next.next c.take.new.self c.roll_whole.new.self c.in_ok-take.ensures.taken c.in_ok-roll_whole.ensures (subst (HasFollowed bytes) (sym c.in_ok-next.ensures) followed)
