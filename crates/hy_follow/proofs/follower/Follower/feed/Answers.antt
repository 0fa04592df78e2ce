use Rattle.std.proofs.Common.{◌≡◌, ◌++◌, ◌+◌, ◌<◌, length, arith, subst}
use Rattle.std.specs.Prelude.{None, Some}
use Rattle.std.proofs.lemmas.Grind.{common_steps}
use Rattle.hy_follow.specs.Following.{shape_of}
use Rattle.hy_follow.specs.Steps.{IsJudged, due, holding}
use Rattle.hy_follow.proofs.Takes.{bad_followed, kept_followed}
use Rattle.hy_follow.proofs.follower.Follower.feed.Goals as goal

pub returns-in-Some-clause-taken : goal.returns-in-Some-clause-taken
returns-in-Some-clause-taken g c bytes followed answered =
    let is : c.args.self.now.bad ≡ Some c.in-Some.bad = grind (arith, common_steps) in
    bad_followed bytes c.args.piece.now c.args.self.now c.in-Some.bad is followed

pub returns-then-is_too_few-clause-taken : goal.returns-then-is_too_few-clause-taken
returns-then-is_too_few-clause-taken g c bytes followed answered =
    let f = c.args.self.now in
    let piece = c.args.piece.now in
    let ready : IsJudged f = subst IsJudged c.self.view_is c.self.invariant.0 in
    let fine : f.bad ≡ None = grind (arith, common_steps) in
    let below : length f.waiting + length piece < due (shape_of f.roll) f.waiting = grind (arith, common_steps) in
    let is : c.keep.new.self ≡ holding f (f.waiting ++ piece) = grind (arith, common_steps) in
    kept_followed bytes piece f c.keep.new.self ready fine below is followed
