use Rattle.std.proofs.Common.{◌≡◌, ◌∙◌, ◌%◌, ◌+◌, List, sym, ap, subst, inl, inr}
use Rattle.hy_roll_laws.specs.Rolling.{roll_on, rolled_upto}
use Rattle.hy_hub.specs.Calls.{IsRollable, len_of}
use Rattle.hy_hub.specs.declared.occurrence.Backlog.{Backlog}
use Rattle.hy_hub.proofs.Holding.{own_of_one}
use Rattle.hy_clients.proofs.Passes.{run_on}
use Rattle.hy_clients.proofs.Reaching.{RollsToEnd, either_look, even_at, looks_alone, looks_to_end}
use Rattle.hy_clients.proofs.closing.nearest_look.Goals as goal

pub returns-in_err-nearest-clause-pass : goal.returns-in_err-nearest-clause-pass
returns-in_err-nearest-clause-pass g c = run_on c.requires.pass c.look.ensures.kept.0 (own_of_one c.look.ensures.turn)

pub loop-at-init : goal.loop-at-init
loop-at-init g c =
    let old = c.args.pass.now in
    let new = c.look.new.pass in
    let look = c.in_ok-nearest.nearest in
    let turn = c.in_ok-nearest.ensures.turn in
    let even = even_at c.args.service.now.hub.now c.args.service.now.script.now old c.requires.pass c.requires.even in
    let ends = looks_to_end old new 1 look turn c.requires.all c.requires.pass.told even c.in_ok-nearest.ensures.rolls in
    (run_on c.requires.pass c.look.ensures.kept.0 (own_of_one c.look.ensures.turn), c.look.ensures.kept.1, looks_alone old new 1 look turn c.requires.all, ends.0, ends.1)

pub returns-in_err-look-clause-pass : goal.returns-in_err-look-clause-pass
returns-in_err-look-clause-pass g c = run_on c.loop-at.invariant.0 c.look-in-loop-at.ensures.kept.0 (own_of_one c.look-in-loop-at.ensures.turn)

pub loop-at-preserved : goal.loop-at-preserved
loop-at-preserved g c =
    let i = c.loop-at.invariant in
    let old = c.loop-at.pass in
    let new = c.look-in-loop-at.new.pass in
    let look = c.in_ok-look.look in
    let turn = c.in_ok-look.ensures.turn in
    let all = i.1 ∙ c.requires.all in
    let group : len_of old.seen % c.args.service.now.script.now.shape.group ≡ 0 = ap (λ (l : List _). len_of l % c.args.service.now.script.now.shape.group) i.2 ∙ c.requires.even in
    let even = even_at c.args.service.now.hub.now c.args.service.now.script.now old i.0 group in
    let here : RollsToEnd old.seen look = looks_to_end old new (c.loop-at.at + 1) look turn all i.0.told even c.in_ok-look.ensures.rolls in
    let other : RollsToEnd c.args.pass.now.seen look = subst (λ (l : List _). RollsToEnd l look) i.2 here in
    let ends : RollsToEnd c.args.pass.now.seen c.nearer-nearest.result = either_look (RollsToEnd c.args.pass.now.seen) c.nearer-nearest.result c.loop-at.nearest look c.nearer-nearest.ensures (i.3, i.4) other in
    (run_on i.0 c.look-in-loop-at.ensures.kept.0 (own_of_one c.look-in-loop-at.ensures.turn), c.look-in-loop-at.ensures.kept.1 ∙ i.1, looks_alone old new (c.loop-at.at + 1) look turn all ∙ i.2, ends.0, ends.1)
