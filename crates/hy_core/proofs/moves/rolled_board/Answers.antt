use Rattle.std.proofs.Common.{◌≡◌, ◌∙◌, ◌≤◌, ◌+◌, ◌%◌, length, sym, ap, subst}
use Rattle.std.proofs.lemmas.Result.{IfOk-weaker}
use Rattle.hy_base.specs.Lists.{nth}
use Rattle.hy_roll_laws.specs.Rolling.{rolled_upto, roll_on}
use Rattle.hy_core.specs.CoreParts.{Holding, log_held, entries_between, furthest}
use Rattle.hy_core.proofs.Publishes.{can_roll}
use Rattle.hy_core.proofs.moves.rolled_board.Goals as goal

pub between-entries-requires-clause-order : goal.between-entries-requires-clause-order
between-entries-requires-clause-order g c =
    let h : Holding = log_held c.args.core.now in
    let r = c.furthest-roller.result.now in
    let own = ap (λ rs. nth rs c.args.server) (sym c.deref.ensures.value) ∙ sym c.in-Some.ensures in
    let far = c.furthest-roller.ensures ∙ ap (furthest c.args.upto c.in-Some.own.now) c.deref-2.ensures.value in
    let can = can_roll c.args.script.now h c.args.server c.args.upto c.in-Some.own.now r c.shape-shape.ensures.script c.requires.holding c.requires.may own far in
    subst (λ n. n ≤ c.args.upto) (sym c.at.ensures) can.order

pub roll-requires-clause-whole : goal.roll-requires-clause-whole
roll-requires-clause-whole g c = λ ks outlives.
    let h : Holding = log_held c.args.core.now in
    let r = c.furthest-roller.result.now in
    let own = ap (λ rs. nth rs c.args.server) (sym c.deref.ensures.value) ∙ sym c.in-Some.ensures in
    let far = c.furthest-roller.ensures ∙ ap (furthest c.args.upto c.in-Some.own.now) c.deref-2.ensures.value in
    let can = can_roll c.args.script.now h c.args.server c.args.upto c.in-Some.own.now r c.shape-shape.ensures.script c.requires.holding c.requires.may own far in
    let entries = c.between-entries.ensures ∙ (λ i. entries_between (c.deref-3.ensures.value i) (c.at.ensures i) c.args.upto) in
    subst (λ l. length l % r.shape.group ≡ 0) (sym entries) can.whole

pub roll-requires-clause-room : goal.roll-requires-clause-room
roll-requires-clause-room g c = λ ks outlives.
    let h : Holding = log_held c.args.core.now in
    let r = c.furthest-roller.result.now in
    let own = ap (λ rs. nth rs c.args.server) (sym c.deref.ensures.value) ∙ sym c.in-Some.ensures in
    let far = c.furthest-roller.ensures ∙ ap (furthest c.args.upto c.in-Some.own.now) c.deref-2.ensures.value in
    let can = can_roll c.args.script.now h c.args.server c.args.upto c.in-Some.own.now r c.shape-shape.ensures.script c.requires.holding c.requires.may own far in
    let entries = c.between-entries.ensures ∙ (λ i. entries_between (c.deref-3.ensures.value i) (c.at.ensures i) c.args.upto) in
    subst (λ l. rolled_upto r + length l ≤ r.shape.cap) (sym entries) can.room

pub returns : goal.returns
returns g c =
    let h : Holding = log_held c.args.core.now in
    let r = c.furthest-roller.result.now in
    let own = ap (λ rs. nth rs c.args.server) (sym c.deref.ensures.value) ∙ sym c.in-Some.ensures in
    let far = c.furthest-roller.ensures ∙ ap (furthest c.args.upto c.in-Some.own.now) c.deref-2.ensures.value in
    let can = can_roll c.args.script.now h c.args.server c.args.upto c.in-Some.own.now r c.shape-shape.ensures.script c.requires.holding c.requires.may own far in
    let entries = c.between-entries.ensures ∙ (λ i. entries_between (c.deref-3.ensures.value i) (c.at.ensures i) c.args.upto) in
    IfOk-weaker c.roll.result _ _ (λ rolled is. can.goes_on rolled (is ∙ ap (roll_on r) entries)) c.roll.ensures
