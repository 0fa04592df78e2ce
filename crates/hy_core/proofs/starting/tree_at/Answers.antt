use Rattle.std.proofs.Common.{◌≡◌, ◌∙◌, ◌+◌, ◌%◌, ◌≤◌, length, sym, ap, subst}
use Rattle.std.proofs.lemmas.Result.{IfOk-weaker}
use Rattle.hy_base.specs.Lists.{nth}
use Rattle.hy_rules.specs.History.{pairs_of}
use Rattle.hy_roll_laws.specs.Rolling.{rolled_upto, roll_on}
use Rattle.hy_core.specs.CoreParts.{Holding, log_held, entries_between}
use Rattle.hy_core.proofs.Beginning.{can_give, declared_list, given_live, none_given, rolled_live}
use Rattle.hy_core.proofs.Publishing.{declared_board}
use Rattle.hy_core.proofs.starting.tree_at.Goals as goal

pub unreachable-requires : goal.unreachable-requires
unreachable-requires g c =
    declared_board c.args.script.now (log_held c.args.core.now) c.args.server c.requires.holding c.requires.server
    (ap (λ rs. nth rs c.args.server) (sym c.deref.ensures.value) ∙ sym c.in_default.ensures)

pub unreachable-requires-in_default-earlier_of : goal.unreachable-requires-in_default-earlier_of
unreachable-requires-in_default-earlier_of g c =
    declared_list c.args.script.now (log_held c.args.core.now) c.args.server c.requires.holding c.requires.server
    (ap (λ hs. nth hs c.args.server) (sym c.deref-2.ensures.value) ∙ sym c.in_default-earlier_of.ensures)

pub unreachable-requires-in_default-newest_upto : goal.unreachable-requires-in_default-newest_upto
unreachable-requires-in_default-newest_upto g c =
    none_given (log_held c.args.core.now) c.args.server c.args.snap c.in-Some.board.now c.in-Some-earlier_of.earlier.now c.requires.kept
    (ap (λ rs. nth rs c.args.server) (sym c.deref.ensures.value) ∙ sym c.in-Some.ensures)
    (ap (λ hs. nth hs c.args.server) (sym c.deref-2.ensures.value) ∙ sym c.in-Some-earlier_of.ensures)
    (sym c.in_default-newest_upto.ensures)

pub between-entries-requires-clause-order : goal.between-entries-requires-clause-order
between-entries-requires-clause-order g c =
    let h : Holding = log_held c.args.core.now in
    let own = ap (λ rs. nth rs c.args.server) (sym c.deref.ensures.value) ∙ sym c.in-Some.ensures in
    let older = ap (λ hs. nth hs c.args.server) (sym c.deref-2.ensures.value) ∙ sym c.in-Some-earlier_of.ensures in
    let r = c.in-Some-newest_upto.roller.now in
    let can = can_give c.args.script.now h c.args.server c.args.snap r c.in-Some.board.now c.in-Some-earlier_of.earlier.now c.requires.holding c.requires.within c.requires.whole own older (sym c.in-Some-newest_upto.ensures) in
    subst (λ n. n ≤ c.args.snap) (sym c.at-from.ensures) can.low

pub roll-requires-clause-whole : goal.roll-requires-clause-whole
roll-requires-clause-whole g c = λ ks outlives.
    let h : Holding = log_held c.args.core.now in
    let own = ap (λ rs. nth rs c.args.server) (sym c.deref.ensures.value) ∙ sym c.in-Some.ensures in
    let older = ap (λ hs. nth hs c.args.server) (sym c.deref-2.ensures.value) ∙ sym c.in-Some-earlier_of.ensures in
    let r = c.in-Some-newest_upto.roller.now in
    let can = can_give c.args.script.now h c.args.server c.args.snap r c.in-Some.board.now c.in-Some-earlier_of.earlier.now c.requires.holding c.requires.within c.requires.whole own older (sym c.in-Some-newest_upto.ensures) in
    let entries = c.between-entries.ensures ∙ (λ i. entries_between (c.deref-3.ensures.value i) (c.at-from.ensures i) c.args.snap) in
    subst (λ l. length l % r.shape.group ≡ 0) (sym entries) can.rolls.whole

pub roll-requires-clause-room : goal.roll-requires-clause-room
roll-requires-clause-room g c = λ ks outlives.
    let h : Holding = log_held c.args.core.now in
    let own = ap (λ rs. nth rs c.args.server) (sym c.deref.ensures.value) ∙ sym c.in-Some.ensures in
    let older = ap (λ hs. nth hs c.args.server) (sym c.deref-2.ensures.value) ∙ sym c.in-Some-earlier_of.ensures in
    let r = c.in-Some-newest_upto.roller.now in
    let can = can_give c.args.script.now h c.args.server c.args.snap r c.in-Some.board.now c.in-Some-earlier_of.earlier.now c.requires.holding c.requires.within c.requires.whole own older (sym c.in-Some-newest_upto.ensures) in
    let entries = c.between-entries.ensures ∙ (λ i. entries_between (c.deref-3.ensures.value i) (c.at-from.ensures i) c.args.snap) in
    subst (λ l. rolled_upto r + length l ≤ r.shape.cap) (sym entries) can.rolls.room

pub returns-then-from-snap : goal.returns-then-from-snap
returns-then-from-snap g c =
    let h : Holding = log_held c.args.core.now in
    let own = ap (λ rs. nth rs c.args.server) (sym c.deref.ensures.value) ∙ sym c.in-Some.ensures in
    let older = ap (λ hs. nth hs c.args.server) (sym c.deref-2.ensures.value) ∙ sym c.in-Some-earlier_of.ensures in
    let r = c.in-Some-newest_upto.roller.now in
    let can = can_give c.args.script.now h c.args.server c.args.snap r c.in-Some.board.now c.in-Some-earlier_of.earlier.now c.requires.holding c.requires.within c.requires.whole own older (sym c.in-Some-newest_upto.ensures) in
    IfOk-weaker c.share.result _ _ (λ tree same. ap pairs_of same ∙ (c.tree.ensures.pairs ∙ given_live c.args.script.now h c.args.snap r c.shape-shape.ensures.script can (sym c.at-from.ensures ∙ c.if-from-snap.true))) c.share.ensures.same

pub returns : goal.returns
returns g c =
    let h : Holding = log_held c.args.core.now in
    let own = ap (λ rs. nth rs c.args.server) (sym c.deref.ensures.value) ∙ sym c.in-Some.ensures in
    let older = ap (λ hs. nth hs c.args.server) (sym c.deref-2.ensures.value) ∙ sym c.in-Some-earlier_of.ensures in
    let r = c.in-Some-newest_upto.roller.now in
    let can = can_give c.args.script.now h c.args.server c.args.snap r c.in-Some.board.now c.in-Some-earlier_of.earlier.now c.requires.holding c.requires.within c.requires.whole own older (sym c.in-Some-newest_upto.ensures) in
    let entries = c.between-entries.ensures ∙ (λ i. entries_between (c.deref-3.ensures.value i) (c.at-from.ensures i) c.args.snap) in
    let rolled = rolled_live c.args.script.now h.log r c.in_ok-rolled.rolled c.args.snap c.shape-shape.ensures.script c.requires.holding.lawful can.board can.low c.requires.within c.requires.whole (c.in_ok-rolled.ensures ∙ ap (roll_on r) entries) in
    IfOk-weaker c.share-2.result _ _ (λ tree same. ap pairs_of same ∙ (c.tree-2.ensures.pairs ∙ rolled)) c.share-2.ensures.same
