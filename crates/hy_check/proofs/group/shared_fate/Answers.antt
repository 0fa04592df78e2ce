use Rattle.std.proofs.Common.{◌≡◌, ◌-◌, ◌∙◌, drop, refl, sym, ap, arith}
use Rattle.std.specs.Prelude.{flat_map}
use Rattle.hy_rules.specs.Members.{standings_as}
use Rattle.hy_rules.specs.Validation.{first_clash, late_conflicts, fate_of}
use Rattle.hy_rules.proofs.Groups.{fate_more}
use Rattle.hy_check.proofs.group.shared_fate.Goals as goal

pub loop-at-preserved : goal.loop-at-preserved
loop-at-preserved c = record {
  within = omega (arith, c.loop-at.invariant.within);
  found = λ upto low. c.earliest_of-found.ensures ∙ fate_more (late_conflicts c.args.tree.now c.args.base upto) c.args.group.now c.args.members.now (c.loop-at.at - 1) c.loop-at.at c.index-group-at.result
      _ _ c.late_conflict-late.result c.loop-at.found (omega (arith, c.loop-at.invariant.within, c.loop-at-test.true)) c.requires.count c.index-group-at.is refl (omega (arith, c.loop-at-test.true))
      (c.late_conflict-late.ensures upto low) (c.loop-at.invariant.found upto low);
}

pub returns-in-None : goal.returns-in-None
returns-in-None c = λ upto low.
    let all : c.loop-at.at ≡ 0 = omega (arith, c.loop-at-test.false) in
    ap fate_of (sym c.in-None.is ∙ (c.loop-at.invariant.found upto low ∙ ap (λ n. first_clash (flat_map (late_conflicts c.args.tree.now c.args.base upto) (standings_as (drop n c.args.group.now) (drop n c.args.members.now)))) all))

pub returns-in-Some : goal.returns-in-Some
returns-in-Some c = λ upto low.
    let all : c.loop-at.at ≡ 0 = omega (arith, c.loop-at-test.false) in
    ap fate_of (sym c.in-Some.is ∙ (c.loop-at.invariant.found upto low ∙ ap (λ n. first_clash (flat_map (late_conflicts c.args.tree.now c.args.base upto) (standings_as (drop n c.args.group.now) (drop n c.args.members.now)))) all))
