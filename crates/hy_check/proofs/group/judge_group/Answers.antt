use Rattle.std.proofs.Common.{◌≡◌, ap, ◌∙◌}
use Rattle.std.specs.Prelude.{flat_map, map}
use Rattle.hy_rules.specs.Members.{standings_as}
use Rattle.hy_rules.specs.Validation.{first_clash, late_conflicts, fate_of, fated}
use Rattle.hy_check.proofs.Judging.{if_ok, by_last_rows}
use Rattle.hy_check.proofs.group.judge_group.Goals as goal

pub returns-clause-verdicts : goal.returns-clause-verdicts
returns-clause-verdicts c =
    let group = c.args.group.now in
    let ms = c.in_ok-members.members.items in
    if_ok (λ vs. vs.items ≡ map (fated c.shared_fate-fate.result) (standings_as group c.deref-2.result.now)) _
    (λ vs told committed rise low is_base is_rows.
    by_last_rows committed c.args.base_tree.now c.args.tree.now c.args.oldest c.args.base c.args.upto group (standings_as group ms) c.shared_fate-fate.result vs.items rise low is_base is_rows
    (c.in_ok-members.ensures.standings c.args.base)
    (λ below. c.shared_fate-fate.ensures c.args.upto below ∙ ap (λ xs. fate_of (first_clash (flat_map (late_conflicts c.args.tree.now c.args.base c.args.upto) (standings_as group xs)))) c.deref.ensures.value)
    (told ∙ ap (λ xs. map (fated c.shared_fate-fate.result) (standings_as group xs)) c.deref-2.ensures.value))
    c.verdicts_of.result c.verdicts_of.ensures.verdicts
