use Rattle.std.proofs.Common.{◌≡◌, max, sym, ap, ◌∙◌}
use Rattle.hy_base.specs.Marks.{first_late, known_to}
use Rattle.hy_rules.specs.Members.{standing_as}
use Rattle.hy_rules.specs.Validation.{Joined, first_clash, late_conflicts}
use Rattle.hy_check.proofs.Judging.{first_between}
use Rattle.hy_check.proofs.group.late_conflict.Goals as goal

pub returns-in-Joined-Txn : goal.returns-in-Joined-Txn
returns-in-Joined-Txn c = λ upto low.
    let i = c.in-Joined-Txn.intention in
    let tree = c.args.tree.now in
    let entry = sym c.kind.ensures.kind ∙ c.in-Joined-Txn.is-1 in
    let stands : standing_as c.args.entry.now c.args.member ≡ Joined i = λ k. standing_as (entry k) (c.in-Joined-Txn.is-0 k) in
    c.conflict.ensures.late ∙ (ap (λ after. first_late (known_to after i) tree) c.max.ensures
    ∙ (first_between i (max i.snap c.args.base) upto tree c.conflict.ensures.valid.ordered low ∙ ap (λ m. first_clash (late_conflicts tree c.args.base upto m)) (sym stands)))
