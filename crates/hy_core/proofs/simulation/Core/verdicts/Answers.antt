use Rattle.std.proofs.Common.{◌≡◌, ◌∙◌, true, length, sym, ap, subst}
use Rattle.std.proofs.lemmas.Result.{IfOk-weaker}
use Rattle.hy_base.specs.Lists.{nth}
use Rattle.hy_rules.specs.Runs.{is_finished}
use Rattle.hy_rules.specs.Validation.{verdicts}
use Rattle.hy_core.specs.Course.{Course}
use Rattle.hy_core.specs.CoreParts.{log_held}
use Rattle.hy_core.proofs.Telling.{finished_verdicts}
use Rattle.hy_core.proofs.simulation.Core.verdicts.Goals as goal

pub returns : goal.returns
returns c =
    let own = ap (λ rs. nth rs 1) (sym c.deref.ensures.value) ∙ sym c.in-Some.ensures in
    let finished = subst (λ (k : Course). is_finished k.script k.state ≡ true) (sym c.self.view_is) c.requires.finished in
    IfOk-weaker c.kept_verdicts.result _ _ (λ vs are.
    are ∙ (finished_verdicts c.self.inside.script (log_held c.self.inside.parts) c.in-Some.roller.now c.shape-shape.ensures.script c.self.invariant.holding finished own
    ∙ ap (λ (k : Course). verdicts k.script.shape k.state.log (length k.state.log)) c.self.view_is)) c.kept_verdicts.ensures
