use Rattle.std.proofs.Common.{◌≡◌, true, sym, subst}
use Rattle.hy_base.specs.declared.workload.Event.TheVariants.{Stop}
use Rattle.hy_rules.specs.Runs.{may_happen}
use Rattle.hy_core.specs.CoreParts.{Holding, StepsTo, log_held, state_in_course}
use Rattle.hy_core.proofs.Publishing.{arm_steps}
use Rattle.hy_core.proofs.moves.perform.Goals as goal

pub returns-in-Stop-clause-ok : goal.returns-in-Stop-clause-ok
returns-in-Stop-clause-ok g c =
    let script = c.args.script.now in
    let h : Holding = log_held c.args.core.now in
    let stop = Stop c.in-Stop.call c.in-Stop.pattern in
    let may : may_happen script (state_in_course h) stop ≡ true = subst (λ e. may_happen script (state_in_course h) e ≡ true) c.in-Stop.is c.requires.may in
    let steps : StepsTo script h (log_held c.arm.new.core) stop = subst (λ n. StepsTo script h n stop) (sym c.arm.ensures) (arm_steps script h c.in-Stop.call c.in-Stop.pattern c.requires.holding may) in
    subst (λ e. StepsTo script h (log_held c.arm.new.core) e) (sym c.in-Stop.is) steps
