use Rattle.std.proofs.Common.{⊎_elim, refl, subst}
use Rattle.hy_cli.specs.declared.commands.Line.{Line}
use Rattle.hy_run.specs.Handovers.{IsAlone}
use Rattle.hy_run.specs.Jobs.{job_of}
use Rattle.hy_run.proofs.Ending.{followed_done}
use Rattle.hy_run.proofs.call.answer_alone.Goals as goal

pub unreachable-requires : goal.unreachable-requires
unreachable-requires g c = ⊎_elim (λ run. subst (λ (l : Line). IsAlone (job_of l)) run.3 c.requires.alone) (λ copy. subst (λ (l : Line). IsAlone (job_of l)) copy c.requires.alone) c.in-Run.is

pub returns-in-Follow-clause-done : goal.returns-in-Follow-clause-done
returns-in-Follow-clause-done g c = λ spare.
    rw (c.in-Follow.is, c.beside-in-Follow.ensures.text, c.beside-in-Follow.ensures.acked) (followed_done (λ bytes. bytes.items) _ _ _ _ _ _ c.follow.result c.follow.ensures.text c.follow.ensures.refused c.beside-in-Follow.ensures.log refl refl)
