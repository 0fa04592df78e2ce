-- What a run leaves of tables.
use Rattle.std.proofs.Common.{◌≡◌, List, [], refl, sym, ap, subst, ⊎_elim}
use Rattle.std.specs.Prelude.{◌⊎◌}
use Rattle.hy_base.specs.Script.{IsScript}
use Rattle.hy_base.specs.declared.workload.Event.{Event}
use Rattle.hy_tables.specs.TableLaws.{EmptyLogOpensSound, TablesStaySound}
use Rattle.hy_tables.proofs.FaultLaw.{empty_log_opens_sound}
use Rattle.hy_tables.proofs.Through.{tables_stay_sound}
use Rattle.hy_core.specs.Course.{Breaks, Course, HasSoundTables, IsReached}

-- an empty log opens sound, and a run keeps what opens sound
pub sound_then : (old new : Course) → IsReached old → new.script ≡ old.script → HasSoundTables new
sound_then old new is same events follows =
    let opens : EmptyLogOpensSound = empty_log_opens_sound in
    let keeps : TablesStaySound = tables_stay_sound in
    let lawful : IsScript new.script = subst IsScript (sym same) is.is_script in
    keeps new.script [] events new.state lawful follows.leads (opens new.script lawful.shape.group.at_least)

pub sound_tables : (c : Course) → IsReached c → HasSoundTables c
sound_tables c is = sound_then c c is refl

-- a step that didn't happen leaves the script
pub same_script : (old new : Course) → (new ≡ old) ⊎ Breaks old new → new.script ≡ old.script
same_script old new = ⊎_elim (λ same. ap (λ (c : Course). c.script) same) (λ broke. ap (λ (c : Course). c.script) broke.is)
