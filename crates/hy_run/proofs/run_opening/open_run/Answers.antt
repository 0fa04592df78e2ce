use Rattle.std.proofs.Common.{◌≡◌, ◌∙◌, sym, ap, subst}
use Rattle.hy_base.specs.declared.layout.Shape.{Shape}
use Rattle.hy_restart.specs.Restart.{IsRestarted}
use Rattle.hy_run.specs.RunningParts.{fault_seen}
use Rattle.hy_run.proofs.TableLooks.{opens_sound, table_refusal}
use Rattle.hy_run.proofs.run_opening.open_run.Goals as goal

pub returns-in-None-clause-opened : goal.returns-in-None-clause-opened
returns-in-None-clause-opened g c =
    let script = c.args.script.now in
    let log = c.args.log.now in
    let r = c.in_ok-restarted.restarted.roller in
    let found = c.in_ok-restarted.restarted.entries.items in
    let start = c.in_ok-restarted.ensures.roller in
    let restarted : IsRestarted script.shape log.from found start.0 r = subst (λ (s : Shape). IsRestarted s log.from found start.0 r) c.requires.shape start.2 in
    let seen : c.in_ok-fault_of.field-0 ≡ fault_seen script.tables r log.from found = c.in_ok-fault_of.ensures ∙ ap (λ n. fault_seen script.tables r n found) (c.from.ensures.from ∙ c.restart.ensures.same.from) in
    record {
      start = start.0;
      starts = start.1;
      restarted = restarted;
      sound = opens_sound c.opening_looks_tell.ensures c.shape.ensures.script c.args.options start.1 restarted c.base_tree.ensures.valid.onward c.opening_fault_tells.ensures (sym seen ∙ c.in-None.is);
    }

pub returns-in-Some-clause-cause : goal.returns-in-Some-clause-cause
returns-in-Some-clause-cause g c = λ knows.
    let script = c.args.script.now in
    let log = c.args.log.now in
    let r = c.in_ok-restarted.restarted.roller in
    let found = c.in_ok-restarted.restarted.entries.items in
    let start = c.in_ok-restarted.ensures.roller in
    let restarted : IsRestarted script.shape log.from found start.0 r = subst (λ (s : Shape). IsRestarted s log.from found start.0 r) c.requires.shape start.2 in
    let seen : c.in_ok-fault_of.field-0 ≡ fault_seen script.tables r log.from found = c.in_ok-fault_of.ensures ∙ ap (λ n. fault_seen script.tables r n found) (c.from.ensures.from ∙ c.restart.ensures.same.from) in
    table_refusal c.opening_looks_tell.ensures c.shape.ensures.script c.args.options start.1 restarted c.base_tree.ensures.valid.onward log.bodies c.in-Some.key knows (c.in_ok-restarted.ensures.found.read knows) (sym c.in-Some.is ∙ seen)
