use Rattle.std.proofs.Common.{List, refl, subst, sym, ap, ◌∙◌}
use Rattle.hy_rules.specs.Runs.{setting_of}
use Rattle.hy_hub.specs.Trace.{setting_in}
use Rattle.hy_hub.specs.declared.occurrence.Occurrence.{Occurrence}
use Rattle.hy_clients.specs.Passing.{OpensBehind}
use Rattle.hy_clients.specs.Finished.{IsCutShort}
use Rattle.hy_disk.specs.Moments.{LeavesSince}
use Rattle.hy_clients.proofs.Left.{initial_cut}
use Rattle.hy_clients.proofs.Beginning.{first_past, back_past}
use Rattle.hy_clients.proofs.clients.run_since.Goals as goal

pub returns-in_default-clause-cut : goal.returns-in_default-clause-cut
returns-in_default-clause-cut g c =
    let script = c.args.script.now in
    let log = c.args.log in
    let cut = initial_cut g.D.Disk.tells g.D.Disk.content (LeavesSince g.D.Disk.moment g.D.Disk.left_since g.B.Since.moment g.B.Since.left) log log c.args.entries.items c.args.start script.servers (setting_of script).homes script.keeps script c.requires.opens c.requires.shape refl refl c.requires.opens.running refl (λ t. refl) (λ t. first_past script c.requires.opens c.requires.shape c.requires.since t) in
    subst (IsCutShort g.D.Disk.tells g.D.Disk.content (LeavesSince g.D.Disk.moment g.D.Disk.left_since g.B.Since.moment g.B.Since.left) script c.args.log.from c.args.entries.items c.args.start) (sym c.break_off.ensures.log) cut

pub returns-in-Err-clause-cut : goal.returns-in-Err-clause-cut
returns-in-Err-clause-cut g c =
    let script = c.args.script.now in
    let m = c.in-Err.ensures in
    let cut = initial_cut g.D.Disk.tells g.D.Disk.content (LeavesSince g.D.Disk.moment g.D.Disk.left_since g.B.Since.moment g.B.Since.left) c.args.log c.in-Err.log c.args.entries.items c.args.start script.servers (setting_of script).homes script.keeps script c.requires.opens c.requires.shape m.memory.0 m.cut m.memory.1 m.count m.bodies (λ t. back_past script c.requires.opens c.requires.shape c.requires.least (m.past t)) in
    subst (IsCutShort g.D.Disk.tells g.D.Disk.content (LeavesSince g.D.Disk.moment g.D.Disk.left_since g.B.Since.moment g.B.Since.left) script c.args.log.from c.args.entries.items c.args.start) (sym c.break_off-in-Err.ensures.log) cut

-- the pass of a hub that was just made has seen its opening, which is of the script
pub run_on-requires-clause-pass : goal.run_on-requires-clause-pass
run_on-requires-clause-pass g c κs within =
    let made = c.in-Ok-new.ensures in
    let seen = made.seen.0 in
    record {
      idle = made.hub.1;
      told = made.told;
      setting_is = ap setting_in seen ∙ (λ i. record { shape = c.requires.shape i; servers = c.servers.ensures.servers i; keeps = c.keeps.ensures.keeps i; homes = c.in-Ok.ensures i });
      takes = λ s event added fits. c.requires.takes s event added (λ front stands. fits front (subst (λ (l : List Occurrence). OpensBehind l front) (sym seen) stands));
    }

pub run_on-requires-clause-suits : goal.run_on-requires-clause-suits
run_on-requires-clause-suits g c κs within = λ s event added takes front stands. c.requires.suits s event added takes front (subst (λ (l : List Occurrence). OpensBehind l front) c.in-Ok-new.ensures.seen.0 stands)
