use Rattle.std.proofs.Common.{ap, arith, refl, subst, sym, Err}
use Rattle.hy_log.specs.View.{header_of}
use Rattle.hy_run.specs.Handovers.{IsDone}
use Rattle.hy_run.specs.Jobs.{compacts, meaning}
use Rattle.hy_run.specs.Over.{over}
use Rattle.hy_run.proofs.Compacting.{compacted_done, only_read, uncopied_done}
use Rattle.hy_run.proofs.Inspecting.{looked_at, not_opened, stays_unborn}
use Rattle.hy_run.proofs.compact.compact.Goals as goal

pub returns-in-Ok-clause-done : goal.returns-in-Ok-clause-done
returns-in-Ok-clause-done g c = λ told faults.
    let disk = g.D.Disk in
    let old = c.args.log in
    let mid = c.in-Ok.opened in
    let last = c.copy_of-copy.new.log.disk in
    let seen = c.copy_of-copy.ensures.seen in
    let log = over disk.tells disk.content disk.moment disk.left_since disk.faults_of old last in
    let points = over disk.tells disk.content disk.moment disk.left_since disk.faults_of c.args.points.now c.copy_of-copy.new.points in
    let spare = over disk.tells disk.content disk.moment disk.left_since disk.faults_of c.args.spare c.copy_of-copy.result.spare in
    subst (λ (d : g.row.D.Denot). IsDone (λ bytes. bytes.items) (meaning compacts) told faults faults (over disk.tells disk.content disk.moment disk.left_since disk.faults_of old d) points spare c.copy_of-copy.result.text c.len-acked.result) (sym c.close.ensures.disk)
    (compacted_done (λ bytes. bytes.items) c.bodies_are_read.ensures c.a_copy_restarts.ensures c.a_further_cut_keeps_logs.ensures log points spare (λ told. (told, told)) (λ told. told) (λ told. told) told faults (header_of mid) mid.bodies c.in-Ok.ensures.exact
    (disk.faults_of mid.disk) (disk.faults_of last) (λ rose. let later = c.in-Ok.ensures.later in omega (arith, later, rose)) c.copy_of-copy.result.text c.len-acked.result c.copy_of-copy.ensures.copied c.len-acked.ensures.len
    (looked_at disk.tells disk.content disk.moment disk.left_since disk.faults_of old mid.disk last (header_of mid) mid.bodies c.in-Ok.ensures.exact c.in-Ok.ensures.settled c.in-Ok.ensures.any_moment seen.same seen.quiet)
    (only_read disk.content disk.moment disk.left_since disk.faults_of disk.has_room disk.tells c.args.points.now c.copy_of-copy.new.points c.copy_of-copy.ensures.look))

pub returns-in-Err-clause-done : goal.returns-in-Err-clause-done
returns-in-Err-clause-done g c = λ told faults.
    let disk = g.D.Disk in
    let old = c.args.log in
    let error = c.in-Err.refused.error in
    let new = c.in-Err.refused.disk in
    let log = over disk.tells disk.content disk.moment disk.left_since disk.faults_of old new in
    let points = over disk.tells disk.content disk.moment disk.left_since disk.faults_of c.args.points.now c.args.points.now in
    let spare = over disk.tells disk.content disk.moment disk.left_since disk.faults_of c.args.spare c.args.spare in
    uncopied_done (λ bytes. bytes.items) log points spare told faults error _ (ap Err c.unopened.ensures) c.in-Err.ensures.exact c.in-Err.ensures.of_asked c.in-Err.ensures.cause
    (stays_unborn disk.tells disk.content disk.moment disk.left_since disk.faults_of old new (λ knows rest unborn. c.in-Err.ensures.unasked knows rest refl unborn))
    (not_opened disk.tells disk.content disk.moment disk.left_since disk.faults_of old new error c.in-Err.ensures.any_moment c.in-Err.ensures.seen c.in-Err.ensures.cause) refl refl
