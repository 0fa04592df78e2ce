use Rattle.std.proofs.Common.{true, ap, Err}
use Rattle.hy_log.specs.View.{header_of}
use Rattle.hy_run.specs.Copies.{IsPlanFault}
use Rattle.hy_run.specs.Fates.{Fits, opened}
use Rattle.hy_run.specs.Jobs.{only_point}
use Rattle.hy_run.specs.Looking.{entries_fault}
use Rattle.hy_run.specs.Over.{over}
use Rattle.hy_run.proofs.Compacting.{audit_first, base_fault_of, err_as, found_again, only_read, plan_of, refused_again, rest_plan_fault, rest_read, seen_twice}
use Rattle.hy_run.proofs.compact.plan_copy.Goals as goal

pub returns-in_err-point-clause-refused : goal.returns-in_err-point-clause-refused
returns-in_err-point-clause-refused g c =
    let disk = g.D.Disk in
    let log = c.args.log.now in
    let bytes = (disk.content c.args.points.now).seen in
    let found = c.in_ok-judge_entries.ensures.read in
    let s = c.in_err-point.field-0.0 in
    let lf = disk.faults_of log.disk in
    let lf_now = disk.faults_of c.judge_entries.new.log.disk in
    let pf = disk.faults_of c.args.points.now in
    let pf_now = disk.faults_of c.further_point.new.points in
    err_as c.from_residual-in_err-point.result s (IsPlanFault disk.tells (header_of log) log.bodies bytes lf lf_now pf pf_now) c.from_residual-in_err-point.ensures.1
    (base_fault_of disk.tells (header_of log) log.bodies bytes found.0 c.shape-shape.result c.from-from.result c.len-len.result c.shape-shape.ensures.shape c.from-from.ensures.from c.len-len.ensures.len found.1 lf lf_now pf pf_now s c.in_err-point.ensures.refused)

pub returns-in_err-rest-clause-refused : goal.returns-in_err-rest-clause-refused
returns-in_err-rest-clause-refused g c =
    let disk = g.D.Disk in
    let log = c.args.log.now in
    let mid = c.judge_entries.new.log in
    let h = header_of log in
    let bytes = (disk.content c.args.points.now).seen in
    let point = c.in_ok-point.point in
    let found = c.in_ok-judge_entries.ensures.read in
    let same = c.judge_entries.ensures.same in
    let plan = plan_of disk.tells h log.bodies bytes found.0 c.shape-shape.result c.from-from.result c.len-len.result c.shape-shape.ensures.shape c.from-from.ensures.from c.len-len.ensures.len found.1 point c.in_ok-point.ensures.point in
    let e = c.in_err-rest.field-0.0 in
    let lf = disk.faults_of log.disk in
    let lf_now = disk.faults_of c.entries_past.new.log.disk in
    let pf = disk.faults_of c.args.points.now in
    let pf_now = disk.faults_of c.further_point.new.points in
    err_as c.from_residual-in_err-rest.result (entries_fault e) (IsPlanFault disk.tells h log.bodies bytes lf lf_now pf pf_now) c.from_residual-in_err-rest.ensures.1
    (rest_plan_fault c.bodies_are_read.ensures disk.tells h log.bodies bytes found.0 point plan lf (disk.faults_of mid.disk) lf_now pf pf_now e
    (λ told. refused_again h point log.bodies mid.bodies mid.shape mid.from c.base.result same.shape same.from same.bodies c.base.ensures.base e (c.in_err-rest.ensures.refused told)) c.judge_entries.ensures.look.later (λ is. c.in_err-rest.ensures.look.device (ap Err is)))

pub returns-in_err-rest-clause-comes_first : goal.returns-in_err-rest-clause-comes_first
returns-in_err-rest-clause-comes_first g c =
    let disk = g.D.Disk in
    let log = c.args.log.now in
    let points = over disk.tells disk.content disk.moment disk.left_since disk.faults_of c.args.points.now c.further_point.new.points in
    let e = c.in_err-rest.field-0.0 in
    err_as c.from_residual-in_err-rest.result (entries_fault e) (λ status. Fits only_point true status points (opened (header_of log) log.bodies)) c.from_residual-in_err-rest.ensures.1
    (audit_first e points (header_of log) log.bodies (only_read disk.content disk.moment disk.left_since disk.faults_of disk.has_room disk.tells c.args.points.now c.further_point.new.points c.further_point.ensures.look))

pub returns-in_err-rest-clause-seen : goal.returns-in_err-rest-clause-seen
returns-in_err-rest-clause-seen g c =
    let disk = g.D.Disk in
    seen_twice disk.content disk.moment disk.left_since disk.faults_of disk.has_room c.args.log.now c.judge_entries.new.log c.entries_past.new.log c.judge_entries.result c.entries_past.result c.judge_entries.ensures.look c.entries_past.ensures.look c.judge_entries.ensures.same c.entries_past.ensures.same

pub returns-clause-plan : goal.returns-clause-plan
returns-clause-plan g c =
    let disk = g.D.Disk in
    let log = c.args.log.now in
    let mid = c.judge_entries.new.log in
    let h = header_of log in
    let bytes = (disk.content c.args.points.now).seen in
    let point = c.in_ok-point.point in
    let found = c.in_ok-judge_entries.ensures.read in
    let same = c.judge_entries.ensures.same in
    let plan = plan_of disk.tells h log.bodies bytes found.0 c.shape-shape.result c.from-from.result c.len-len.result c.shape-shape.ensures.shape c.from-from.ensures.from c.len-len.ensures.len found.1 point c.in_ok-point.ensures.point in
    let rest = c.in_ok-rest.rest.items in (
      found.0,
      plan,
      rest_read c.bodies_are_read.ensures disk.tells h log.bodies bytes found.0 point plan rest (found_again h point log.bodies mid.bodies mid.shape mid.from c.base.result same.shape same.from same.bodies c.base.ensures.base disk.tells rest c.in_ok-rest.ensures.read),
    )

pub returns-clause-seen : goal.returns-clause-seen
returns-clause-seen g c =
    let disk = g.D.Disk in
    seen_twice disk.content disk.moment disk.left_since disk.faults_of disk.has_room c.args.log.now c.judge_entries.new.log c.entries_past.new.log c.judge_entries.result c.entries_past.result c.judge_entries.ensures.look c.entries_past.ensures.look c.judge_entries.ensures.same c.entries_past.ensures.same
