use Rattle.std.proofs.Common.{ℕ, ◌∙◌, sym, subst}
use Rattle.hy_formats.specs.LogFormat.{IsGoodHeader}
use Rattle.hy_log.specs.View.{header_of}
use Rattle.hy_run.specs.Over.{over}
use Rattle.hy_run.proofs.Compacting.{base_is_good, only_read, tried, tried_with}
use Rattle.hy_run.proofs.compact.copy_of.Goals as goal

pub copy_entries-requires-clause-good : goal.copy_entries-requires-clause-good
copy_entries-requires-clause-good g c =
    let point = c.in-Ok.plan.point in
    let plan = c.in-Ok.ensures.plan in
    let same = plan.1.point_is.shape_is ∙ sym (c.shape.ensures.shape ∙ c.in-Ok.ensures.seen.shape) in
    subst (λ (n : ℕ). IsGoodHeader (record { shape = c.shape.result; from = n })) (sym c.base.ensures.base) (base_is_good c.shape.result point c.shape.ensures.good same plan.1.point_is.valid)

pub returns-in-Ok-clause-copied : goal.returns-in-Ok-clause-copied
returns-in-Ok-clause-copied g c =
    let disk = g.D.Disk in
    let log = c.args.log.now in
    let h = header_of log in
    let point = c.in-Ok.plan.point in
    let plan = c.in-Ok.ensures.plan in
    let rest = c.in-Ok.plan.rest.items in
    let points = over disk.tells disk.content disk.moment disk.left_since disk.faults_of c.args.points.now c.plan_copy.new.points in
    let spare = over disk.tells disk.content disk.moment disk.left_since disk.faults_of c.args.spare c.copy_entries.result.spare in
    let text = c.copy_entries.result.text in
    let copy = c.copy_entries.ensures in
    let as_called = tried_with (λ bytes. bytes.items) spare text c.shape.result h.shape c.base.result point.base c.deref.result.now rest (c.shape.ensures.shape ∙ c.in-Ok.ensures.seen.shape) c.base.ensures.base c.deref.ensures.value
    (copy.text, copy.held, λ unborn told settles image crash. (copy.any_moment told settles unborn).each image crash) in
    tried (λ bytes. bytes.items) disk.tells h log.bodies (disk.faults_of log.disk) (disk.faults_of c.plan_copy.new.log.disk) points spare text plan.0 point plan.1 rest plan.2 (λ told. told) as_called.0 copy.unborn as_called.1 copy.refused
    (λ told used. only_read disk.content disk.moment disk.left_since disk.faults_of disk.has_room disk.tells c.args.spare c.copy_entries.result.spare (copy.in_use told used)) as_called.2
