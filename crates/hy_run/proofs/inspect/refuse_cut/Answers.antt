use Rattle.std.proofs.Common.{ℕ, ap, sym, subst, Err}
use Rattle.hy_log.specs.View.{header_of}
use Rattle.hy_rules.specs.Recovery.{decoded_log}
use Rattle.hy_run.specs.Looking.{IsLogFault}
use Rattle.hy_run.specs.declared.status.Status.TheVariants as status
use Rattle.std.specs.Prelude.{Some}
use Rattle.hy_run.proofs.Inspecting.{fault_told_as, untold_cut}
use Rattle.hy_run.proofs.inspect.refuse_cut.Goals as goal

pub returns-in_err-judge_entries-clause-refused : goal.returns-in_err-judge_entries-clause-refused
returns-in_err-judge_entries-clause-refused g c =
    let log = c.args.log.now in
    fault_told_as c.from_residual.result c.args.report g.D.Disk.tells (header_of log) log.bodies c.in_err-judge_entries.field-0.0 _ _ c.from_residual.ensures.1 c.in_err-judge_entries.ensures.refused (λ is. c.in_err-judge_entries.ensures.look.device (ap Err is))

pub returns-clause-refused : goal.returns-clause-refused
returns-clause-refused g c =
    let log = c.args.log.now in
    let found = c.in_ok-judge_entries.ensures.read in
    let disk = g.D.Disk in
    subst (λ (n : ℕ). IsLogFault c.args.report disk.tells (decoded_log (Some (header_of log)) log.bodies) (disk.faults_of log.disk) (disk.faults_of c.judge_entries.new.log.disk) (status.Behind 0 n)) (sym c.from-from.ensures.from)
    (untold_cut c.args.report c.requires.whole disk.tells (header_of log) log.bodies found.0 (disk.faults_of log.disk) (disk.faults_of c.judge_entries.new.log.disk) c.requires.cut found.1.read)
