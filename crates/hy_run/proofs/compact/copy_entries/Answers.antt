use Rattle.hy_run.proofs.Compacting.{found_then, only_found}
use Rattle.hy_run.proofs.compact.copy_entries.Goals as goal

pub returns-in-Err-clause-any_moment : goal.returns-in-Err-clause-any_moment
returns-in-Err-clause-any_moment g c told rest unborn =
    let disk = g.D.Disk in
    only_found disk.content disk.moment disk.left_since disk.faults_of (record { shape = c.args.shape; from = c.args.base }) c.args.entries.now c.args.spare c.find_unborn.new.spare c.find_unborn.ensures.look rest unborn

pub returns-in-Ok-clause-any_moment : goal.returns-in-Ok-clause-any_moment
returns-in-Ok-clause-any_moment g c told rest unborn =
    let disk = g.D.Disk in
    found_then disk.content disk.moment disk.left_since disk.faults_of (record { shape = c.args.shape; from = c.args.base }) c.args.entries.now c.args.spare c.find_unborn.new.spare c.find_unborn.ensures.look rest unborn c.in-Ok.spare (c.in-Ok.ensures.any_moment told)

pub returns-in-Err-copy_past-clause-any_moment : goal.returns-in-Err-copy_past-clause-any_moment
returns-in-Err-copy_past-clause-any_moment g c told rest unborn =
    let disk = g.D.Disk in
    found_then disk.content disk.moment disk.left_since disk.faults_of (record { shape = c.args.shape; from = c.args.base }) c.args.entries.now c.args.spare c.find_unborn.new.spare c.find_unborn.ensures.look rest unborn c.in-Err-copy_past.refused.spare (c.in-Err-copy_past.ensures.any_moment told)
