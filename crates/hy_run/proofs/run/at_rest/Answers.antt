use Rattle.std.proofs.Common.{arith}
use Rattle.hy_run.proofs.run.at_rest.Goals as goal

pub returns : goal.returns
returns g c told runs image is = (c.is_at_rest.ensures told runs).each image (g.met.D.Disk.counts_now c.args.log.now.disk (g.D.Disk.moment c.args.log.now.disk) image told (omega arith) is)
