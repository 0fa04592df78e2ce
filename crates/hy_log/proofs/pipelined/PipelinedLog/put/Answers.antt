use Rattle.std.proofs.Common.{arith}
use Rattle.hy_log.proofs.Batches.{pages_few}
use Rattle.hy_log.proofs.pipelined.PipelinedLog.put.Goals as goal

pub overflow_add-page : goal.overflow_add-page
overflow_add-page g c = omega (arith, pages_few c.self.inside.frontier c.self.inside.laid c.self.invariant.log.waits, c.self.invariant.log.waits.few, c.self.invariant.log.fits, c.self.invariant.log.within, c.self.invariant.log.good.shape.cap)

pub push-requires-clause-page : goal.push-requires-clause-page
push-requires-clause-page g c = omega (arith, pages_few c.self.inside.frontier c.self.inside.laid c.self.invariant.log.waits, c.self.invariant.log.waits.few, c.self.invariant.log.fits, c.self.invariant.log.within, c.self.invariant.log.good.shape.cap)
