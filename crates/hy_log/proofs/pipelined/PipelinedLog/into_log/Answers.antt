use Rattle.std.proofs.Common.{length, ap, arith}
use Rattle.hy_log.proofs.Batches.{none_sound}
use Rattle.hy_log.proofs.pipelined.PipelinedLog.into_log.Goals as goal

pub invariant_of-result : goal.invariant_of-result
invariant_of-result g c =
    let log = c.self.invariant.log in
    record {
      good = log.good;
      within = omega (arith, log.within, ap length c.clear.ensures.none);
      reserved = omega (arith, log.reserved, ap length c.clear.ensures.none);
      fits = log.fits;
      before = log.before;
      waits = c.clear.ensures.waits c.self.inside.frontier c.self.inside.frontier log.waits;
      sound = none_sound c.self.inside.header.shape.version c.self.inside.frontier c.clear.new.self c.clear.ensures.none;
      front = log.front;
      at_rest = log.at_rest;
      dropped = λ at is. c.clear.ensures.none;
      torn = log.torn;
    }
