use Rattle.std.proofs.Common.{◌+◌, length, ap, arith}
use Rattle.hy_log.proofs.Batches.{none_sound}
use Rattle.hy_log.proofs.Commits.{none_laid, none_waiting}
use Rattle.hy_log.proofs.pipelined.PipelinedLog.forget.Goals as goal

pub invariant_of-self : goal.invariant_of-self
invariant_of-self g c =
    let log = c.self.invariant.log in
    let p = c.self.inside in
    record {
      log = record {
        good = log.good;
        within = omega (arith, log.within, ap length c.clear.ensures.none);
        reserved = omega (arith, log.reserved, ap length c.clear.ensures.none);
        fits = log.fits;
        before = log.before;
        waits = c.clear.ensures.waits p.frontier p.frontier log.waits;
        sound = none_sound p.header.shape.version p.frontier c.clear.new.self c.clear.ensures.none;
        front = log.front;
        at_rest = log.at_rest;
        dropped = λ at is. c.clear.ensures.none;
        torn = log.torn;
      };
      within = omega (arith, c.self.invariant.within, ap length c.clear.ensures.none, ap length c.clear-2.ensures.none);
      reserved = omega (arith, c.self.invariant.reserved, ap length c.clear.ensures.none, ap length c.clear-2.ensures.none);
      waits = c.clear-2.ensures.waits (p.frontier + p.laid.pages) (p.frontier + c.clear.new.self.pages) c.self.invariant.waits;
      sound = none_sound p.header.shape.version (p.frontier + c.clear.new.self.pages) c.clear-2.new.self c.clear-2.ensures.none;
      stands = λ told running. none_laid p.frontier _ _ (none_waiting p.frontier c.clear.new.self c.clear.ensures.none);
      none_waits = λ at is. c.clear-2.ensures.none;
    }
