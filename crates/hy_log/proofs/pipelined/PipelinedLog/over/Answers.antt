use Rattle.std.proofs.Common.{◌≡◌, ◌+◌, [], length, ◌∙◌, ap, arith}
use Rattle.hy_log.specs.Batches.{waiting}
use Rattle.hy_log.proofs.Batches.{none_sound}
use Rattle.hy_log.proofs.Commits.{none_laid}
use Rattle.hy_log.proofs.pipelined.PipelinedLog.over.Goals as goal

pub invariant_of-result : goal.invariant_of-result
invariant_of-result g c =
    let log = c.log.invariant in
    let none : waiting c.log.inside.frontier c.log.inside.batch ≡ [] = ap (λ v. v.batch) c.log.view_is ∙ c.requires.nothing_waits in
    record {
      log = record {
        good = log.good;
        within = log.within;
        reserved = log.reserved;
        fits = log.fits;
        before = log.before;
        waits = log.waits;
        sound = log.sound;
        front = log.front;
        at_rest = log.at_rest;
        dropped = log.dropped;
        torn = log.torn;
      };
      within = omega (arith, log.within, ap length c.in-Ok.ensures.none);
      reserved = omega (arith, log.reserved, ap length c.in-Ok.ensures.none);
      waits = c.in-Ok.ensures.waits (c.log.inside.frontier + c.log.inside.batch.pages);
      sound = none_sound c.log.inside.header.shape.version (c.log.inside.frontier + c.log.inside.batch.pages) c.in-Ok.batch c.in-Ok.ensures.none;
      stands = λ told running. none_laid c.log.inside.frontier _ _ none;
      none_waits = λ at is. c.in-Ok.ensures.none;
    }
