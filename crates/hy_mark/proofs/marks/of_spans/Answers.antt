use Rattle.hy_base.specs.Entry.{is_in_span}
use Rattle.hy_mark.proofs.Known.{known_next}
use Rattle.hy_mark.proofs.marks.of_spans.Goals as goal

pub loop-span-preserved : goal.loop-span-preserved
loop-span-preserved c = λ key.
    rw (c.in_ok-pairs.ensures key, c.loop-span.invariant key, c.in_ok-more.ensures key)
    (known_next (is_in_span key) c.args.spans.now c.loop-span.span-index (record { lo = 0; hi = 0 }) c.args.dependency c.loop-span-test.true)
