use Rattle.std.proofs.Common.{◌+◌, arith}
use Rattle.hy_mark.proofs.Widths.{Widest, shifted}
use Rattle.hy_mark.proofs.Covers.{covers_more}
use Rattle.hy_mark.proofs.covering.cover.Goals as goal

pub loop-next-preserved : goal.loop-next-preserved
loop-next-preserved c =
    let e = c.widest-bits.ensures in
    let w : Widest c.loop-next.next (c.from-end.result + 1) c.widest-bits.result = record { aligned = e.aligned; within = e.within; small = e.small; widest = e.widest } in
    rw (shifted c.widest-bits.result e.small, c.in_ok-push.ensures.ok) (covers_more c.block.result c.loop-next.invariant c.loop-next-test.true (omega arith) w c.block.ensures)
