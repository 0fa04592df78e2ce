use Rattle.hy_mark.proofs.Widths.{Widest, widest_of}
use Rattle.hy_mark.proofs.covering.widest.Goals as goal

known : (c : goal.After-min) → Widest c.args.first c.args.end c.min.result
known c =
    widest_of c.args.first c.args.end c.ilog2.result c.min.result c.requires.some c.requires.fits c.min.ensures c.ilog2.ensures.power_le c.ilog2.ensures.next_power_gt c.ilog2.ensures.bound

pub returns-clause-aligned : goal.returns-clause-aligned
returns-clause-aligned c = (known c).aligned

pub returns-clause-within : goal.returns-clause-within
returns-clause-within c = (known c).within

pub returns-clause-small : goal.returns-clause-small
returns-clause-small c = (known c).small

pub returns-clause-widest : goal.returns-clause-widest
returns-clause-widest c = (known c).widest
