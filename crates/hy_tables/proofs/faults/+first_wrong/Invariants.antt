use Rattle.std.proofs.Common.{length}
use Rattle.hy_tables.proofs.faults.+first_wrong.Given as goal

abbrev pub decreases-first_wrong : goal.decreases-first_wrong
decreases-first_wrong g l = length l.part.now
