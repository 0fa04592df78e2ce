use Rattle.std.proofs.Common.{◌+◌, arith}
use Rattle.log_tests.proofs.rules.three_sums.Goals as goal

pub plain_fold-folded-requires-clause-lawful : goal.plain_fold-folded-requires-clause-lawful
plain_fold-folded-requires-clause-lawful c = rw (c.deref.ensures.value, c.in_ok-entries.ensures.items) (record { capacity = omega arith; snaps = (c.in_ok-a.ensures (0 + 1), (c.in_ok-b.ensures (0 + 1 + 1), (c.in_ok-c.ensures (0 + 1 + 1 + 1), tt))) })
