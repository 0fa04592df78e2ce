use Rattle.std.proofs.Common.{◌≡◌, map, take}
use Rattle.hy_rules.specs.Summary.{reads_in}
use Rattle.hy_core.specs.CoreParts.{ended_in_course}
use Rattle.hy_core.proofs.replies.reads_in.Given as goal

abbrev pub invariant-loop-at : goal.invariant-loop-at
invariant-loop-at l = l.count ≡ reads_in (map ended_in_course (take l.at l.told))
