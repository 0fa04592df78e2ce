use Rattle.std.proofs.Common.{◌≡◌, ◌≤◌, length, drop}
use Rattle.hy_rules.specs.Validation.{touched, first_clash}
use Rattle.hy_check.proofs.group.mate.Given as goal

-- what is found so far is the first conflict of the rows from here on
abbrev pub invariant-loop-at : goal.invariant-loop-at
invariant-loop-at l = record {
  within : l.at ≤ length l.rows;
  found : l.found ≡ first_clash (touched l.intention (drop l.at l.rows));
}

abbrev pub decreases-loop-at : goal.decreases-loop-at
decreases-loop-at l = l.at
