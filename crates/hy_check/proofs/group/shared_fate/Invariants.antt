use Rattle.std.proofs.Common.{◌≡◌, ℕ, ◌≤◌, length, drop}
use Rattle.std.specs.Prelude.{flat_map}
use Rattle.hy_base.specs.Rows.{Each}
use Rattle.hy_rules.specs.Validation.{first_clash, late_conflicts}
use Rattle.hy_rules.specs.Members.{standings_as}
use Rattle.hy_check.proofs.group.shared_fate.Given as goal

-- what is found so far is the first late conflict of the members from here on
abbrev pub invariant-loop-at : goal.invariant-loop-at
invariant-loop-at l = record {
  within : l.at ≤ length l.group;
  found : (upto : ℕ) → Each (λ row. row.writer ≤ upto) l.tree → l.found ≡ first_clash (flat_map (late_conflicts l.tree l.base upto) (standings_as (drop l.at l.group) (drop l.at l.members)));
}

abbrev pub decreases-loop-at : goal.decreases-loop-at
decreases-loop-at l = l.at
