use Rattle.std.proofs.Common.{◌≡◌, ◌++◌, length, drop}
use Rattle.std.specs.Prelude.{map}
use Rattle.hy_rules.specs.Validation.{fated}
use Rattle.hy_rules.specs.Members.{standings_as}
use Rattle.hy_check.proofs.group.verdicts_of.Given as goal

-- the verdicts so far and those of the members from here on are all verdicts
abbrev pub invariant-loop-at : goal.invariant-loop-at
invariant-loop-at l = record {
  count : length l.verdicts.items ≡ l.at;
  verdicts : l.verdicts.items ++ map (fated l.fate) (standings_as (drop l.at l.group) (drop l.at l.members)) ≡ map (fated l.fate) (standings_as l.group l.members);
}
