use Rattle.std.proofs.Common.{◌≡◌, ◌≤◌, ◌*◌, ◌-◌, length}
use Rattle.hy_base.specs.Shape.{base_groups, kept_groups}
use Rattle.hy_base.specs.Rows.{newest}
use Rattle.hy_rules.specs.Validation.{verdicts_after, history_after}
use Rattle.hy_check.proofs.fold.folded_after.Given as goal

-- the verdicts of the groups so far, and the last rows after them and at the ends of windows
abbrev pub invariant-loop-upto : goal.invariant-loop-upto
invariant-loop-upto l = record {
  place : l.upto ≡ l.shape.group * l.groups;
  within : l.upto ≤ length l.entries;
  count : length l.verdicts.items ≡ l.upto;
  verdicts : l.verdicts.items ≡ verdicts_after l.shape l.entries l.groups;
  now : l.last.now ≡ newest (history_after l.shape l.entries l.groups);
  kept : l.last.kept ≡ newest (history_after l.shape l.entries (kept_groups l.shape l.groups));
  base : l.last.base ≡ newest (history_after l.shape l.entries (base_groups l.shape l.groups));
}

abbrev pub decreases-loop-upto : goal.decreases-loop-upto
decreases-loop-upto l = length l.entries - l.upto
