use Rattle.std.proofs.Common.{◌≡◌, ◌≤◌, length, drop}
use Rattle.std.specs.Prelude.{◌==◌}
use Rattle.std.specs.List.{list_any}
use Rattle.hy_base.specs.Marks.{first_late}
use Rattle.hy_check.specs.Conflicts.{known_where}
use Rattle.hy_check.proofs.conflicts.first_in_writes.Given as goal

-- what is found so far is the first of those from here on
abbrev pub invariant-loop-at : goal.invariant-loop-at
invariant-loop-at g l = record {
  within : l.at ≤ length l.writes;
  found : l.found ≡ first_late (known_where (λ key. list_any (λ write. write.key == key) (drop l.at l.writes)) l.after) l.tree;
}

abbrev pub decreases-loop-at : goal.decreases-loop-at
decreases-loop-at g l = l.at
