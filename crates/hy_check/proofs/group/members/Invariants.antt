use Rattle.std.proofs.Common.{◌≡◌, ℕ, ◌+◌, ◌++◌, ◌≤◌, [], length, take, drop}
use Rattle.hy_base.specs.Rows.{Each}
use Rattle.hy_rules.specs.Validation.{standings}
use Rattle.hy_rules.specs.Members.{standings_as}
use Rattle.hy_check.proofs.group.members.Given as goal

-- the members so far, and those that follow where these have joined, are all members
abbrev pub invariant-loop-entry : goal.invariant-loop-entry
invariant-loop-entry l = record {
  place : l.pos ≡ l.upto + l.entry-index;
  count : length l.found.items ≡ l.entry-index;
  standings : (base : ℕ) → Each (λ row. row.writer ≤ base) l.tree → standings_as (take l.entry-index l.group) l.found.items ++ standings l.tree l.oldest base (l.pos + 1) l.joined.items (drop l.entry-index l.group) ≡ standings l.tree l.oldest base (l.upto + 1) [] l.group;
}
