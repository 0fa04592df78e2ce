use Rattle.std.proofs.Common.{◌≡◌, ◌+◌, ◌++◌, drop}
use Rattle.hy_rules.specs.History.{history_from}
use Rattle.hy_check.proofs.fold.add_group.Given as goal

-- what was added so far, and what the members from here on add
abbrev pub invariant-loop-at : goal.invariant-loop-at
invariant-loop-at l = record {
  place : l.pos ≡ l.upto + l.at;
  verdicts : l.verdicts.items ++ drop l.at l.judged ≡ l.initial.verdicts.items ++ l.judged;
  rows : l.rows.items ++ history_from (l.pos + 1) (drop l.at l.group) (drop l.at l.judged) ≡ l.initial.rows.items ++ history_from (l.upto + 1) l.group l.judged;
}
