use Rattle.std.proofs.Common.{◌≤◌}
use Rattle.hy_base.specs.Rows.{Each}
use Rattle.run_tests.proofs.meld.thousand.Given as goal

abbrev pub invariant-loop-key : goal.invariant-loop-key
invariant-loop-key l = Each (λ r. r.writer ≤ 10) l.tree
