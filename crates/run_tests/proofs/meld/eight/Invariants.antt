use Rattle.hy_base.specs.Rows.{AreDeletedAfterStart}
use Rattle.run_tests.proofs.meld.eight.Given as goal

abbrev pub invariant-loop-key : goal.invariant-loop-key
invariant-loop-key l = AreDeletedAfterStart l.tree
