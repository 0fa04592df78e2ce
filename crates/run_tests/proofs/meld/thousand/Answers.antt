use Rattle.std.proofs.Common.{◌≤◌, arith, subst, sym}
use Rattle.hy_base.specs.Rows.{Each}
use Rattle.hy_base.proofs.RowLemmas.{Each-put}
use Rattle.run_tests.proofs.meld.thousand.Goals as goal

pub loop-key-preserved : goal.loop-key-preserved
loop-key-preserved c = subst (λ t. Each (λ r. r.writer ≤ 10) t) (sym c.in_ok-tree.ensures) (Each-put _ _ _ (omega arith) c.loop-key.invariant)
