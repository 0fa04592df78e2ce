use Rattle.std.proofs.Common.{◌≡◌, ◌<◌, arith, subst, sym, None}
use Rattle.hy_base.specs.Rows.{AreDeletedAfterStart}
use Rattle.hy_base.proofs.RowLemmas.{Each-put}
use Rattle.run_tests.proofs.meld.eight.Goals as goal

pub loop-key-preserved : goal.loop-key-preserved
loop-key-preserved c = subst AreDeletedAfterStart (sym c.in_ok-tree.ensures) (Each-put (λ r. r.value ≡ None → 0 < r.writer) _ _ (λ deleted. omega arith) c.loop-key.invariant)
