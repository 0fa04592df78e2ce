use Rattle.hy_mark.proofs.Deps.{dep_last}
use Rattle.hy_mark.proofs.Ordering.{pairs_last}
use Rattle.hy_mark.proofs.pairs.MarkList.add.Goals as goal

pub invariant_of-self-then-ends_before : goal.invariant_of-self-then-ends_before
invariant_of-self-then-ends_before c =
    rw c.in_ok-push.ensures.ok (pairs_last c.self.inside.marks c.args.mark c.self.invariant c.requires (rw c.self.view_is (c.ends_before.ensures c.if-ends_before.true)))

pub returns-then-ends_before-clause-ok : goal.returns-then-ends_before-clause-ok
returns-then-ends_before-clause-ok c = λ key. rw (c.in_ok-push.ensures.ok, c.self.view_is) (dep_last c.args.self.now c.args.mark key)
