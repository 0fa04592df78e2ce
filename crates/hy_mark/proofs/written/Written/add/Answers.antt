use Rattle.std.proofs.Common.{◌≡◌, sym, ◌∙◌, subst}
use Rattle.hy_base.specs.Lists.{put}
use Rattle.hy_base.specs.Rows.{IsOrdered, row_before}
use Rattle.hy_base.proofs.RowLemmas.{ordered_put, put_last}
use Rattle.hy_mark.proofs.written.Written.add.Goals as goal

in_place : (c : goal.In_ok-push) → c.push.new.self ≡ put row_before c.args.row c.args.self.now
in_place c = c.in_ok-push.ensures.ok ∙ rw c.self.view_is (sym (put_last c.args.row c.args.self.now (c.ends_before.ensures c.if-ends_before.true)))

pub invariant_of-self-then-ends_before : goal.invariant_of-self-then-ends_before
invariant_of-self-then-ends_before c = rw (in_place c) (ordered_put c.args.row c.args.self.now (subst IsOrdered c.self.view_is c.self.invariant))

pub returns-then-ends_before-clause-ok : goal.returns-then-ends_before-clause-ok
returns-then-ends_before-clause-ok c = in_place c
