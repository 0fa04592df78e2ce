use Rattle.std.proofs.Common.{sym, ◌∙◌}
use Rattle.hy_mark.proofs.Ordering.{before_each}
use Rattle.hy_mark.proofs.pairs.MarkList.stands_before.Goals as goal

pub returns-in-Some : goal.returns-in-Some
returns-in-Some c = λ t.
    before_each c.args.self.now c.in-Some.first.now _ c.args.other.now (sym c.as_slice.ensures.marks ∙ c.in-Some.ensures.cases.0) c.as_slice.ensures.valid.ordered (c.ends_before.ensures t)
