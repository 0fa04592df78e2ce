use Rattle.std.proofs.Common.{◌≡◌, ap, ◌∙◌}
use Rattle.std.specs.Prelude.{map}
use Rattle.std.proofs.lemmas.List.{take_all}
use Rattle.hy_mark.proofs.Deps.{raise, dep_raised}
use Rattle.hy_mark.proofs.Ordering.{pairs_raised}
use Rattle.hy_mark.proofs.pairs.MarkList.raised.Goals as goal

all : (c : goal.After-loop-block) → c.loop-block.marks ≡ map (raise c.args.base) c.args.self.now
all c = c.loop-block.invariant ∙ ap (map (raise c.args.base)) (take_all c.loop-block.block-index c.args.self.now (rw c.as_slice-block-items.ensures.marks at c.loop-block-test.false))

pub invariant_of-result : goal.invariant_of-result
invariant_of-result c = rw (all c) (pairs_raised c.args.base c.args.self.now c.as_slice-block-items.ensures.valid)

pub returns : goal.returns
returns c = λ key. rw (all c) (dep_raised c.args.base c.args.self.now key)
