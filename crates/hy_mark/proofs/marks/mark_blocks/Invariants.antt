use Rattle.std.proofs.Common.{◌≡◌, ℕ, take}
use Rattle.std.specs.List.{list_any}
use Rattle.hy_base.specs.Entry.{is_in_span}
use Rattle.hy_base.specs.Marks.{lesser, dep}
use Rattle.hy_mark.specs.Orders.{known_if}
use Rattle.hy_mark.proofs.marks.mark_blocks.Given as goal

abbrev pub invariant-loop-block : goal.invariant-loop-block
invariant-loop-block l = (key : ℕ) → dep l.pairs key ≡ lesser (known_if l.dependency (list_any (is_in_span key) (take l.block-index l.blocks))) (dep l.fn.pairs key)
