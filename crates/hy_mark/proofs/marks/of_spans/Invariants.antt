use Rattle.std.proofs.Common.{◌≡◌, ℕ, take}
use Rattle.std.specs.List.{list_any}
use Rattle.hy_base.specs.Entry.{is_in_span}
use Rattle.hy_base.specs.Marks.{dep}
use Rattle.hy_mark.specs.Orders.{known_if}
use Rattle.hy_mark.proofs.marks.of_spans.Given as goal

abbrev pub invariant-loop-span : goal.invariant-loop-span
invariant-loop-span l = (key : ℕ) → dep l.pairs key ≡ known_if l.dependency (list_any (is_in_span key) (take l.span-index l.spans))
