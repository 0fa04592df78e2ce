use Rattle.std.proofs.Common.{◌≡◌, ◌==◌, ℕ, take}
use Rattle.std.specs.List.{list_any}
use Rattle.hy_base.specs.Marks.{dep}
use Rattle.hy_mark.specs.Orders.{known_if}
use Rattle.hy_mark.proofs.marks.of_points.Given as goal

abbrev pub invariant-loop-key : goal.invariant-loop-key
invariant-loop-key l = (key : ℕ) → dep l.pairs key ≡ known_if l.dependency (list_any (λ point. point == key) (take l.key-index l.points))
