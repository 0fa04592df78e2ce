use Rattle.std.proofs.Common.{◌≡◌, ◌==◌, ℕ, take}
use Rattle.std.specs.List.{list_any}
use Rattle.hy_base.specs.declared.record.Write.{Write}
use Rattle.hy_base.specs.Marks.{dep}
use Rattle.hy_mark.specs.Orders.{known_if}
use Rattle.hy_mark.proofs.marks.of_writes.Given as goal

abbrev pub invariant-loop-write : goal.invariant-loop-write
invariant-loop-write l = (key : ℕ) → dep l.pairs key ≡ known_if l.dependency (list_any (λ (w : Write). w.key == key) (take l.write-index l.writes))
