use Rattle.std.proofs.Common.{◌≡◌, length, take}
use Rattle.std.specs.Prelude.{vec_capacity}
use Rattle.hy_hub.proofs.initial.shares_between.Given as goal

abbrev pub invariant-loop-entry : goal.invariant-loop-entry
invariant-loop-entry l = (l.shares.items ≡ take l.entry-index l.shared) × (vec_capacity l.shares ≡ length l.shared)
