use Rattle.std.proofs.Common.{◌≡◌, ◌≢◌, ℕ, ◌<◌, ◌≤◌, Some}
use Rattle.std.specs.Prelude.{slice_get}
use Rattle.hy_hub.specs.Entries.{Asked}
use Rattle.hy_hub.proofs.flights.place_of.Given as goal

abbrev pub invariant-loop-place : goal.invariant-loop-place
invariant-loop-place l = (k : ℕ) (a : Asked) → l.from ≤ k → k < l.place → slice_get l.waiting k ≡ Some a → a.client ≢ l.client
