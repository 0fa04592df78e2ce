-- Programs that ask for a position: what becomes of them.
use Rattle.std.specs.Prelude.{◌≡◌, ℕ, ◌<◌, List, Option, Some, option_and_then, ⊤}
use Rattle.std.specs.List.{AllByRecursion}
use Rattle.hy_base.specs.Script.{Workload}
use Rattle.hy_rules.specs.Runs.{program_of, Ended, Ending, ByReading, ByPast, ByNotYet}

-- the position that the client's program of this number asks for
abbrev pub asks_for : Workload → ℕ → ℕ → Option ℕ
asks_for script client number = option_and_then (λ program. program.as_of) (program_of script client number)

-- one that read did so at that position; one that was not begun asked for one below the least that its server
-- kept, or above its board
abbrev pub EndsAsAsked : ℕ → ℕ → Ending → Type 0
EndsAsAsked pos snap ByReading = snap ≡ pos
EndsAsAsked pos snap (ByPast from) = pos < from
EndsAsAsked pos snap (ByNotYet board) = board < pos
EndsAsAsked pos snap _ = ⊤

abbrev pub IsAsAsked : Workload → Ended → Type 0
IsAsAsked script e = (pos : ℕ) → asks_for script e.client e.number ≡ Some pos → EndsAsAsked pos e.snap e.ending

abbrev pub AreAsAsked : Workload → List Ended → Type 0
AreAsAsked script done = AllByRecursion (IsAsAsked script) done
