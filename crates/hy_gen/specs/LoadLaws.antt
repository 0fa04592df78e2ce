-- The schedule of a load may happen, event by event.
use Rattle.std.specs.Prelude.{◌≡◌, ℕ, ◌*◌, ◌<◌, ◌≤◌, List, [], length, decimal, Some, None, IsSomeAnd}
use Rattle.std.specs.List.{AllByRecursion}
use Rattle.hy_base.specs.declared.record.EntryKind.{EntryKind}
use Rattle.hy_base.specs.declared.record.EntryKind.TheVariants.{Filler, Txn}
use Rattle.hy_base.specs.declared.record.Write.{Write}
use Rattle.hy_base.specs.Limits.{IsLoadSize}
use Rattle.hy_rules.specs.Runs.{run, opening_of, first_disabled}
use Rattle.hy_gen.specs.Load.{script_of, schedule_of}

-- a write to a key below 500 puts the spelling of a number that is at most a bound
abbrev pub CountsUpTo : ℕ → Write → Type 0
CountsUpTo bound w = w.key < 500 → (n : ℕ) × (n ≤ bound) × (w.value ≡ Some (decimal n))

abbrev pub EntryCounts : ℕ → EntryKind → Type 0
EntryCounts bound (Filler server) = Unit {0}
EntryCounts bound (Txn i) = AllByRecursion (CountsUpTo bound) i.writes

-- so does each write of a log, the bound being twice the log's length
abbrev pub LogCounts : List EntryKind → Type 0
LogCounts log = AllByRecursion (EntryCounts (2 * length log)) log

-- No event of a load's schedule is disabled in its turn. So each appended program leaves a write, and each that ends
-- by itself leaves none.
abbrev pub ScheduleIsEnabled : Type 0
ScheduleIsEnabled =
    (seed size : ℕ) → IsLoadSize size
    → first_disabled (script_of seed size) (opening_of (script_of seed size) []) (schedule_of seed size) ≡ None

-- The schedule leads to a log of at most four entries for a program, whose keys below 500 hold numbers alone.
abbrev pub ScheduleLeads : Type 0
ScheduleLeads =
    (seed size : ℕ) → IsLoadSize size
    → IsSomeAnd (run (script_of seed size) (opening_of (script_of seed size) []) (schedule_of seed size)) (λ s.
    (length s.log ≤ 4 * size) × LogCounts s.log)
