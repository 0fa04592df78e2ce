-- Logs that were cut: the entries up to a position are gone, and a saved point at or past it tells what they left.
--     What is said of such a log is said of each whole log that it may be the rest of. Of a log that wasn't cut there is just
--     one: its own entries.
use Rattle.std.specs.Prelude.{◌≡◌, ℕ, ◌+◌, ◌≤◌, List, ◌++◌, length, drop, replicate, Option}
use Rattle.hy_base.specs.declared.layout.Shape.{Shape}
use Rattle.hy_base.specs.declared.record.EntryKind.{EntryKind}
use Rattle.hy_base.specs.declared.record.EntryKind.TheVariants.{Filler}
use Rattle.hy_base.specs.declared.workload.Event.{Event}
use Rattle.hy_base.specs.Log.{HaveLawfulSnaps, IsLawful}
use Rattle.hy_base.specs.Script.{Workload}
use Rattle.hy_formats.specs.Checkpoint.{Checkpoint}
use Rattle.hy_rules.specs.Moves.{LeadTo, State}
use Rattle.hy_rules.specs.Runs.{opening_of, setting_of}
use Rattle.hy_rules.specs.SavedPoints.{StandsIfAny}

-- A whole log of which these are the entries past a position: so many others stand before them, whichever, it is lawful, and
-- the point stands for it, if there is one.
pub record IsWholeOf (s : Shape) (from : ℕ) (entries : List EntryKind) (point : Option Checkpoint)
    (log : List EntryKind) : Type 0 where
  pub before : List EntryKind
  pub cut : length before ≡ from
  pub whole : before ++ entries ≡ log
  pub lawful : IsLawful s log
  pub stands : StandsIfAny s log point

-- the entries past a position of a lawful log
pub record AreLawfulPast (s : Shape) (from : ℕ) (entries : List EntryKind) : Type 0 where
  pub capacity : from + length entries ≤ s.cap
  pub snaps : HaveLawfulSnaps s from entries

-- A log of these entries past a position, where it doesn't matter which stand before them: fillers.
abbrev pub filled : ℕ → List EntryKind → List EntryKind
filled from entries = replicate from (Filler 1) ++ entries

-- a log with other entries in place of as many that stand first in it
abbrev pub starting_with : List EntryKind → List EntryKind → List EntryKind
starting_with before log = before ++ drop (length before) log

-- the state of a run with such a log
abbrev pub swapped : List EntryKind → State → State
swapped before s = record s { log = starting_with before s.log }

-- Whichever entries stood up to the cut: these events, each of which may happen in its turn, lead from the entries found past
-- it to this state, with those in its log.
abbrev pub LeadPast : Workload → ℕ → List EntryKind → List Event → State → Type 0
LeadPast script from found events end =
    (before : List EntryKind) → length before ≡ from
    → LeadTo (setting_of script) (opening_of script (before ++ found)) events (swapped before end)
