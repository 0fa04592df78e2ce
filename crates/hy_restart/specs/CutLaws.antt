-- Laws on logs that were cut: which entries stood before the cut doesn't matter past the base of a point.
use Rattle.std.specs.Prelude.{◌≡◌, ℕ, ◌+◌, ◌-◌, ◌*◌, ◌≤◌, ◌<◌, ◌%◌, List, ◌++◌, length, drop, true, map, Option, Some, Ok}
use Rattle.std.specs.Prelude.{IfSome}
use Rattle.hy_base.specs.declared.layout.Shape.{Shape}
use Rattle.hy_base.specs.declared.record.EntryKind.{EntryKind}
use Rattle.hy_base.specs.Shape.{IsGoodShape}
use Rattle.hy_base.specs.Log.{IsLawful}
use Rattle.std.specs.List.{AllByRecursion}
use Rattle.hy_base.specs.Entry.{IsSoundEntry}
use Rattle.hy_formats.specs.EntryFormat.{spelling}
use Rattle.hy_formats.specs.PointFormat.{held_point}
use Rattle.hy_formats.specs.Checkpoint.{Checkpoint, IsCheckpoint}
use Rattle.hy_formats.specs.Restarting.{base_of, restart_in}
use Rattle.hy_rules.specs.History.{commits_past, pairs_of}
use Rattle.hy_rules.specs.Validation.{verdicts_after, rows_after, verdicts, live}
use Rattle.hy_rules.specs.Runs.{verdict_at}
use Rattle.hy_rules.specs.SavedPoints.{StandsIfAny}
use Rattle.hy_rules.specs.CutLogs.{IsWholeOf, AreLawfulPast, filled}
use Rattle.hy_roll_laws.specs.Rolling.{Stands}
use Rattle.hy_restart.specs.Resuming.{whole_front, restarted_roll}

-- a log that wasn't cut has one whole log: its entries
pub record IsUncut (s : Shape) (entries : List EntryKind) (point : Option Checkpoint) : Type 0 where
  pub is_one : (log : List EntryKind) → IsWholeOf s 0 entries point log → log ≡ entries
  pub is_whole : IsLawful s entries → StandsIfAny s entries point → IsWholeOf s 0 entries point entries

abbrev pub UncutIsWhole : Type 0
UncutIsWhole = (s : Shape) (entries : List EntryKind) (point : Option Checkpoint) → IsUncut s entries point

-- Past the base of a point two logs decide the same: the rows after these groups, which entries past the base committed, and
-- the verdicts past the point.
pub record DecideAlike (s : Shape) (c : Checkpoint) (log other : List EntryKind) (groups : ℕ) : Type 0 where
  pub rows : rows_after s log groups ≡ rows_after s other groups
  pub commits : commits_past c.base (verdicts_after s log groups) ≡ commits_past c.base (verdicts_after s other groups)
  pub verdicts : drop c.position (verdicts_after s log groups) ≡ drop c.position (verdicts_after s other groups)

-- Whichever entries stand before those that are known: where the point stands for both logs, and its base isn't before the
-- cut, they decide alike.
abbrev pub PointDecides : Type 0
PointDecides =
    (s : Shape) (from : ℕ) (entries : List EntryKind) (c : Checkpoint) (log other : List EntryKind) (groups : ℕ)
    → IsGoodShape s → IsCheckpoint c → from ≤ c.base → IsWholeOf s from entries (Some c) log
    → IsWholeOf s from entries (Some c) other → c.base ≤ s.group * groups → s.group * groups ≤ length log
    → DecideAlike s c log other groups

-- the same by positions: what a snapshot sees, and the verdict of an entry past the point
pub record TellAlike (s : Shape) (c : Checkpoint) (log other : List EntryKind) : Type 0 where
  pub snapshots : (pos : ℕ) → pos % s.group ≡ 0 → c.base ≤ pos → pos ≤ length log → live s log pos ≡ live s other pos
  pub told : (pos : ℕ) → c.position < pos
      → verdict_at (verdicts s log (length log)) pos ≡ verdict_at (verdicts s other (length other)) pos

abbrev pub PointTells : Type 0
PointTells =
    (s : Shape) (from : ℕ) (entries : List EntryKind) (c : Checkpoint) (log other : List EntryKind) → IsGoodShape s
    → IsCheckpoint c → from ≤ c.base → IsWholeOf s from entries (Some c) log → IsWholeOf s from entries (Some c) other
    → TellAlike s c log other

-- One roller stands for each whole log: it is made of the point and the entries past the cut.
abbrev pub OneRollerForAll : Type 0
OneRollerForAll =
    (s : Shape) (from : ℕ) (entries : List EntryKind) (point : Option Checkpoint) (log : List EntryKind)
    → IsGoodShape s → AreLawfulPast s from entries → IfSome point (λ c. (c.shape ≡ s) × IsCheckpoint c) → from ≤ base_of point
    → IsWholeOf s from entries point log
    → Stands (whole_front s log) (restarted_roll s (filled from entries) point)

-- a log and a point that stands for it: the log is a whole one of its entries past any position
abbrev pub CutIsOfLog : Type 0
CutIsOfLog =
    (s : Shape) (from : ℕ) (log : List EntryKind) (point : Option Checkpoint)
    → IsLawful s log → StandsIfAny s log point → from ≤ length log
    → IsWholeOf s from (drop from log) point log

-- what is cut further keeps its whole logs, and what is appended is appended to each
abbrev pub CutFurther : Type 0
CutFurther =
    (s : Shape) (from more : ℕ) (entries : List EntryKind) (point : Option Checkpoint) (log : List EntryKind)
    → more ≤ length entries → IsWholeOf s from entries point log
    → IsWholeOf s (from + more) (drop more entries) point log

abbrev pub GrowthOfWhole : Type 0
GrowthOfWhole =
    (s : Shape) (from : ℕ) (entries more : List EntryKind) (point : Option Checkpoint) (log : List EntryKind)
    → AreLawfulPast s from (entries ++ more) → IsWholeOf s from entries point log
    → IsWholeOf s from (entries ++ more) point (log ++ more)

-- What a restart finds on the device to which a log was copied past the base of a point: just the entries past it, and the
-- point. Each whole log of the entries that were there before is one of these, so the roller stands for it.
pub record RestartsFromCopy (s : Shape) (from : ℕ) (entries : List EntryKind) (c : Checkpoint) (points : List ℕ) : Type 0 where
  pub read : restart_in (record { shape = s; from = c.base })
      (map (spelling s.version) (drop (c.base - from) entries)) true points ≡ Ok (drop (c.base - from) entries, Some c)
  pub whole : (log : List EntryKind) → IsWholeOf s from entries (Some c) log
      → IsWholeOf s c.base (drop (c.base - from) entries) (Some c) log

abbrev pub CopyRestarts : Type 0
CopyRestarts =
    (s : Shape) (from : ℕ) (entries : List EntryKind) (c : Checkpoint) (points : List ℕ)
    → IsGoodShape s → AreLawfulPast s from entries → AllByRecursion (IsSoundEntry s.version) entries
    → (c.shape ≡ s) × IsCheckpoint c → from ≤ c.base → c.position ≤ from + length entries → held_point s points ≡ Some (Ok c)
    → RestartsFromCopy s from entries c points

-- the rows at the base are those that the point has: there the serial execution of a log that was cut begins
abbrev pub BaseIsSaved : Type 0
BaseIsSaved =
    (s : Shape) (from : ℕ) (entries : List EntryKind) (c : Checkpoint) (log : List EntryKind)
    → IsGoodShape s → IsCheckpoint c → IsWholeOf s from entries (Some c) log
    → live s log c.base ≡ pairs_of c.rows
