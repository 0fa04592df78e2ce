-- What becomes of the log and of the saved point in a call, told once for every command and every answer.
use Rattle.std.specs.Prelude.{◌≡◌, ◌⊎◌, ℕ, ◌+◌, ◌≤◌, Bool, false, true, ◌||◌, IsTrue, List, [], ◌∷◌, ◌++◌, length, map, take}
use Rattle.std.specs.Prelude.{Option, Some, None, Ok, ⊤}
use Rattle.std.specs.List.{AllByRecursion, list_any}
use mathlib.Core.List.{IsPrefix}
use Rattle.hy_base.specs.declared.record.EntryKind.{EntryKind}
use Rattle.hy_base.specs.declared.workload.Event.{Event}
use Rattle.hy_base.specs.Script.{Workload}
use Rattle.hy_formats.specs.declared.header.Header.{Header}
use Rattle.hy_formats.specs.Checkpoint.{Checkpoint}
use Rattle.hy_formats.specs.EntryFormat.{spelling}
use Rattle.hy_formats.specs.LogDevice.{Holds, IsKept}
use Rattle.hy_formats.specs.LogFormat.{largest_batch}
use Rattle.hy_formats.specs.Opening.{outcome}
use Rattle.hy_formats.specs.Restarting.{IsStart}
use Rattle.hy_formats.specs.declared.damage.LogPlace.TheVariants.{Page, Entry}
use Rattle.hy_base.specs.declared.workload.Event.TheVariants.{Append, Pad}
use Rattle.hy_rules.specs.CutLogs.{AreLawfulPast, IsWholeOf, LeadPast, filled, swapped}
use Rattle.hy_rules.specs.Moves.{State, MayAdd, is_stop}
use Rattle.hy_rules.specs.Recovery.{recovered}
use Rattle.hy_rules.specs.Runs.{is_finished, opening_of, own_entry, run, setting_of}
use Rattle.hy_rules.specs.SavedPoints.{IsFit, IsLeftBySave}
use Rattle.hy_rules.specs.TableRuns.{KeepsTables, OpensSound}
use Rattle.hy_run.specs.Over.{HasFailed, IsOnlyRead, LeavesEver, LeavesNow, Over}
use Rattle.hy_run.specs.declared.status.RunOptions.{RunOptions}
use Rattle.hy_run.specs.declared.status.Status.{Status}
use Rattle.hy_run.specs.declared.status.Status.TheVariants as status
use Rattle.hy_run.specs.declared.status.Which.{Which}
use Rattle.hy_run.specs.declared.status.Which.TheVariants as which

-- a device with these bytes has a log with this header and these entries past its cut; or is unborn, and the log isn't cut
abbrev pub HasFound : List ℕ → Header → List EntryKind → Type 0
HasFound seen header found =
    (recovered seen ≡ Ok (record { header = Some header; entries = found }))
    ⊎ ((recovered seen ≡ Ok (record { header = None; entries = [] })) × (found ≡ []) × (header.from ≡ 0))

-- a device with these bytes has a log with this header, whose bodies are the spellings of these entries, and it
-- is recovered as these
pub record HoldsEntries (header : Header) (entries : List EntryKind) (image : List ℕ) : Type 0 where
  pub spelled : Holds header (map (spelling header.shape.version) entries) image
  pub recovers : recovered image ≡ Ok (record { header = Some header; entries = entries })

-- The clients of a script ran on a log: the position up to which it was cut, the entries that were found past it, the events
-- that came of it, the entries past the cut and the state to which they lead, and the batch at which the device failed, if it
-- did. In the state fillers stand for the entries up to the cut.
pub record Growth : Type 0 where
  pub script : Workload
  pub from : ℕ
  pub found : List EntryKind
  pub events : List Event
  pub entries : List EntryKind
  pub end : State
  pub batch : List EntryKind

-- the header of its log
abbrev pub header_of_growth : Growth → Header
header_of_growth g = record { shape = g.script.shape; from = g.from }

-- So is it on each whole log that the log found may be the rest of, and for which the point stands from which the run began:
-- said of that log, and of the entries in it up to the cut.
abbrev pub OnEach : Growth → Option Checkpoint → (List EntryKind → List EntryKind → Type 0) → Type 0
OnEach g start P = (log : List EntryKind) (whole : IsWholeOf g.script.shape g.from g.found start log) → P log whole.before

-- What became of the log: no call was made on its device, it wasn't opened, it was opened with these bodies and only read,
-- or clients ran on it.
pub data Fate : Type 0 where
  uncalled : Fate
  unopened : Fate
  opened : Header → List (List ℕ) → Fate
  grown : Growth → Fate

-- the last position that is acknowledged then
abbrev pub acked_by : Fate → ℕ
acked_by uncalled = 0
acked_by unopened = 0
acked_by (opened header bodies) = header.from + length bodies
acked_by (grown g) = g.from + length g.entries

-- Clients asked to append the entries of the batch, each by itself, or a pad to complete the last group with them, in a state
-- on the way. On each whole log, each is the entry of its client's begun program.
pub record WereAsked (g : Growth) (start : Option Checkpoint) : Type 0 where
  pub front : List Event
  pub begins : IsPrefix front g.events
  pub state : State
  pub moves : LeadPast g.script g.from g.found front state
  pub may : AllByRecursion (λ entry. (client : ℕ) × MayAdd (setting_of g.script) state (Append client) (entry ∷ [])
      × OnEach g start (λ log before. own_entry g.script (swapped before state) client ≡ entry ∷ []))
      g.batch
      ⊎ ((server : ℕ) × MayAdd (setting_of g.script) state (Pad server) g.batch)

-- Moves of the script's clients that are no stops lead from the log that was found to one that begins with it. On each whole
-- log they are a run of the script as far as it goes: each entry is what its client's program leaves on its snapshot, and the
-- tables, which were sound, stay so. The log and the batch are lawful together. There is a batch only where the device failed,
-- and it was asked on the way.
pub record IsGrowth (log : Over) (g : Growth) (start : Option Checkpoint) : Type 0 where
  pub was_found : IsTrue log.tells → HasFound log.before.seen (header_of_growth g) g.found
  pub begins : IsPrefix g.found g.entries
  pub leads_to : g.end.log ≡ filled g.from g.entries
  pub moves : LeadPast g.script g.from g.found g.events g.end
  pub calm : list_any is_stop g.events ≡ false
  pub runs : OnEach g start (λ log before. run g.script (opening_of g.script log) g.events ≡ Some (swapped before g.end))
  pub opens : OnEach g start (λ log before. OpensSound g.script log)
  pub tables : OnEach g start (λ log before. KeepsTables g.script log g.events (swapped before g.end))
  pub lawful : AreLawfulPast g.script.shape g.from (g.entries ++ g.batch)
  pub few : length g.batch ≤ largest_batch
  pub asked : WereAsked g start
  pub no_batch : (HasFailed log → ⊥) → g.batch ≡ []

-- the first so many of the entries of a growth, no fewer than were found
pub record HoldsFirst (g : Growth) (image : List ℕ) : Type 0 where
  pub count : ℕ
  pub no_fewer : length g.found ≤ count
  pub no_more : count ≤ length g.entries
  pub holds : HoldsEntries (header_of_growth g) (take count g.entries) image

-- all of them and the whole batch
abbrev pub HoldsAll : Growth → List ℕ → Type 0
HoldsAll g image = HoldsEntries (header_of_growth g) (g.entries ++ g.batch) image

-- What a crash leaves of the log, at any moment of the call and now.
abbrev pub LeavesLog : Over → Fate → Option Checkpoint → Type 0
LeavesLog log uncalled start = log.uncalled
LeavesLog log unopened start =
    LeavesEver log (IsKept log.before.seen)
    × (IsTrue log.tells → (HasFailed log → ⊥) → log.now.seen ≡ log.before.seen)
LeavesLog log (opened header bodies) start =
    (IsTrue log.tells → outcome (Some header.shape) log.before.seen ≡ Ok (record { header = Some header; bodies = bodies }))
    × LeavesEver log (IsKept log.before.seen) × LeavesNow log (Holds header bodies)
LeavesLog log (grown g) start =
    IsGrowth log g start
    × LeavesEver log (λ image. IsKept log.before.seen image ⊎ (HoldsFirst g image ⊎ HoldsAll g image))
    × LeavesNow log (λ image. HoldsEntries (header_of_growth g) g.entries image ⊎ HoldsAll g image)

-- ---- the saved point

-- The run has finished and its device has not failed, and the point of its whole log is saved, or was about to be. If the
-- device was fit for that log, a crash at any moment leaves it fit, with this point, the one that stood there, or none. That is
-- said of each whole log at its end.
pub record IsSaving (g : Growth) (start : Option Checkpoint) (points : Over) : Type 0 where
  pub finished : is_finished g.script g.end ≡ true
  pub no_batch : g.batch ≡ []
  pub point : Checkpoint
  pub whole : point.position ≡ g.from + length g.entries
  pub crash : OnEach g start (λ log before. IsFit g.script.shape (before ++ g.entries) points.before.seen
      → LeavesEver points (IsLeftBySave g.script.shape (before ++ g.entries) point points.before.seen))

-- How its device is left: no call is made on it before the log is open, and before a run has finished it is only read, where a
-- point was asked for.
abbrev pub LeavesPoint : RunOptions → Over → Fate → Option Checkpoint → Type 0
LeavesPoint options points uncalled start = points.uncalled
LeavesPoint options points unopened start = points.uncalled
LeavesPoint options points (opened header bodies) start = IsOnlyRead points × (options.from_point ≡ false → points.uncalled)
LeavesPoint options points (grown g) start =
    IsStart points.tells options.from_point (header_of_growth g) points.before.seen g.found start
    × (IsOnlyRead points ⊎ ((options.save ≡ true) × IsSaving g start points))

-- ---- what failed, and how far a call came

-- a device of these two failed, and a job with these options uses it
abbrev pub DeviceFails : RunOptions → Over → Over → Which → Type 0
DeviceFails options log points which.Log = HasFailed log
DeviceFails options log points which.Points = IsTrue (options.from_point || options.save) × HasFailed points
DeviceFails options log points which.Spare = ⊥

abbrev pub WasOpened : Fate → Type 0
WasOpened (opened header bodies) = ⊤
WasOpened _ = ⊥

-- Entries are read before the point is looked at, and those to be copied once more after it.
abbrev pub IsWhileRead : Bool → Over → Type 0
IsWhileRead true points = IsOnlyRead points
IsWhileRead false points = points.uncalled

-- The device of the log failed: while the log was opened, while its entries were read, or while clients ran,
-- before a point was saved.
abbrev pub LogFailsAt : Bool → Over → Fate → Type 0
LogFailsAt copies points uncalled = ⊥
LogFailsAt copies points unopened = ⊤
LogFailsAt copies points (opened header bodies) = IsWhileRead copies points
LogFailsAt copies points (grown g) = IsOnlyRead points

-- That of the point failed: while it was read, where a point was asked for, or while the point of a finished run was saved.
abbrev pub PointFailsAt : RunOptions → Fate → Type 0
PointFailsAt options (opened header bodies) = options.from_point ≡ true
PointFailsAt options (grown g) = (options.save ≡ true) × (is_finished g.script g.end ≡ true) × (g.batch ≡ [])
PointFailsAt options _ = ⊥

-- An answer without a text tells how far the call came, by its options and whether it makes a copy: the words, the source and
-- the script or the stream come before the log, its pages and its shape before its entries, these before the point, which is
-- looked at where it was asked for, the point before the tables, and these before the run. Memory may run out at any place.
abbrev pub Fits : RunOptions → Bool → Status → Over → Fate → Type 0
Fits options copies status.Usage points fate = fate ≡ uncalled
Fits options copies (status.Script line why) points fate = fate ≡ uncalled
Fits options copies (status.Frame place why) points fate = fate ≡ uncalled
Fits options copies status.Source points fate = fate ≡ uncalled
Fits options copies (status.Log (Page page) why) points fate = fate ≡ unopened
Fits options copies (status.Config field log asked) points fate = fate ≡ unopened
Fits options copies (status.Log (Entry pos) why) points fate = WasOpened fate × IsWhileRead copies points
Fits options copies (status.Point place why) points fate = WasOpened fate × (options.from_point ≡ true)
Fits options copies (status.Ahead point log) points fate = WasOpened fate × (options.from_point ≡ true)
Fits options copies (status.Behind base from) points fate = WasOpened fate
Fits options copies (status.NothingToCut from base) points fate = (fate ≡ unopened) ⊎ WasOpened fate
Fits options copies status.SpareInUse points fate = WasOpened fate
Fits options copies (status.Table key) points fate = WasOpened fate
Fits options copies (status.Device which.Spare) points fate = WasOpened fate
Fits options copies (status.Device which.Log) points fate = LogFailsAt copies points fate
Fits options copies (status.Device which.Points) points fate = PointFailsAt options fate
Fits options copies _ points fate = ⊤
