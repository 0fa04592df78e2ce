-- Runs on a log that was cut: which entries stood first doesn't matter for its moves, and its serial execution begins past the
-- base of a point, from the point's live rows.
use Rattle.std.specs.Prelude.{◌≡◌, ℕ, zero, suc, ◌+◌, ◌-◌, ◌%◌, ◌<◌, ◌≤◌, true, List, length, Some, nat_lt, nat_le}
use Rattle.std.specs.Prelude.{if◌then◌else◌}
use Rattle.hy_base.specs.declared.record.EntryKind.{EntryKind}
use Rattle.hy_base.specs.declared.record.Isolation.TheVariants.{Snapshot}
use Rattle.hy_base.specs.declared.report.Pair.{Pair}
use Rattle.hy_base.specs.declared.workload.Event.{Event}
use Rattle.hy_base.specs.declared.workload.Program.{Program}
use Rattle.hy_base.specs.Script.{Workload, IsScript}
use Rattle.hy_rules.specs.CutLogs.{swapped}
use Rattle.hy_rules.specs.Moves.{Setting, State, Moves}
use Rattle.hy_rules.specs.Runs.{opening_of, program_of, Ended, run}
use Rattle.hy_rules.specs.Serial.{SerialRun, ExecutesSerially, appender, is_committed, serial_map, serial_run, serial_step}
use Rattle.hy_rules.specs.Validation.{live}

-- a move is a move whichever entries stand first
abbrev pub MovesAreBlind : Type 0
MovesAreBlind =
    (w : Setting) (before : List EntryKind) (s s' : State) (event : Event) (added : List EntryKind)
    → length before ≤ length s.log → Moves w s event added s'
    → Moves w (swapped before s) event added (swapped before s')

-- The maps where the positions up to a base were executed before, and left these pairs, and the next n are executed as well.
-- What the map was before the base is told by `older`.
abbrev pub serial_maps_past : SerialRun → ℕ → (ℕ → List Pair) → List Pair → ℕ → ℕ → List Pair
serial_maps_past r base older pairs zero pos = if nat_lt pos base then older pos else pairs
serial_maps_past r base older pairs (suc n) pos =
    if nat_le pos (base + n) then serial_maps_past r base older pairs n pos
    else serial_step r (base + n) (serial_maps_past r base older pairs n)

-- the map after the positions up to one past the base
abbrev pub serial_map_past : SerialRun → ℕ → (ℕ → List Pair) → List Pair → ℕ → List Pair
serial_map_past r base older pairs pos = serial_maps_past r base older pairs (pos - base) pos

-- A program that is run past the base reads a map before it: it committed there, at Snapshot isolation, on this snapshot.
pub record ReadsOlder (r : SerialRun) (base snap : ℕ) : Type 0 where
  pub pos : ℕ
  pub late : base < pos
  pub own : r.found < pos
  pub committed : is_committed r pos ≡ true
  pub e : Ended
  pub appended : appender r pos ≡ Some e
  pub snapshot : e.snap ≡ snap
  pub before : snap < base
  pub program : Program
  pub is : program_of r.workload e.client e.number ≡ Some program
  pub isolation : program.isolation ≡ Snapshot

-- It is the map of the whole log, where the pairs are those that are live at the base, and the older maps those of the whole
-- log as far as a program past the base reads them. No serializable program reads one, nor does any program of a run that found
-- the log as far as the base (`SerialFromFound`): there the pairs are enough.
abbrev pub SerialFromBase : Type 0
SerialFromBase =
    (r : SerialRun) (base pos : ℕ) (older : ℕ → List Pair) → ExecutesSerially r → base % r.workload.shape.group ≡ 0
    → base ≤ length r.log → base ≤ pos → ((snap : ℕ) → ReadsOlder r base snap → older snap ≡ serial_map r snap)
    → serial_map_past r base older (live r.workload.shape r.log base) pos ≡ serial_map r pos

-- In a run that found the log as far as the base the pairs that are live there are enough: whatever the older maps are held to
-- be, the map is that of the whole log.
abbrev pub SerialFromFound : Type 0
SerialFromFound =
    (script : Workload) (found : List EntryKind) (events : List Event) (end : State) (base pos : ℕ) (older : ℕ → List Pair)
    → IsScript script → run script (opening_of script found) events ≡ Some end
    → ExecutesSerially (serial_run script found events end) → base % script.shape.group ≡ 0 → base ≤ length found → base ≤ pos
    → serial_map_past (serial_run script found events end) base older (live script.shape end.log base) pos
    ≡ serial_map (serial_run script found events end) pos
