-- What a call answers, and what it leaves: the whole promise of the top call.
use Rattle.std.specs.Prelude.{◌≡◌, ◌⊎◌, ℕ, ◌≤◌, Bool, true, false, IsTrue, List, Option, Some, IfSome}
use Rattle.std.specs.Io.KnownBytes.{Appends, Keeps}
use Rattle.hy_base.specs.Faults.{Rose}
use Rattle.hy_base.specs.Spelling.{Text}
use Rattle.hy_formats.specs.Checkpoint.{Checkpoint}
use Rattle.hy_formats.specs.declared.damage.BadFrame.{BadFrame}
use Rattle.hy_cli.specs.CommandLine.{line_of, names_command}
use Rattle.hy_cli.specs.Matches.{Asks, refuses}
use Rattle.hy_cli.specs.declared.commands.Line.{Line}
use Rattle.hy_script.specs.declared.why.Why.{Why}
use Rattle.hy_run.specs.Compacting.{LeavesSpareBy}
use Rattle.hy_run.specs.Fates.{DeviceFails, Fate, Fits, LeavesLog, LeavesPoint, acked_by}
use Rattle.hy_run.specs.Jobs.{JobMeaning, job_of, meaning}
use Rattle.hy_run.specs.Output.{LeavesSource, WritesLine, WritesPartOf, by_kind, fault_text, kind_of}
use Rattle.hy_run.specs.Over.{HasFailed, Over}
use Rattle.hy_run.specs.declared.status.Status.{Status}
use Rattle.hy_run.specs.declared.status.Status.TheVariants as status
use Rattle.hy_run.specs.declared.status.Which.{Which}
use Rattle.hy_run.specs.declared.status.Which.TheVariants as which

-- the ends of a call at a moment: what the source has left and what the sink has taken, if they tell it, and
-- their counts of faults
pub record Ends : Type 0 where
  pub left : Option Text
  pub source_faults : ℕ
  pub taken : Option Text
  pub sink_faults : ℕ

abbrev pub ends_at : Option Text → ℕ → Option Text → ℕ → Ends
ends_at left source_faults taken sink_faults =
    record { left = left; source_faults = source_faults; taken = taken; sink_faults = sink_faults }

-- ---- what a job uses, and how it leaves that

-- the source failed, and the job reads it
abbrev pub SourceFails : Bool → ℕ → ℕ → Type 0
SourceFails reads faults faults_now = IsTrue reads × Rose faults faults_now

-- a device failed that the job uses
abbrev pub JobDeviceFails : JobMeaning → Over → Over → Over → Which → Type 0
JobDeviceFails m log points spare which.Log = DeviceFails m.options log points which.Log
JobDeviceFails m log points spare which.Points = DeviceFails m.options log points which.Points
JobDeviceFails m log points spare which.Spare = IsTrue m.copies × HasFailed spare

-- whichever
abbrev pub SomeDeviceFails : JobMeaning → Over → Over → Over → Type 0
SomeDeviceFails m log points spare = (which : Which) × JobDeviceFails m log points spare which

-- a source that is read is left as the answer says, and another one is left alone
abbrev pub LeavesSourceBy : Bool → Status → Option Text → Option Text → ℕ → ℕ → Type 0
LeavesSourceBy true answer before now faults faults_now = LeavesSource answer before now
LeavesSourceBy false answer before now faults faults_now = Keeps before now × (faults_now ≡ faults)

-- ---- the call

-- A job is done from these ends to those, with these devices.
pub record IsObeyed (m : JobMeaning) (before after : Ends) (log points spare : Over) (answer : Status)
    (acked : ℕ) : Type 0 where
  -- What became of the log, and the saved point from which a run began, if it began from one.
  pub fate : Fate
  pub start : Option Checkpoint
  -- What the answer says: the text that is asked for has gone out, or a part of it where the sink failed, or
  -- else why there is none.
  pub right :
      by_kind ((text : Text) × m.text before.left log points spare fate start text × Appends before.taken after.taken text)
      (m.script_refused before.left) (m.stream_refused before.left) (m.log_refused before.left log points spare answer)
      (SourceFails m.reads before.source_faults after.source_faults)
      ((text : Text)
      × m.text before.left log points spare fate start text
      × WritesPartOf before.taken after.taken text
      × Rose before.sink_faults after.sink_faults)
      (JobDeviceFails m log points spare) (kind_of answer)
  pub comes_first : Fits m.options m.copies answer points fate
  -- Which it must be, unless memory runs out or an end or a device fails.
  pub fine_always : m.can before.left log points spare → (answer ≡ status.Fine)
      ⊎ ((answer ≡ status.Memory) ⊎ (SourceFails m.reads before.source_faults after.source_faults
      ⊎ (SomeDeviceFails m log points spare ⊎ Rose before.sink_faults after.sink_faults)))
  pub script_always : IfSome before.left (λ bytes. (n : ℕ) (why : Why)
      → m.refuses_script bytes n why → (answer ≡ status.Script n why)
      ⊎ ((answer ≡ status.Memory) ⊎ SourceFails m.reads before.source_faults after.source_faults))
  pub stream_always : IfSome before.left (λ bytes. (bad : BadFrame)
      → m.refuses_stream bytes bad → (answer ≡ status.Frame bad.place bad.why)
      ⊎ ((answer ≡ status.Memory) ⊎ SourceFails m.reads before.source_faults after.source_faults))
  pub log_always : IsTrue log.tells → (why : Status) → m.refuses_log before.left log points spare why → (answer ≡ why)
      ⊎ ((answer ≡ status.Memory)
      ⊎ (SourceFails m.reads before.source_faults after.source_faults ⊎ SomeDeviceFails m log points spare))
  -- What is left.
  pub source : LeavesSourceBy m.reads answer before.left after.left before.source_faults after.source_faults
  pub may_leave : m.may_leave before.left log fate
  pub log_left : LeavesLog log fate start
  pub acked_is : acked ≡ acked_by fate
  pub point_left : LeavesPoint m.options points fate start
  pub unused : m.options.from_point ≡ false → m.options.save ≡ false → points.uncalled
  pub spare_left : m.leaves_spare log points spare
  pub comes_before_spare : LeavesSpareBy answer spare

-- the words are this line, or are taken for it
abbrev pub Means : List Text → Line → Type 0
Means words line = (line_of words ≡ Some line) ⊎ Asks words line

-- A call by these words, from these ends to those, with these devices.
pub record IsCall (words : List Text) (before after : Ends) (log points spare : Over) (answer : Status)
    (acked : ℕ) : Type 0 where
  -- A line is obeyed, and a first word that is no command isn't. Words that are refused touch nothing.
  pub usage : answer ≡ status.Usage → refuses words
  pub usage_always : refuses words → (answer ≡ status.Usage) ⊎ (answer ≡ status.Memory)
  pub unknown : names_command words ≡ false → (answer ≡ status.Usage) ⊎ (answer ≡ status.Memory)
  pub untouched : refuses words → Keeps before.left after.left
      × (after.source_faults ≡ before.source_faults)
      × log.uncalled
      × points.uncalled
      × spare.uncalled
      × (acked ≡ 0)
  -- Any other words ask for a line, and its command is done.
  pub asked : refuses words ⊎ ((line : Line) × Asks words line)
  pub obeyed : (line : Line) → Means words line → IsObeyed (meaning (job_of line)) before after log points spare answer acked
  -- An answer without a text writes its line, or a part of it where the sink failed.
  pub told : (text : Text) → fault_text answer ≡ Some text
      → WritesLine before.taken after.taken before.sink_faults after.sink_faults text
  -- No count of faults falls.
  pub source_count : before.source_faults ≤ after.source_faults
  pub sink_count : before.sink_faults ≤ after.sink_faults
  pub log_count : log.faults ≤ log.faults_now
  pub points_count : points.faults ≤ points.faults_now
  pub spare_count : spare.faults ≤ spare.faults_now
