-- What the parts of a copy hand to one another.
use Rattle.std.specs.Prelude.{◌≡◌, ◌⊎◌, ℕ, ◌+◌, ◌<◌, ◌≤◌, false, true, Bool, IsTrue, List, length, map, Some, Result, IfOk}
use Rattle.std.specs.Prelude.{IfErr, Ok, ⊤}
use Rattle.std.specs.List.{AllByRecursion}
use Rattle.hy_base.specs.declared.layout.Shape.{Shape}
use Rattle.hy_base.specs.declared.record.EntryKind.{EntryKind}
use Rattle.hy_base.specs.Entry.{IsSoundEntry}
use Rattle.hy_base.specs.Faults.{Rose}
use Rattle.hy_base.specs.Spelling.{Text}
use Rattle.hy_formats.specs.declared.header.Header.{Header}
use Rattle.hy_formats.specs.declared.refusal.OpenError.{OpenError}
use Rattle.hy_formats.specs.declared.refusal.OpenError.TheVariants as opening
use Rattle.hy_formats.specs.declared.damage.LogPlace.TheVariants.{Page}
use Rattle.hy_formats.specs.Checkpoint.{Checkpoint, IsCheckpoint}
use Rattle.hy_formats.specs.EntryFormat.{spelling}
use Rattle.hy_formats.specs.LogDevice.{Holds}
use Rattle.hy_formats.specs.LogFormat.{is_unborn}
use Rattle.hy_formats.specs.Restarting.{point_for}
use Rattle.hy_formats.specs.Texts.{compact_text}
use Rattle.hy_rules.specs.CutLogs.{AreLawfulPast}
use Rattle.hy_rules.specs.Recovery.{decoded_log}
use Rattle.hy_entries.specs.LogEntries.{AreFoundIn}
use Rattle.hy_compact.specs.declared.error.CopyError.{CopyError}
use Rattle.hy_compact.specs.declared.error.CopyError.TheVariants as copying
use Rattle.hy_compact.specs.Compaction.{IsPartlyCopied}
use Rattle.hy_run.specs.Compacting.{LeavesSpareBy, copy_refused, entries_past_base, header_past, past_point_refused}
use Rattle.hy_run.specs.Fates.{Fits, opened}
use Rattle.hy_run.specs.Jobs.{only_point}
use Rattle.hy_run.specs.Output.{IsFault}
use Rattle.hy_run.specs.Over.{HasFailed, IsOnlyRead, LeavesEver, LeavesNow, Over}
use Rattle.hy_run.specs.declared.status.Status.{Status}
use Rattle.hy_run.specs.declared.status.Status.TheVariants as status
use Rattle.hy_run.specs.declared.status.Which.{Which}
use Rattle.hy_run.specs.declared.status.Which.TheVariants as which

-- ---- the saved point

-- The saved point of a log of so many positions, whose base is past the position up to which it was cut.
pub record IsFurther (tells : Bool) (shape : Shape) (from len : ℕ) (bytes : List ℕ) (point : Checkpoint) : Type 0 where
  pub saved : IsTrue tells → point_for shape len bytes ≡ Ok (Some point)
  pub further : from < point.base
  pub shape_is : point.shape ≡ shape
  pub valid : IsCheckpoint point
  pub within : point.position ≤ len

-- why there is none
abbrev pub IsBaseFault : Bool → Shape → ℕ → ℕ → List ℕ → ℕ → ℕ → Status → Type 0
IsBaseFault tells shape from len bytes faults faults_now status =
    IsFault (λ line why. ⊥)
    (λ s. IsTrue tells → (spare : List ℕ) → past_point_refused from (point_for shape len bytes) spare ≡ Some s) ⊥
    (λ device. (device ≡ which.Points) × Rose faults faults_now) status

-- how far a call came that has none
abbrev pub FitsBase : Status → Type 0
FitsBase status.Memory = ⊤
FitsBase (status.Device which.Points) = ⊤
FitsBase (status.Point place why) = ⊤
FitsBase (status.Ahead point log) = ⊤
FitsBase (status.NothingToCut from base) = ⊤
FitsBase _ = ⊥

-- ---- what is to be copied

-- the entries of the log, and the point
pub record IsPlan (tells : Bool) (header : Header) (bodies : List (List ℕ)) (bytes : List ℕ) (entries : List EntryKind)
    (point : Checkpoint) : Type 0 where
  pub found : AreFoundIn tells header bodies entries
  pub point_is : IsFurther tells header.shape header.from (header.from + length entries) bytes point

-- the entries past the point's base, as they were read once more
pub record IsRest (tells : Bool) (header : Header) (entries : List EntryKind) (point : Checkpoint)
    (rest : List EntryKind) : Type 0 where
  pub same : IsTrue tells → rest ≡ entries_past_base header entries point
  pub count : length rest ≡ length (entries_past_base header entries point)
  pub sound : AllByRecursion (IsSoundEntry header.shape.version) rest
  pub lawful : AreLawfulPast header.shape point.base rest

-- why there is none: of the counts of faults of the log's device and of the points device
abbrev pub IsPlanFault : Bool → Header → List (List ℕ) → List ℕ → ℕ → ℕ → ℕ → ℕ → Status → Type 0
IsPlanFault tells header bodies bytes log_faults log_faults_now point_faults point_faults_now status =
    IsFault (λ line why. ⊥)
    (λ s. IsTrue tells → (spare : List ℕ) → copy_refused (decoded_log (Some header) bodies) bytes spare ≡ Some s) ⊥
    (λ device. ((device ≡ which.Log) × Rose log_faults log_faults_now)
    ⊎ ((device ≡ which.Points) × Rose point_faults point_faults_now))
    status

-- ---- the spare device

-- it isn't unborn, it failed, or memory ran out
abbrev pub IsCopyFault : Bool → List ℕ → ℕ → ℕ → Status → Type 0
IsCopyFault tells seen faults faults_now status.Memory = ⊤
IsCopyFault tells seen faults faults_now status.SpareInUse = IsTrue tells → is_unborn seen ≡ false
IsCopyFault tells seen faults faults_now (status.Device which.Spare) = Rose faults faults_now
IsCopyFault tells seen faults faults_now _ = ⊥

abbrev pub copy_fault : CopyError → Status
copy_fault copying.Memory = status.Memory
copy_fault copying.Device = status.Device which.Spare
copy_fault copying.InUse = status.SpareInUse

-- why a log is not opened, of which nothing is known
abbrev pub unopened_fault : OpenError → Status
unopened_fault opening.Memory = status.Memory
unopened_fault opening.Device = status.Device which.Log
unopened_fault (opening.BadPage bad) = status.Log (Page bad.page) bad.why
unopened_fault (opening.Config field log asked) = status.Memory
unopened_fault opening.Unborn = status.NothingToCut 0 0

-- ---- both

-- a log with this header and these bodies is copied, as it is planned
pub record IsMade {V : Type 0} (items : V → Text) (tells : Bool) (header : Header) (bodies : List (List ℕ))
    (points spare : Over) (v : V) : Type 0 where
  pub entries : List EntryKind
  pub point : Checkpoint
  pub plan : IsPlan tells header bodies points.before.seen entries point
  pub was_unborn : IsTrue spare.tells → is_unborn spare.before.seen ≡ true
  pub text_is : items v ≡ compact_text point.base (length (entries_past_base header entries point))
  pub held : LeavesNow spare
      (Holds (header_past header point) (map (spelling header.shape.version) (entries_past_base header entries point)))

-- calls were made on the spare device
pub record IsTried (tells : Bool) (header : Header) (bodies : List (List ℕ)) (points spare : Over) : Type 0 where
  pub entries : List EntryKind
  pub point : Checkpoint
  pub plan : IsPlan tells header bodies points.before.seen entries point
  pub in_use : IsTrue spare.tells → is_unborn spare.before.seen ≡ false → IsOnlyRead spare
  pub unborn : is_unborn spare.before.seen ≡ true
      → LeavesEver spare (IsPartlyCopied (header_past header point) (entries_past_base header entries point))

-- a device failed
abbrev pub OneFails : ℕ → ℕ → Over → Over → Which → Type 0
OneFails log_faults log_faults_now points spare which.Log = Rose log_faults log_faults_now
OneFails log_faults log_faults_now points spare which.Points = HasFailed points
OneFails log_faults log_faults_now points spare which.Spare = HasFailed spare

-- What a copy of a log with this header and these bodies comes to.
pub record IsCopyOf {V : Type 0} (items : V → Text) (tells : Bool) (header : Header) (bodies : List (List ℕ))
    (log_faults log_faults_now : ℕ) (points spare : Over) (text : Result V Status) : Type 0 where
  pub made : IfOk text (IsMade items tells header bodies points spare)
  pub cause : IfErr text (IsFault (λ line why. ⊥)
      (λ s. IsTrue tells → copy_refused (decoded_log (Some header) bodies) points.before.seen spare.before.seen ≡ Some s) ⊥
      (OneFails log_faults log_faults_now points spare))
  pub comes_first : IfErr text (λ s. Fits only_point true s points (opened header bodies))
  pub spare_left : spare.uncalled ⊎ IsTried tells header bodies points spare
  pub comes_before_spare : IfErr text (λ s. LeavesSpareBy s spare)
