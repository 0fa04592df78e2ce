-- What `compact` copies to the spare device, and why it copies nothing.
use Rattle.std.specs.Prelude.{◌≡◌, ◌⊎◌, ℕ, ◌+◌, ◌-◌, ◌<◌, true, false, IsTrue, nat_lt, List, length, map, take, drop, Option}
use Rattle.std.specs.Prelude.{Some, None, Result, Ok, Err, if◌then◌else◌, ⊤}
use Rattle.hy_base.specs.declared.record.EntryKind.{EntryKind}
use Rattle.hy_base.specs.Spelling.{Text}
use Rattle.hy_formats.specs.declared.damage.LogFault.{LogFault}
use Rattle.hy_formats.specs.declared.header.Header.{Header}
use Rattle.hy_formats.specs.declared.refusal.RestartError.{RestartError}
use Rattle.hy_formats.specs.Checkpoint.{Checkpoint}
use Rattle.hy_formats.specs.EntryFormat.{spelling}
use Rattle.hy_formats.specs.LogDevice.{HoldsNothing}
use Rattle.hy_formats.specs.LogFormat.{is_unborn}
use Rattle.hy_formats.specs.Restarting.{base_of, point_for, restart_in}
use Rattle.hy_formats.specs.Texts.{compact_text}
use Rattle.hy_rules.specs.CutLogs.{IsWholeOf}
use Rattle.hy_rules.specs.Recovery.{Recovered, recovered}
use Rattle.hy_run.specs.Fates.{HoldsEntries}
use Rattle.hy_run.specs.Over.{IsOnlyRead, LeavesEver, LeavesNow, Over}
use Rattle.hy_run.specs.Running.{restart_fault}
use Rattle.hy_run.specs.declared.status.Status.{Status}
use Rattle.hy_run.specs.declared.status.Status.TheVariants as status
use Rattle.hy_run.specs.declared.status.Which.TheVariants as which

-- ---- the copy

-- What is to be copied: the log has this header and these entries past its cut, and the saved point's base is further.
pub record IsPlanned (log points : Over) : Type 0 where
  pub header : Header
  pub entries : List EntryKind
  pub point : Checkpoint
  pub found : IsTrue log.tells → recovered log.before.seen ≡ Ok (record { header = Some header; entries = entries })
  pub saved : IsTrue points.tells → point_for header.shape (header.from + length entries) points.before.seen ≡ Ok (Some point)
  pub further : header.from < point.base

-- the header of the copy, and the entries past the point's base
abbrev pub header_past : Header → Checkpoint → Header
header_past header point = record { shape = header.shape; from = point.base }

abbrev pub entries_past_base : Header → List EntryKind → Checkpoint → List EntryKind
entries_past_base header entries point = drop (point.base - header.from) entries

-- The spare device was unborn. It, and whatever a crash leaves of it, holds exactly the log past the point's base. A restart on
-- it with the point begins there, with these entries; and each whole log of the one that was copied is one of the copy.
pub record IsCopied (log points spare : Over) (text : Text) : Type 0 where
  pub plan : IsPlanned log points
  pub unborn : IsTrue spare.tells → is_unborn spare.before.seen ≡ true
  pub text_is : text ≡ compact_text plan.point.base (length (entries_past_base plan.header plan.entries plan.point))
  pub held : LeavesNow spare
      (HoldsEntries (header_past plan.header plan.point) (entries_past_base plan.header plan.entries plan.point))
  pub restarts : IsTrue points.tells → let rest = entries_past_base plan.header plan.entries plan.point in
      restart_in (header_past plan.header plan.point) (map (spelling plan.header.shape.version) rest) true points.before.seen
      ≡ Ok (rest, Some plan.point)
  pub whole : (whole : List EntryKind) → IsWholeOf plan.header.shape plan.header.from plan.entries (Some plan.point) whole
      → IsWholeOf plan.header.shape plan.point.base (entries_past_base plan.header plan.entries plan.point)
      (Some plan.point) whole

-- the first so many entries of the copy
abbrev pub HoldsSome : Header → List EntryKind → List ℕ → Type 0
HoldsSome header entries image = (n : ℕ) × HoldsEntries header (take n entries) image

-- A call is made on the spare device only once it is known what is to be copied. A device in use is only read. Of an unborn one
-- a crash at any moment leaves an unborn device, one without records, or a beginning of the copy.
pub record IsSpareCalled (log points spare : Over) : Type 0 where
  pub plan : IsPlanned log points
  pub in_use : IsTrue spare.tells → is_unborn spare.before.seen ≡ false → IsOnlyRead spare
  pub unborn : is_unborn spare.before.seen ≡ true → LeavesEver spare (λ image. HoldsNothing image
      ⊎ HoldsSome (header_past plan.header plan.point) (entries_past_base plan.header plan.entries plan.point) image)

abbrev pub LeavesSpare : Over → Over → Over → Type 0
LeavesSpare log points spare = spare.uncalled ⊎ IsSpareCalled log points spare

-- ---- why there is none

-- the saved point is refused, its base isn't past the position up to which the log was cut, or the spare device isn't unborn
abbrev pub past_point_refused : ℕ → Result (Option Checkpoint) RestartError → List ℕ → Option Status
past_point_refused from (Err e) spare = Some (restart_fault e)
past_point_refused from (Ok point) spare =
    if nat_lt from (base_of point) then (if is_unborn spare then None else Some status.SpareInUse)
    else Some (status.NothingToCut from (base_of point))

-- an unborn log has nothing before a base
abbrev pub log_copy_refused : Option Header → List EntryKind → List ℕ → List ℕ → Option Status
log_copy_refused None entries points spare = Some (status.NothingToCut 0 0)
log_copy_refused (Some h) entries points spare =
    past_point_refused h.from (point_for h.shape (h.from + length entries) points) spare

-- Why a log isn't copied, if it isn't: its first page or entry that is refused comes before the saved point, and that
-- before the spare device.
abbrev pub copy_refused : Result Recovered LogFault → List ℕ → List ℕ → Option Status
copy_refused (Err fault) points spare = Some (status.Log fault.place fault.why)
copy_refused (Ok r) points spare = log_copy_refused r.header r.entries points spare

-- so on devices that had these bytes
abbrev pub compact_refused : Over → Over → Over → Option Status
compact_refused log points spare = copy_refused (recovered log.before.seen) points.before.seen spare.before.seen

-- such an answer comes before any call on the spare device
abbrev pub LeavesSpareBy : Status → Over → Type 0
LeavesSpareBy status.Fine spare = ⊤
LeavesSpareBy status.Sink spare = ⊤
LeavesSpareBy status.Memory spare = ⊤
LeavesSpareBy status.SpareInUse spare = ⊤
LeavesSpareBy (status.Device which.Spare) spare = ⊤
LeavesSpareBy _ spare = spare.uncalled
