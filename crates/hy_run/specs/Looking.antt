-- What the parts of a look at the log hand to one another.
use Rattle.std.specs.Prelude.{◌≡◌, ◌⊎◌, ℕ, ◌≤◌, Bool, List, Option, Some, None, Result, IfOk, IfErr, ⊤}
use Rattle.hy_base.specs.Faults.{Rose}
use Rattle.hy_base.specs.Spelling.{Text}
use Rattle.hy_formats.specs.declared.damage.LogFault.{LogFault}
use Rattle.hy_rules.specs.Recovery.{Recovered, recovered}
use Rattle.hy_disk.specs.Content.{Content, Image}
use Rattle.hy_disk.specs.Moments.{LeavesOnly}
use Rattle.hy_entries.specs.declared.reading.EntriesError.{EntriesError}
use Rattle.hy_entries.specs.declared.reading.EntriesError.TheVariants as entries_error
use Rattle.hy_formats.specs.declared.refusal.OpenError.{OpenError}
use Rattle.hy_formats.specs.declared.refusal.OpenError.TheVariants as opening
use Rattle.hy_log.specs.View.{LogView}
use Rattle.hy_formats.specs.declared.damage.LogPlace.TheVariants.{Page, Entry}
use Rattle.hy_run.specs.Fates.{Fate, LeavesLog, WasOpened, acked_by, unopened}
use Rattle.hy_run.specs.Inspection.{IsReport, IsUntold}
use Rattle.hy_run.specs.Jobs.{IsOpenedIfBorn, LeavesUnborn}
use Rattle.hy_run.specs.Output.{IsFault}
use Rattle.hy_run.specs.Over.{Over}
use Rattle.hy_cli.specs.declared.commands.Report.{Report}
use Rattle.hy_run.specs.declared.status.Status.{Status}
use Rattle.hy_run.specs.declared.status.Status.TheVariants as status
use Rattle.hy_run.specs.declared.status.Which.TheVariants as which

-- Why there is no text: the log is refused at its first place, or was cut; the device failed, or memory ran out.
abbrev pub IsLogFault : Report → Bool → Result Recovered LogFault → ℕ → ℕ → Status → Type 0
IsLogFault report tells expected faults faults_now status =
    IsFault (λ line why. ⊥) (IsUntold report tells expected) ⊥ (λ device. (device ≡ which.Log) × Rose faults faults_now) status

abbrev pub entries_fault : EntriesError → Status
entries_fault entries_error.Memory = status.Memory
entries_fault entries_error.Device = status.Device which.Log
entries_fault (entries_error.BadEntry pos bad) = status.Log (Entry pos) bad.why

-- why a log was not opened, where no shape was asked for
abbrev pub open_fault : OpenError → Option Status
open_fault opening.Memory = Some status.Memory
open_fault opening.Device = Some (status.Device which.Log)
open_fault (opening.BadPage bad) = Some (status.Log (Page bad.page) bad.why)
open_fault (opening.Config field log asked) = None
open_fault opening.Unborn = None

-- An opened log that is only looked at.
pub record IsOnlySeen {D : Type 0} (content : D → Content) (moment : D → ℕ) (left_since : D → ℕ → List ℕ → Type 0)
    (faults_of : D → ℕ) (old new : LogView D) : Type 0 where
  pub same : content new.disk ≡ content old.disk
  pub quiet : LeavesOnly moment left_since old.disk new.disk (Image (content old.disk))
  pub later : faults_of old.disk ≤ faults_of new.disk
  pub shape : new.shape ≡ old.shape
  pub from : new.from ≡ old.from
  pub stopped : new.stopped ≡ old.stopped
  pub bodies : new.bodies ≡ old.bodies

-- how far a look came that tells nothing
abbrev pub FitsLook : Status → Fate → Type 0
FitsLook (status.Log (Page page) why) fate = fate ≡ unopened
FitsLook (status.Log (Entry pos) why) fate = WasOpened fate
FitsLook (status.Behind base from) fate = WasOpened fate
FitsLook (status.Device which.Log) fate = (fate ≡ unopened) ⊎ WasOpened fate
FitsLook status.Memory fate = ⊤
FitsLook _ fate = ⊥

-- what a look comes to
pub record IsInspection {V : Type 0} (items : V → Text) (report : Report) (log : Over) (text : Result V Status)
    (acked : ℕ) : Type 0 where
  pub fate : Fate
  pub is : IfOk text (λ v. IsReport report log.tells (recovered log.before.seen) (items v) × IsOpenedIfBorn log fate)
  pub cause : IfErr text (IsLogFault report log.tells (recovered log.before.seen) log.faults log.faults_now)
  pub comes_first : IfErr text (λ s. FitsLook s fate)
  pub may_leave : LeavesUnborn log fate
  pub log_left : LeavesLog log fate None
  pub acked_is : acked ≡ acked_by fate
  pub later : log.faults ≤ log.faults_now
