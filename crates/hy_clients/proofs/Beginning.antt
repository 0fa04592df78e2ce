-- What a crash since the log was given might have left, before anything was appended.
use Rattle.std.proofs.Common.{◌≡◌, ℕ, Bool, IsTrue, List, [], length, map, ◌∙◌, subst, arith}
use Rattle.hy_base.specs.declared.layout.Shape.{Shape}
use Rattle.hy_base.specs.declared.record.EntryKind.{EntryKind}
use Rattle.hy_base.specs.declared.workload.Home.{Home}
use Rattle.hy_base.specs.Script.{Workload}
use Rattle.hy_formats.specs.EntryFormat.{spelling}
use Rattle.hy_formats.specs.LogDevice.{Holds}
use Rattle.hy_formats.specs.declared.header.Header.{Header}
use Rattle.hy_log.specs.View.{LogView, header_of}
use Rattle.hy_roll_laws.specs.Rolling.{Roll}
use Rattle.hy_disk.specs.Moments.{LeavesSince}
use Rattle.hy_hub.specs.Past.{HasStood}
use Rattle.hy_hub.specs.Initial.{IsInitial}
use Rattle.hy_hub.proofs.Pasts.{since_weaker, stood_now}
use Rattle.hy_clients.specs.Finished.{header_for}

header_is : {D : Type 0} {tells : Bool} {log : LogView D} {entries : List EntryKind} {start : Roll} {servers : ℕ} {homes : List Home} {keeps : ℕ} (script : Workload) → IsInitial tells log entries start servers homes keeps → start.shape ≡ script.shape → header_of log ≡ header_for script log.from
header_is {D} {tells} {log} script initial same = λ i. record { shape = (initial.shape ∙ same) i; from = log.from }

module _ {D : Type 0} {moment : D → ℕ} {left_since : D → ℕ → List ℕ → Type 0} {at : ℕ} {left : ℕ → List ℕ → Type 0} {tells : Bool} {log : LogView D} {entries : List EntryKind} {start : Roll} {servers : ℕ} {homes : List Home} {keeps : ℕ} (script : Workload) (initial : IsInitial tells log entries start servers homes keeps) (same : start.shape ≡ script.shape) where
  -- of the log as it is given
  pub first_past : (IsTrue tells → LeavesSince moment left_since at left log.disk (Holds (header_of log) log.bodies)) → IsTrue tells → LeavesSince moment left_since at left log.disk (HasStood (header_for script log.from) (length entries) entries [])
  first_past since t = since_weaker
      (λ image is. stood_now (header_for script log.from) (length entries) entries (omega arith) image
      (subst (λ (s : Shape). Holds (header_for script log.from) (map (spelling s.version) entries) image) same
      (subst (λ (b : List (List ℕ)). Holds (header_for script log.from) b image) (initial.bodies t) (subst (λ (h : Header). Holds h log.bodies image) (header_is script initial same) is))))
      (since t)

  -- of the log that comes back
  pub back_past : {least : ℕ} {now : D} → least ≡ length log.bodies → LeavesSince moment left_since at left now (HasStood (header_of log) least entries []) → LeavesSince moment left_since at left now (HasStood (header_for script log.from) (length entries) entries [])
  back_past {least} {now} few was =
      subst (λ (n : ℕ). LeavesSince moment left_since at left now (HasStood (header_for script log.from) n entries [])) (few ∙ initial.count) (subst (λ (h : Header). LeavesSince moment left_since at left now (HasStood h least entries [])) (header_is script initial same) was)
