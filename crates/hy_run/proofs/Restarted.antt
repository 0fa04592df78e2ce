-- What a restart leaves for the run that begins with it.
use Rattle.std.proofs.Common.{◌≡◌, ℕ, ◌≤◌, Bool, true, false, IsTrue, List, ◌++◌, refl, sym, ◌∙◌, ap, subst, inl, inr, ⊎_elim, arith}
use Rattle.std.specs.Prelude.{Some, Option, Result, Ok, Err, IfErr}
use Rattle.std.proofs.lemmas.Result.{IfOk-weaker, IfErr-weaker}
use Rattle.std.proofs.lemmas.Bool.{or_left}
use Rattle.hy_formats.specs.declared.header.Header.{Header}
use Rattle.hy_base.specs.declared.record.EntryKind.{EntryKind}
use Rattle.hy_base.specs.Script.{Workload}
use Rattle.hy_base.specs.Spelling.{Text}
use Rattle.hy_formats.specs.Checkpoint.{Checkpoint}
use Rattle.hy_formats.specs.LogDevice.{Holds}
use Rattle.hy_formats.specs.Restarting.{IsStart, restart_in}
use Rattle.hy_roll_laws.specs.Rolling.{Roll}
use Rattle.hy_rules.specs.SavedPoints.{IsFit, IsLeftBySave}
use Rattle.hy_disk.specs.Content.{Content, Image, settled}
use Rattle.hy_disk.specs.Moments.{LeavesOnly, OnlyReads}
use Rattle.hy_disk.proofs.Images.{image_settled}
use Rattle.hy_disk.proofs.Moments.{joined, quiet_then, weaker}
use Rattle.hy_formats.specs.declared.refusal.RestartError.{RestartError}
use Rattle.hy_formats.specs.declared.refusal.RestartError.TheVariants as restarting
use Rattle.hy_entries.specs.LogEntries.{AreFoundIn}
use Rattle.hy_restart.specs.Restart.{IsOfLog, IsOfPoint, RefusesRestart, entries_for}
use Rattle.hy_restart.proofs.Saves.{left_same}
use Rattle.hy_run.specs.Fates.{DeviceFails, Fits, Growth, opened}
use Rattle.hy_run.specs.Over.{HasFailed, Over, over}
use Rattle.hy_run.specs.Running.{restart_fault, restart_refused}
use Rattle.hy_run.specs.RunningParts.{FitsPart, IsBodiesFault, IsOpened, IsRanFault, IsRead, IsRunPart, IsSavingPart}
use Rattle.hy_run.specs.declared.status.RunOptions.{RunOptions}
use Rattle.hy_run.specs.declared.status.Status.{Status}
use Rattle.hy_run.specs.declared.status.Status.TheVariants as status
use Rattle.hy_run.specs.declared.status.Which.{Which}
use Rattle.hy_run.specs.declared.status.Which.TheVariants as which
use Rattle.hy_run.proofs.ByKind.{fault_by}

pub found_same : (tells : Bool) (h k : Header) (old new : List (List ℕ)) (entries : List EntryKind) → h ≡ k → new ≡ old → AreFoundIn tells h old entries → AreFoundIn tells k new entries
found_same tells h k old new entries header bodies is = subst (λ (x : Header). AreFoundIn tells x new entries) header (subst (λ bs. AreFoundIn tells h bs entries) (sym bodies) is)

pub opened_same : (tells : Bool) (options : RunOptions) (script : Workload) (h k : Header) (old new : Content) (entries : List EntryKind) (r : Roll) → h ≡ k → new ≡ old → IsOpened tells options script h old entries r → IsOpened tells options script k new entries r
opened_same tells options script h k old new entries r header same is = subst (λ (x : Header). IsOpened tells options script x new entries r) header (subst (λ (c : Content). IsOpened tells options script h c entries r) (sym same) is)

-- ---- a run after some reads of both devices

module _ {D : Type 0} (tells : Bool) (content : D → Content) (moment : D → ℕ) (left_since : D → ℕ → List ℕ → Type 0) (faults_of : D → ℕ) (old mid new old_points mid_points points : D) (options : RunOptions) (later : faults_of old ≤ faults_of mid) (reads : OnlyReads content moment left_since faults_of old_points mid_points) where
  abbrev log : Over
  log = over tells content moment left_since faults_of old new

  abbrev log_then : Over
  log_then = over tells content moment left_since faults_of mid new

  abbrev point : Over
  point = over tells content moment left_since faults_of old_points points

  abbrev point_then : Over
  point_then = over tells content moment left_since faults_of mid_points points

  abbrev point_leaves : (List ℕ → Type 0) → Type 0
  point_leaves = LeavesOnly moment left_since old_points points

  abbrev point_leaves_then : (List ℕ → Type 0) → Type 0
  point_leaves_then = LeavesOnly moment left_since mid_points points

  fails_then : (one : Which) → DeviceFails options log_then point_then one → DeviceFails options log point one
  fails_then which.Log failed = let r = failed in omega (arith, later, r)
  fails_then which.Points failed = (failed.0, let r = failed.1 in let l = reads.later in omega (arith, l, r))
  fails_then which.Spare never = never

  fault_then : (script : Workload) (h : Header) (bodies : List (List ℕ)) (s : Status) → IsRanFault options script h bodies log_then point_then s → IsRanFault options script h bodies log point s
  fault_then script h bodies s is =
      fault_by (λ n cause. ⊥) (λ x. IsTrue tells → IsBodiesFault options script h bodies (content mid_points).seen x) ⊥ (DeviceFails options log_then point_then)
      (λ n cause. ⊥) (λ x. IsTrue tells → IsBodiesFault options script h bodies (content old_points).seen x) ⊥ (DeviceFails options log point)
      (λ n cause never. never) (λ x kind bad. subst (λ (k : Content). IsTrue tells → IsBodiesFault options script h bodies k.seen x) reads.same bad) (λ never. never) fails_then s is

  read_then : IsRead point_then point_leaves_then → IsRead point point_leaves
  read_then is = record { same = is.same ∙ reads.same; quiet = quiet_then moment left_since content old_points mid_points points reads.quiet reads.same is.quiet }

  first_then : (g : Growth) (s : Status) → FitsPart options s point_then point_leaves_then g → FitsPart options s point point_leaves g
  first_then g status.Memory is = tt
  first_then g (status.Device which.Log) is = read_then is
  first_then g (status.Device which.Points) is = is
  first_then g status.Fine is = is
  first_then g status.Usage is = is
  first_then g (status.Script n why) is = is
  first_then g status.Source is = is
  first_then g status.Sink is = is
  first_then g (status.Log place why) is = is
  first_then g (status.Config field held asked) is = is
  first_then g (status.Point place why) is = is
  first_then g (status.Ahead at held) is = is
  first_then g (status.Device which.Spare) is = is
  first_then g (status.Behind base from) is = is
  first_then g (status.NothingToCut from base) is = is
  first_then g status.SpareInUse is = is
  first_then g (status.Table key) is = is
  first_then g (status.Frame place why) is = is

  saving_then : (g : Growth) (start : Option Checkpoint) → IsSavingPart g start point_then point_leaves_then → IsSavingPart g start point point_leaves
  saving_then g start is = record {
    finished = is.finished;
    no_batch = is.no_batch;
    point = is.point;
    whole = is.whole;
    crash = λ whole w knows rest fit.
        let shape = g.script.shape in
        let entries = w.before ++ g.entries in
        let seen = (content old_points).seen in
        let there : content mid_points ≡ settled (content mid_points).seen = reads.same ∙ (rest ∙ ap (λ (k : Content). settled k.seen) (sym reads.same)) in
        let same : (content mid_points).seen ≡ seen = ap (λ (k : Content). k.seen) reads.same in
        let after : LeavesOnly moment left_since mid_points points (IsLeftBySave shape entries is.point seen) =
        subst (λ x. LeavesOnly moment left_since mid_points points (IsLeftBySave shape entries is.point x)) same (is.crash whole w knows there (subst (λ x. IsFit shape entries x) (sym same) fit)) in
        let before : LeavesOnly moment left_since old_points mid_points (IsLeftBySave shape entries is.point seen) =
        weaker moment left_since old_points mid_points (Image (content old_points)) _ (λ image left. subst (IsLeftBySave shape entries is.point seen) (sym (image_settled seen image (subst (λ k. Image k image) rest left))) (left_same shape entries is.point seen fit)) reads.quiet in
        joined moment left_since old_points mid_points points (IsLeftBySave shape entries is.point seen) before after;
  }

  pub run_then : {V : Type 0} (items : V → Text) (script : Workload) (h : Header) (bodies : List (List ℕ)) (text : Result V Status) (acked : ℕ) → (IsTrue tells → LeavesOnly moment left_since old mid (Holds h bodies))
      → IsRunPart items options script h bodies log_then point_then (LeavesOnly moment left_since mid new) point_leaves_then text acked → IsRunPart items options script h bodies log point (LeavesOnly moment left_since old new) point_leaves text acked
  run_then items script h bodies text acked quiet p = record {
    g = p.g;
    start = p.start;
    script_is = p.script_is;
    header_is = p.header_is;
    was_found = p.was_found;
    begins = p.begins;
    leads_to = p.leads_to;
    moves = p.moves;
    calm = p.calm;
    runs = p.runs;
    opens = p.opens;
    tables = p.tables;
    lawful = p.lawful;
    few = p.few;
    asked = p.asked;
    no_batch = λ never. p.no_batch (λ rose. never (let r = rose in omega (arith, later, r)));
    text_is = IfOk-weaker text _ _ (λ v is. record { finished = is.finished; no_batch = is.no_batch; results = is.results; told = is.told; text_is = is.text_is; saved = is.saved }) p.text_is;
    cause = IfErr-weaker text _ _ (fault_then script h bodies) p.cause;
    comes_first = IfErr-weaker text _ _ (first_then p.g) p.comes_first;
    acked_is = p.acked_is;
    now = p.now;
    ever = λ knows. joined moment left_since old mid new _ (weaker moment left_since old mid (Holds h bodies) _ (λ image holds. inl holds) (quiet knows)) (p.ever knows);
    starts = subst (λ (k : Content). IsStart tells options.from_point h k.seen p.g.found p.start) reads.same p.starts;
    kept = ⊎_elim (λ only. inl (read_then only)) (λ saving. inr (saving.0, saving_then p.g p.start saving.1)) p.kept;
  }

-- ---- why a log was not restarted

refused_by : (r : Result (List EntryKind × Option Checkpoint) RestartError) (e : RestartError) → entries_for r ≡ Err e → r ≡ Err e
refused_by (Ok (entries, point)) e is = absurd (cc is)
refused_by (Err e) f is = let same : e ≡ f = cc is in ap Err same

restart_as : (r : Result (List EntryKind × Option Checkpoint) RestartError) (e : RestartError) (s : Status) → restart_refused (Err e) ≡ Some s → entries_for r ≡ Err e → restart_refused r ≡ Some s
restart_as r e s told is = ap restart_refused (refused_by r e is) ∙ told

pub restart_cause : (options : RunOptions) (script : Workload) (h : Header) (bodies : List (List ℕ)) (log points : Over) (e : RestartError) → (IsTrue log.tells → RefusesRestart e (entries_for (restart_in h bodies options.from_point points.before.seen)))
    → (e ≡ restarting.LogDevice → HasFailed log) → (e ≡ restarting.PointsDevice → (options.from_point ≡ true) × HasFailed points) → IsRanFault options script h bodies log points (restart_fault e)
restart_cause options script h bodies log points restarting.Memory refuses failed point_failed = tt
restart_cause options script h bodies log points restarting.LogDevice refuses failed point_failed = failed refl
restart_cause options script h bodies log points restarting.PointsDevice refuses failed point_failed = let both = point_failed refl in (or_left options.from_point options.save both.0, both.1)
restart_cause options script h bodies log points (restarting.BadEntry pos bad) refuses failed point_failed = λ knows. inl (restart_as (restart_in h bodies options.from_point points.before.seen) (restarting.BadEntry pos bad) _ refl (refuses knows))
restart_cause options script h bodies log points (restarting.BadPoint bad) refuses failed point_failed = λ knows. inl (restart_as (restart_in h bodies options.from_point points.before.seen) (restarting.BadPoint bad) _ refl (refuses knows))
restart_cause options script h bodies log points (restarting.Ahead at held) refuses failed point_failed = λ knows. inl (restart_as (restart_in h bodies options.from_point points.before.seen) (restarting.Ahead at held) _ refl (refuses knows))
restart_cause options script h bodies log points (restarting.Behind base from) refuses failed point_failed = λ knows. inl (restart_as (restart_in h bodies options.from_point points.before.seen) (restarting.Behind base from) _ refl (refuses knows))

-- a point was asked for
asked_for : (b : Bool) → (b ≡ false → ⊥) → b ≡ true
asked_for true never = refl
asked_for false never = absurd (never refl)

pub restart_first : (options : RunOptions) (h : Header) (bodies : List (List ℕ)) (points : Over) (e : RestartError) → (IsOfLog e → points.uncalled) → (IsOfPoint e → options.from_point ≡ false → ⊥) → Fits options false (restart_fault e) points (opened h bodies)
restart_first options h bodies points restarting.Memory first asked = tt
restart_first options h bodies points restarting.LogDevice first asked = first tt
restart_first options h bodies points restarting.PointsDevice first asked = asked_for options.from_point (asked tt)
restart_first options h bodies points (restarting.BadEntry pos bad) first asked = (tt, first tt)
restart_first options h bodies points (restarting.BadPoint bad) first asked = (tt, asked_for options.from_point (asked tt))
restart_first options h bodies points (restarting.Ahead at held) first asked = (tt, asked_for options.from_point (asked tt))
restart_first options h bodies points (restarting.Behind base from) first asked = tt

-- why there is no text, where it is known
pub err_with : {V : Type 0} (text : Result V Status) (answer : Status) (P : Status → Type 0) → text ≡ Err answer → P answer → IfErr text P
err_with text answer P same is = subst (λ t. IfErr t P) (sym same) is
