-- What the commands come to: each by its text, or by why there is none.
use Rattle.std.proofs.Common.{◌≡◌, ℕ, true, false, IsTrue, refl, sym, subst, inl, inr}
use Rattle.std.specs.Prelude.{◌⊎◌, Option, None, Result, Ok, Err, IfOk, IfErr}
use Rattle.std.proofs.lemmas.Result.{IfErr-weaker}
use Rattle.hy_base.specs.Faults.{Rose}
use Rattle.hy_base.specs.Spelling.{Text}
use Rattle.hy_formats.specs.declared.damage.LogPlace.TheVariants.{Page, Entry}
use Rattle.hy_rules.specs.Recovery.{recovered}
use Rattle.hy_run.specs.Answering.{JobDeviceFails}
use Rattle.hy_run.specs.Compacting.{LeavesSpareBy}
use Rattle.hy_run.specs.Fates.{Fate, Fits, WasOpened, LeavesPoint, grown, opened, uncalled, unopened}
use Rattle.hy_run.specs.Handovers.{IsCause, IsDone, IsReadFault}
use Rattle.hy_run.specs.Inspection.{IsUntold}
use Rattle.hy_run.specs.Jobs.{LeavesUnborn, follows, loads, meaning, no_point, runs, simulates, tells_of_log}
use Rattle.hy_run.specs.Loading.{IsLoadText}
use Rattle.hy_run.specs.Looking.{FitsLook, IsInspection}
use Rattle.hy_run.specs.Output.{IsOutput, IsRefused}
use Rattle.hy_run.specs.Over.{IsOnlyRead, Over}
use Rattle.hy_run.specs.Running.{IsScriptRefused}
use Rattle.hy_run.specs.RunningParts.{IsReadingFault}
use Rattle.hy_run.specs.StreamParts.{IsStreamFault}
use Rattle.hy_run.specs.Streams.{IsFollowed, IsStreamRefused}
use Rattle.hy_cli.specs.declared.commands.Report.{Report}
use Rattle.hy_run.specs.declared.status.RunOptions.{RunOptions}
use Rattle.hy_run.specs.declared.status.Status.{Status}
use Rattle.hy_run.specs.declared.status.Status.TheVariants as status
use Rattle.hy_run.specs.declared.status.Which.TheVariants as which
use Rattle.hy_run.proofs.ByKind.{by_fault, by_fault_of, fault_by}

-- an answer of a call that left the spare device alone
spare_alone : (spare : Over) (s : Status) → spare.uncalled → LeavesSpareBy s spare
spare_alone spare status.Fine same = tt
spare_alone spare status.Usage same = same
spare_alone spare (status.Script n why) same = same
spare_alone spare status.Source same = same
spare_alone spare status.Sink same = tt
spare_alone spare (status.Device which.Log) same = same
spare_alone spare (status.Device which.Points) same = same
spare_alone spare (status.Device which.Spare) same = tt
spare_alone spare (status.Log place why) same = same
spare_alone spare (status.Config field held asked) same = same
spare_alone spare (status.Point place why) same = same
spare_alone spare (status.Ahead at held) same = same
spare_alone spare (status.Behind base from) same = same
spare_alone spare status.Memory same = tt
spare_alone spare (status.NothingToCut from base) same = same
spare_alone spare status.SpareInUse same = tt
spare_alone spare (status.Frame place why) same = same
spare_alone spare (status.Table key) same = same

pub spare_apart : {V : Type 0} (spare : Over) (text : Result V Status) → spare.uncalled → IfErr text (λ s. LeavesSpareBy s spare)
spare_apart spare (Ok v) same = tt
spare_apart spare (Err s) same = spare_alone spare s same

module _ {V : Type 0} (items : V → Text) (told : Option Text) (faults faults_now : ℕ) (log points spare : Over) where
  -- a source without a script
  pub unread_done : (options : RunOptions) (s : Status) → IsReadingFault told faults faults_now s → log.uncalled → points.uncalled → spare.uncalled → IsDone items (meaning (runs options)) told faults faults_now log points spare (Err s) 0
  unread_done options s is log_same points_same spare_same = record {
    fate = uncalled;
    start = None;
    is = tt;
    cause = fault_by (IsScriptRefused told) (λ x. ⊥) (Rose faults faults_now) (λ one. ⊥) (IsScriptRefused told) ((meaning (runs options)).log_refused told log points spare) (IsTrue true × Rose faults faults_now) (JobDeviceFails (meaning (runs options)) log points spare)
        (λ n why bad. bad) (λ x kind never. absurd never) (λ rose. (refl, rose)) (λ one never. absurd never) s is;
    comes_first = by_fault (IsScriptRefused told) (λ x. ⊥) (Rose faults faults_now) (λ one. ⊥) (λ x. Fits options false x points uncalled) (λ n why bad. refl) (λ x kind never. absurd never) (λ rose. refl) (λ one never. absurd never) tt s is;
    may_leave = tt;
    log_left = log_same;
    acked_is = refl;
    point_left = points_same;
    unused = λ start save. points_same;
    spare_left = spare_same;
    comes_before_spare = spare_alone spare s spare_same;
  }

  pub simulated_done : (text : Result V Status) → IfOk text (λ v. IsOutput told (items v)) → IfErr text (IsReadFault told faults faults_now) → log.uncalled → points.uncalled → spare.uncalled → IsDone items (meaning simulates) told faults faults_now log points spare text 0
  simulated_done text output refused log_same points_same spare_same = record {
    fate = uncalled;
    start = None;
    is = output;
    cause = IfErr-weaker text _ _ (λ s is. fault_by (IsRefused told) (λ x. ⊥) (Rose faults faults_now) (λ one. ⊥) (IsRefused told) (λ x. ⊥) (IsTrue true × Rose faults faults_now) (JobDeviceFails (meaning simulates) log points spare)
        (λ n why bad. bad) (λ x kind never. never) (λ rose. (refl, rose)) (λ one never. absurd never) s is) refused;
    comes_first = IfErr-weaker text _ _ (λ s is. by_fault (IsRefused told) (λ x. ⊥) (Rose faults faults_now) (λ one. ⊥) (λ x. Fits no_point false x points uncalled) (λ n why bad. refl) (λ x kind never. absurd never) (λ rose. refl) (λ one never. absurd never) tt s is) refused;
    may_leave = refl;
    log_left = log_same;
    acked_is = refl;
    point_left = points_same;
    unused = λ start save. points_same;
    spare_left = spare_same;
    comes_before_spare = spare_apart spare text spare_same;
  }

  pub loaded_done : (seed size : ℕ) (text : Result V Status) → IfOk text (λ v. IsLoadText seed size (items v)) → IfErr text (λ s. s ≡ status.Memory) → log.uncalled → points.uncalled → spare.uncalled → IsDone items (meaning (loads seed size)) told faults faults_now log points spare text 0
  loaded_done seed size text output memory log_same points_same spare_same = record {
    fate = uncalled;
    start = None;
    is = output;
    cause = IfErr-weaker text _ _ (λ s is. subst (IsCause (meaning (loads seed size)) told faults faults_now log points spare) (sym is) tt) memory;
    comes_first = IfErr-weaker text _ _ (λ s is. subst (λ x. Fits no_point false x points uncalled) (sym is) tt) memory;
    may_leave = refl;
    log_left = log_same;
    acked_is = refl;
    point_left = points_same;
    unused = λ start save. points_same;
    spare_left = spare_same;
    comes_before_spare = spare_apart spare text spare_same;
  }

  pub followed_done : (text : Result V Status) → IfOk text (λ v. IsFollowed told (items v)) → IfErr text (IsStreamFault told faults faults_now) → log.uncalled → points.uncalled → spare.uncalled → IsDone items (meaning follows) told faults faults_now log points spare text 0
  followed_done text output refused log_same points_same spare_same = record {
    fate = uncalled;
    start = None;
    is = output;
    cause = IfErr-weaker text _ _ (λ s is. by_fault_of (λ n why. ⊥) (IsStreamRefused told) (λ x. ⊥) (Rose faults faults_now) (λ one. ⊥) (IsCause (meaning follows) told faults faults_now log points spare)
        (λ n why never. absurd never) (λ bad refused. refused) (λ x kind never. absurd never) (λ rose. (refl, rose)) (λ one never. absurd never) tt s is) refused;
    comes_first = IfErr-weaker text _ _ (λ s is. by_fault_of (λ n why. ⊥) (IsStreamRefused told) (λ x. ⊥) (Rose faults faults_now) (λ one. ⊥) (λ x. Fits no_point false x points uncalled) (λ n why never. absurd never) (λ bad refused. refl) (λ x kind never. absurd never) (λ rose. refl) (λ one never. absurd never) tt s is) refused;
    may_leave = refl;
    log_left = log_same;
    acked_is = refl;
    point_left = points_same;
    unused = λ start save. points_same;
    spare_left = spare_same;
    comes_before_spare = spare_apart spare text spare_same;
  }

  -- ---- a look at the log

  fails_at : (fate : Fate) → points.uncalled → (fate ≡ unopened) ⊎ WasOpened fate → Fits no_point false (status.Device which.Log) points fate
  fails_at uncalled same (inl is) = absurd (cc is)
  fails_at uncalled same (inr never) = absurd never
  fails_at unopened same looked = tt
  fails_at (opened header bodies) same looked = same
  fails_at (grown g) same (inl is) = absurd (cc is)
  fails_at (grown g) same (inr never) = absurd never

  look_fits : (fate : Fate) (s : Status) → points.uncalled → FitsLook s fate → Fits no_point false s points fate
  look_fits fate status.Fine same is = absurd is
  look_fits fate status.Usage same is = absurd is
  look_fits fate (status.Script n why) same is = absurd is
  look_fits fate status.Source same is = absurd is
  look_fits fate status.Sink same is = absurd is
  look_fits fate (status.Device which.Log) same is = fails_at fate same is
  look_fits fate (status.Device which.Points) same is = absurd is
  look_fits fate (status.Log (Page page) why) same is = is
  look_fits fate (status.Log (Entry pos) why) same is = (is, same)
  look_fits fate (status.Config field held asked) same is = absurd is
  look_fits fate (status.Point place why) same is = absurd is
  look_fits fate (status.Ahead at held) same is = absurd is
  look_fits fate (status.Device which.Spare) same is = absurd is
  look_fits fate (status.Behind base from) same is = is
  look_fits fate (status.NothingToCut from base) same is = absurd is
  look_fits fate status.SpareInUse same is = absurd is
  look_fits fate (status.Table key) same is = absurd is
  look_fits fate (status.Frame place why) same is = absurd is
  look_fits fate status.Memory same is = tt

  point_alone : (fate : Fate) → points.uncalled → IsOnlyRead points → LeavesUnborn log fate → LeavesPoint no_point points fate None
  point_alone uncalled same read looked = same
  point_alone unopened same read looked = same
  point_alone (opened header bodies) same read looked = (read, λ unasked. same)
  point_alone (grown g) same read looked = absurd looked

  pub inspected_done : (report : Report) (text : Result V Status) (acked : ℕ) → IsInspection items report log text acked → points.uncalled → IsOnlyRead points → spare.uncalled → IsDone items (meaning (tells_of_log report)) told faults faults_now log points spare text acked
  inspected_done report text acked is same read spare_same = record {
    fate = is.fate;
    start = None;
    is = is.is;
    cause = IfErr-weaker text _ _ (λ s bad. fault_by (λ n why. ⊥) (IsUntold report log.tells (recovered log.before.seen)) ⊥ (λ one. (one ≡ which.Log) × Rose log.faults log.faults_now) (λ n why. ⊥) (IsUntold report log.tells (recovered log.before.seen)) (IsTrue false × Rose faults faults_now) (JobDeviceFails (meaning (tells_of_log report)) log points spare)
        (λ n why never. never) (λ x kind damaged. damaged) (λ never. absurd never) (λ one failed. subst (JobDeviceFails (meaning (tells_of_log report)) log points spare) (sym failed.0) failed.1) s bad) is.cause;
    comes_first = IfErr-weaker text _ _ (λ s fits. look_fits is.fate s same fits) is.comes_first;
    may_leave = is.may_leave;
    log_left = is.log_left;
    acked_is = is.acked_is;
    point_left = point_alone is.fate same read is.may_leave;
    unused = λ start save. same;
    spare_left = spare_same;
    comes_before_spare = spare_apart spare text spare_same;
  }
