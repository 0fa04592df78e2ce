-- What a copy of a log comes to.
use Rattle.std.proofs.Common.{◌≡◌, ℕ, suc, zero, ◌+◌, ◌-◌, ◌*◌, ◌%◌, ◌/◌, ◌<◌, ◌≤◌, Bool, true, false, IsTrue, List, [], ◌∷◌, length, map, take, drop, refl, sym, ◌∙◌, ap, subst, inl, inr, ⊎_elim, arith, length-drop}
use Rattle.std.specs.Prelude.{◌⊎◌, Option, Some, None, Result, Ok, Err, IfOk, IfErr, IsErrAnd, nat_lt, if◌then◌else◌, ⊤}
use Rattle.std.specs.List.{AllByRecursion}
use Rattle.std.proofs.lemmas.Bool.{le-ltb, lt-ltb, true≢false}
use Rattle.std.proofs.lemmas.List.{drop-map}
use Rattle.std.proofs.lemmas.Result.{IfErr-weaker}
use Rattle.std.proofs.Math.Nat.{mul-mod_right, mul_assoc}
use Rattle.hy_base.specs.declared.layout.Shape.{Shape}
use Rattle.hy_base.specs.declared.record.EntryKind.{EntryKind}
use Rattle.hy_base.specs.Entry.{IsSoundEntry}
use Rattle.hy_base.specs.Faults.{Rose}
use Rattle.hy_base.specs.Log.{HaveLawfulSnaps}
use Rattle.hy_base.specs.Shape.{IsGoodShape}
use Rattle.hy_base.specs.Spelling.{Text}
use Rattle.hy_rules.proofs.Growth.{snaps_drop}
use Rattle.hy_formats.specs.declared.header.Header.{Header}
use Rattle.hy_formats.specs.declared.refusal.OpenError.{OpenError}
use Rattle.hy_formats.specs.declared.refusal.OpenError.TheVariants as opening
use Rattle.hy_formats.specs.declared.refusal.RestartError.{RestartError}
use Rattle.hy_formats.specs.declared.refusal.RestartError.TheVariants as restarting
use Rattle.hy_formats.specs.Checkpoint.{Checkpoint, IsCheckpoint, base_behind}
use Rattle.hy_formats.specs.EntryFormat.{entries_past, spelling}
use Rattle.hy_formats.specs.LogDevice.{Holds, HoldsNothing}
use Rattle.hy_formats.specs.LogFormat.{IsGoodHeader, is_unborn}
use Rattle.hy_formats.specs.Opening.{outcome}
use Rattle.hy_formats.specs.Restarting.{as_point, base_of, not_ahead, point_for}
use Rattle.hy_formats.specs.PointFormat.{held_point}
use Rattle.hy_formats.specs.Reading.{◌>>=◌}
use Rattle.hy_formats.specs.declared.damage.BadPoint.{BadPoint}
use Rattle.hy_formats.specs.Texts.{compact_text}
use Rattle.hy_rules.specs.CutLogs.{AreLawfulPast, IsWholeOf}
use Rattle.hy_rules.specs.Recovery.{decoded_held, decoded_log, entries_with, recovered}
use Rattle.hy_codec.specs.CodecLaws.{BodiesAreRead}
use Rattle.hy_entries.specs.declared.reading.EntriesError.{EntriesError}
use Rattle.hy_entries.specs.declared.reading.EntriesError.TheVariants as entries_error
use Rattle.hy_entries.specs.LogEntries.{AreFoundIn, IsSameLog, OnlyLooks, RefusesEntry}
use Rattle.hy_disk.specs.Content.{Content, Image, settled}
use Rattle.hy_disk.specs.Moments.{LeavesOnly, OnlyReads}
use Rattle.hy_disk.proofs.Images.{image_settled}
use Rattle.hy_disk.proofs.Moments.{joined, weaker}
use Rattle.hy_log.specs.View.{LogView}
use Rattle.hy_log.specs.LogOpening.{MayRefuse, Refuses as OpenRefuses}
use Rattle.hy_restart.specs.CutLaws.{CopyRestarts, CutFurther}
use Rattle.hy_restart.specs.Restart.{IsPointFault, RefusesRestart}
use Rattle.hy_compact.specs.Compaction.{IsPartlyCopied}
use Rattle.hy_run.specs.Answering.{JobDeviceFails, SourceFails}
use Rattle.hy_run.specs.Compacting.{HoldsSome, IsCopied, IsPlanned, IsSpareCalled, LeavesSpareBy, copy_refused, entries_past_base, header_past, past_point_refused}
use Rattle.hy_run.specs.Copies.{FitsBase, IsBaseFault, IsCopyFault, IsCopyOf, IsFurther, IsMade, IsPlan, IsPlanFault, IsRest, IsTried, OneFails, unopened_fault}
use Rattle.hy_run.specs.Fates.{Fits, LeavesLog, opened, unopened}
use Rattle.hy_run.specs.Handovers.{IsCause, IsDone}
use Rattle.hy_run.specs.Jobs.{LeavesUnborn, compacts, meaning, only_point}
use Rattle.hy_run.specs.Looking.{IsOnlySeen, entries_fault}
use Rattle.hy_run.specs.Output.{IsFault}
use Rattle.hy_run.specs.Over.{HasFailed, IsOnlyRead, LeavesEver, Over, over}
use Rattle.hy_run.specs.Running.{restart_fault}
use Rattle.hy_run.specs.declared.status.Status.{Status}
use Rattle.hy_run.specs.declared.status.Status.TheVariants as status
use Rattle.hy_run.specs.declared.status.Which.{Which}
use Rattle.hy_run.specs.declared.status.Which.TheVariants as which
use Rattle.hy_run.proofs.ByKind.{fault_by}
use Rattle.hy_run.proofs.Ending.{spare_apart}
use Rattle.hy_run.proofs.Inspecting.{bad_page, born_log, no_log, opened_log, unborn_log}
use Rattle.hy_run.proofs.Leaving.{holds_entries, lawful_part, sound_first}

-- ---- the saved point

-- no base, or one that isn't past the cut
pub nothing_to_cut : (from len base : ℕ) (shape : Shape) (bytes : List ℕ) (point : Option Checkpoint) → point_for shape len bytes ≡ Ok point → base_of point ≡ base → base ≤ from
    → (spare : List ℕ) → past_point_refused from (point_for shape len bytes) spare ≡ Some (status.NothingToCut from base)
nothing_to_cut from len base shape bytes point read is low spare =
    let not_past : nat_lt from (base_of point) ≡ false = ap (nat_lt from) is ∙ le-ltb from base low in
    ap (λ o. past_point_refused from o spare) read
    ∙ (ap (λ (b : Bool). if b then (if is_unborn spare then None else Some status.SpareInUse) else Some (status.NothingToCut from (base_of point))) not_past
    ∙ ap (λ (n : ℕ). Some (status.NothingToCut from n)) is)

refused_point : (from len : ℕ) (shape : Shape) (bytes : List ℕ) (e : RestartError) → point_for shape len bytes ≡ Err e → (spare : List ℕ) → past_point_refused from (point_for shape len bytes) spare ≡ Some (restart_fault e)
refused_point from len shape bytes e read spare = ap (λ o. past_point_refused from o spare) read

pub base_fault : (tells : Bool) (shape : Shape) (from len : ℕ) (bytes : List ℕ) (faults faults_now : ℕ) (e : RestartError) → IsPointFault e → (IsTrue tells → RefusesRestart e (point_for shape len bytes)) → (e ≡ restarting.PointsDevice → Rose faults faults_now)
    → IsBaseFault tells shape from len bytes faults faults_now (restart_fault e) × FitsBase (restart_fault e)
base_fault tells shape from len bytes faults faults_now restarting.Memory is refuses rose = (tt, tt)
base_fault tells shape from len bytes faults faults_now restarting.LogDevice is refuses rose = absurd is
base_fault tells shape from len bytes faults faults_now restarting.PointsDevice is refuses rose = ((refl, rose refl), tt)
base_fault tells shape from len bytes faults faults_now (restarting.BadEntry pos bad) is refuses rose = absurd is
base_fault tells shape from len bytes faults faults_now (restarting.BadPoint bad) is refuses rose = (λ told. refused_point from len shape bytes (restarting.BadPoint bad) (refuses told), tt)
base_fault tells shape from len bytes faults faults_now (restarting.Ahead point log) is refuses rose = (λ told. refused_point from len shape bytes (restarting.Ahead point log) (refuses told), tt)
base_fault tells shape from len bytes faults faults_now (restarting.Behind base cut) is refuses rose = absurd is

-- the point that is read is the one that the device holds
held_so : (shape : Shape) (len : ℕ) (bytes : List ℕ) (c : Checkpoint) → point_for shape len bytes ≡ Ok (Some c) → held_point shape bytes ≡ Some (Ok c)
held_so shape len bytes c read = by (held_point shape bytes) refl
  where
    near : (b : Bool) (d : Checkpoint) → (if b then Err (restarting.Ahead d.position len) else Ok (Some d)) ≡ Ok (Some c) → d ≡ c
    near true d is = absurd (cc is)
    near false d is = cc is

    by : (o : Option (Result Checkpoint BadPoint)) → held_point shape bytes ≡ o → o ≡ Some (Ok c)
    by None none = absurd (let wrong : Ok None ≡ Ok (Some c) = ap (λ x. as_point x >>= not_ahead len) (sym none) ∙ read in cc wrong)
    by (Some (Err bad)) is = absurd (let wrong : Err (restarting.BadPoint bad) ≡ Ok (Some c) = ap (λ x. as_point x >>= not_ahead len) (sym is) ∙ read in cc wrong)
    by (Some (Ok d)) is = ap (λ (x : Checkpoint). Some (Ok x)) (near (nat_lt len d.position) d (ap (λ x. as_point x >>= not_ahead len) (sym is) ∙ read))

-- ---- what is to be copied

-- a log whose entries are read is refused at its point
pub refused_past : (h : Header) (bodies : List (List ℕ)) (entries : List EntryKind) (bytes spare : List ℕ) (s : Status) → entries_past h.shape h.from bodies ≡ Ok entries → past_point_refused h.from (point_for h.shape (h.from + length entries) bytes) spare ≡ Some s
    → copy_refused (decoded_log (Some h) bodies) bytes spare ≡ Some s
refused_past h bodies entries bytes spare s read is = ap (λ r. copy_refused (entries_with h r) bytes spare) read ∙ is

pub base_plan_fault : (tells : Bool) (h : Header) (bodies : List (List ℕ)) (bytes : List ℕ) (entries : List EntryKind) (lf lf_now pf pf_now : ℕ) (s : Status) → (IsTrue tells → entries_past h.shape h.from bodies ≡ Ok entries)
    → IsBaseFault tells h.shape h.from (h.from + length entries) bytes pf pf_now s → IsPlanFault tells h bodies bytes lf lf_now pf pf_now s
base_plan_fault tells h bodies bytes entries lf lf_now pf pf_now s read is =
    fault_by (λ line why. ⊥) (λ x. IsTrue tells → (spare : List ℕ) → past_point_refused h.from (point_for h.shape (h.from + length entries) bytes) spare ≡ Some x) ⊥ (λ device. (device ≡ which.Points) × Rose pf pf_now)
    (λ line why. ⊥) (λ x. IsTrue tells → (spare : List ℕ) → copy_refused (decoded_log (Some h) bodies) bytes spare ≡ Some x) ⊥ (λ device. ((device ≡ which.Log) × Rose lf lf_now) ⊎ ((device ≡ which.Points) × Rose pf pf_now))
    (λ n why never. never) (λ x kind bad told spare. refused_past h bodies entries bytes spare x (read told) (bad told spare)) (λ never. never) (λ one failed. inr failed) s is

pub audit_plan_fault : (tells : Bool) (h : Header) (bodies : List (List ℕ)) (bytes : List ℕ) (lf lf_now pf pf_now : ℕ) (e : EntriesError) → (IsTrue tells → RefusesEntry e (entries_past h.shape h.from bodies)) → (e ≡ entries_error.Device → Rose lf lf_now)
    → IsPlanFault tells h bodies bytes lf lf_now pf pf_now (entries_fault e)
audit_plan_fault tells h bodies bytes lf lf_now pf pf_now entries_error.Memory refuses rose = tt
audit_plan_fault tells h bodies bytes lf lf_now pf pf_now entries_error.Device refuses rose = inl (refl, rose refl)
audit_plan_fault tells h bodies bytes lf lf_now pf pf_now (entries_error.BadEntry pos bad) refuses rose = λ told spare. ap (λ r. copy_refused (entries_with h r) bytes spare) (refuses told)

-- how far such a call came
pub base_first : (s : Status) (points : Over) (h : Header) (bodies : List (List ℕ)) → FitsBase s → Fits only_point true s points (opened h bodies)
base_first status.Memory points h bodies is = tt
base_first (status.Device which.Points) points h bodies is = refl
base_first (status.Device which.Log) points h bodies is = absurd is
base_first (status.Device which.Spare) points h bodies is = absurd is
base_first (status.Point place why) points h bodies is = (tt, refl)
base_first (status.Ahead at held) points h bodies is = (tt, refl)
base_first (status.NothingToCut from base) points h bodies is = inr tt
base_first status.Fine points h bodies is = absurd is
base_first status.Usage points h bodies is = absurd is
base_first (status.Script n why) points h bodies is = absurd is
base_first status.Source points h bodies is = absurd is
base_first status.Sink points h bodies is = absurd is
base_first (status.Log place why) points h bodies is = absurd is
base_first (status.Config field held asked) points h bodies is = absurd is
base_first (status.Behind base from) points h bodies is = absurd is
base_first status.SpareInUse points h bodies is = absurd is
base_first (status.Table key) points h bodies is = absurd is
base_first (status.Frame place why) points h bodies is = absurd is

pub audit_first : (e : EntriesError) (points : Over) (h : Header) (bodies : List (List ℕ)) → IsOnlyRead points → Fits only_point true (entries_fault e) points (opened h bodies)
audit_first entries_error.Memory points h bodies seen = tt
audit_first entries_error.Device points h bodies seen = seen
audit_first (entries_error.BadEntry pos bad) points h bodies seen = (tt, seen)

-- ---- the copy

past_sound : (version n : ℕ) (entries : List EntryKind) → AllByRecursion (IsSoundEntry version) entries → AllByRecursion (IsSoundEntry version) (drop n entries)
past_sound version zero entries sound = sound
past_sound version (suc n) [] sound = tt
past_sound version (suc n) (e ∷ entries) sound = past_sound version n entries sound.1

-- a point's base is the end of a window, up to the last position
pub base_is_good : (shape : Shape) (c : Checkpoint) → IsGoodShape shape → c.shape ≡ shape → IsCheckpoint c → IsGoodHeader (record { shape = shape; from = c.base })
base_is_good shape c good same valid =
    let base : c.base ≡ base_behind shape c.position = valid.base_is ∙ ap (λ (s : Shape). base_behind s c.position) same in
    let windows : ℕ = c.position / shape.group / shape.window - 1 in
    let whole : base_behind shape c.position ≡ shape.group * shape.window * windows = sym (mul_assoc shape.group shape.window windows) in
    let cap : c.position ≤ shape.cap = subst (λ (s : Shape). c.position ≤ s.cap) same valid.within in
    record {
      shape = good;
      within = omega (arith, valid.flag_each, cap);
      at_window = ap (λ (n : ℕ). n % (shape.group * shape.window)) (base ∙ whole) ∙ mul-mod_right (shape.group * shape.window) windows;
    }

pub lawful_rest : (h : Header) (entries : List EntryKind) (c : Checkpoint) → AreLawfulPast h.shape h.from entries → h.from < c.base → IsCheckpoint c → c.position ≤ h.from + length entries → AreLawfulPast h.shape c.base (entries_past_base h entries c)
lawful_rest h entries c lawful past valid within =
    let skipped : ℕ = c.base - h.from in
    let sum : h.from + skipped ≡ c.base = omega (arith, past) in
    let few : skipped ≤ length entries = omega (arith, within, valid.flag_each, past) in
    let size : length (entries_past_base h entries c) ≡ length entries - skipped = length-drop skipped entries in
    record {
      capacity = omega (arith, size, sum, few, lawful.capacity);
      snaps = subst (λ (n : ℕ). HaveLawfulSnaps h.shape n (entries_past_base h entries c)) sum (snaps_drop h.shape h.from skipped entries lawful.snaps);
    }

-- what is read once more past the base are the entries past it
module _ (law : BodiesAreRead) (tells : Bool) (h : Header) (bodies : List (List ℕ)) (bytes : List ℕ) (entries : List EntryKind) (point : Checkpoint) (plan : IsPlan tells h bodies bytes entries point) where
  abbrev skipped : ℕ
  skipped = point.base - h.from

  past_lawful : AreLawfulPast h.shape point.base (entries_past_base h entries point)
  past_lawful = lawful_rest h entries point plan.found.lawful plan.point_is.further plan.point_is.valid plan.point_is.within

  -- these bodies are read as those entries
  pub read_again : IsTrue tells → entries_past h.shape point.base (drop skipped bodies) ≡ Ok (entries_past_base h entries point)
  read_again told =
      ap (λ (bs : List (List ℕ)). entries_past h.shape point.base (drop skipped bs)) (plan.found.spelled told)
      ∙ (ap (entries_past h.shape point.base) (drop-map (spelling h.shape.version) skipped entries)
      ∙ law h.shape point.base (entries_past_base h entries point) (past_sound h.shape.version skipped entries plan.found.sound) past_lawful.snaps)

  pub rest_read : (rest : List EntryKind) → AreFoundIn tells (header_past h point) (drop skipped bodies) rest → IsRest tells h entries point rest
  rest_read rest found = record {
    same = λ told. let both : Ok rest ≡ Ok (entries_past_base h entries point) = sym (found.read told) ∙ read_again told in cc both;
    count = omega (arith, found.count, length-drop skipped bodies, length-drop skipped entries, plan.found.count);
    sound = found.sound;
    lawful = found.lawful;
  }

  -- no entry is refused there, and only the device may fail
  pub rest_plan_fault : (lf mid lf_now pf pf_now : ℕ) (e : EntriesError) → (IsTrue tells → RefusesEntry e (entries_past h.shape point.base (drop skipped bodies))) → lf ≤ mid → (e ≡ entries_error.Device → Rose mid lf_now)
      → IsPlanFault tells h bodies bytes lf lf_now pf pf_now (entries_fault e)
  rest_plan_fault lf mid lf_now pf pf_now entries_error.Memory refuses later rose = tt
  rest_plan_fault lf mid lf_now pf pf_now entries_error.Device refuses later rose = inl (refl, (let risen = rose refl in omega (arith, later, risen)))
  rest_plan_fault lf mid lf_now pf pf_now (entries_error.BadEntry pos bad) refuses later rose = λ told spare. absurd (let wrong : Ok (entries_past_base h entries point) ≡ Err (pos, bad) = sym (read_again told) ∙ refuses told in cc wrong)

module _ {V : Type 0} (items : V → Text) (tells : Bool) (h : Header) (bodies : List (List ℕ)) (lf lf_now : ℕ) (points spare : Over) (text : Result V Status) where
  abbrev Causes : Status → Type 0
  Causes = λ s. IsTrue tells → copy_refused (decoded_log (Some h) bodies) points.before.seen spare.before.seen ≡ Some s

  -- nothing is planned
  pub unplanned : (status : Status) → text ≡ Err status → IsPlanFault tells h bodies points.before.seen lf lf_now points.faults points.faults_now status → Fits only_point true status points (opened h bodies) → spare.uncalled
      → IsCopyOf items tells h bodies lf lf_now points spare text
  unplanned status is cause first same = record {
    made = subst (λ t. IfOk t (IsMade items tells h bodies points spare)) (sym is) tt;
    cause = subst (λ t. IfErr t (IsFault (λ line why. ⊥) Causes ⊥ (OneFails lf lf_now points spare))) (sym is) (fault_by (λ line why. ⊥) (λ x. IsTrue tells → (spare : List ℕ) → copy_refused (decoded_log (Some h) bodies) points.before.seen spare ≡ Some x) ⊥
        (λ device. ((device ≡ which.Log) × Rose lf lf_now) ⊎ ((device ≡ which.Points) × Rose points.faults points.faults_now)) (λ line why. ⊥) Causes ⊥ (OneFails lf lf_now points spare)
        (λ n why never. never) (λ x kind bad told. bad told spare.before.seen) (λ never. never)
        (λ one. ⊎_elim (λ log. subst (OneFails lf lf_now points spare) (sym log.0) log.1) (λ point. subst (OneFails lf lf_now points spare) (sym point.0) point.1)) status cause);
    comes_first = subst (λ t. IfErr t (λ s. Fits only_point true s points (opened h bodies))) (sym is) first;
    spare_left = inl same;
    comes_before_spare = spare_apart spare text same;
  }

  module _ (entries : List EntryKind) (point : Checkpoint) (plan : IsPlan tells h bodies points.before.seen entries point) where
    in_use : IsTrue tells → is_unborn spare.before.seen ≡ false → copy_refused (decoded_log (Some h) bodies) points.before.seen spare.before.seen ≡ Some status.SpareInUse
    in_use told used =
        let past : nat_lt h.from point.base ≡ true = lt-ltb h.from point.base plan.point_is.further in
        refused_past h bodies entries points.before.seen spare.before.seen status.SpareInUse (plan.found.read told)
        (ap (λ o. past_point_refused h.from o spare.before.seen) (plan.point_is.saved told)
        ∙ (λ i. if past i then (if used i then None else Some status.SpareInUse) else Some (status.NothingToCut h.from point.base)))

    spare_cause : (s : Status) → IsCopyFault tells spare.before.seen spare.faults spare.faults_now s
        → IsFault (λ line why. ⊥) Causes ⊥ (OneFails lf lf_now points spare) s × (Fits only_point true s points (opened h bodies) × LeavesSpareBy s spare)
    spare_cause status.Memory is = (tt, (tt, tt))
    spare_cause status.SpareInUse is = (λ told. in_use told (is told), (tt, tt))
    spare_cause (status.Device which.Spare) is = (is, (tt, tt))
    spare_cause (status.Frame place why) is = absurd is
    spare_cause (status.Device which.Log) is = absurd is
    spare_cause (status.Device which.Points) is = absurd is
    spare_cause status.Fine is = absurd is
    spare_cause status.Usage is = absurd is
    spare_cause (status.Script n why) is = absurd is
    spare_cause status.Source is = absurd is
    spare_cause status.Sink is = absurd is
    spare_cause (status.Log place why) is = absurd is
    spare_cause (status.Config field held asked) is = absurd is
    spare_cause (status.Point place why) is = absurd is
    spare_cause (status.Ahead at held) is = absurd is
    spare_cause (status.Behind base from) is = absurd is
    spare_cause (status.NothingToCut from base) is = absurd is
    spare_cause (status.Table key) is = absurd is

    -- what was planned is tried with these entries
    pub tried : (rest : List EntryKind) → IsRest tells h entries point rest → (IsTrue spare.tells → IsTrue tells) → IfOk text (λ v. items v ≡ compact_text point.base (length rest)) → (IsTrue spare.tells → IfOk text (λ v. is_unborn spare.before.seen ≡ true))
        → (IsTrue spare.tells → IfOk text (λ v. (image : List ℕ) → Image spare.now image → Holds (header_past h point) (map (spelling h.shape.version) rest) image))
        → IfErr text (IsCopyFault tells spare.before.seen spare.faults spare.faults_now) → (IsTrue spare.tells → is_unborn spare.before.seen ≡ false → IsOnlyRead spare)
        → (is_unborn spare.before.seen ≡ true → LeavesEver spare (IsPartlyCopied (header_past h point) rest))
        → IsCopyOf items tells h bodies lf lf_now points spare text
    tried rest is knows told unborn held cause used quiet_rest = record {
      made = made_of text told unborn held;
      cause = IfErr-weaker text _ _ (λ s is. (spare_cause s is).0) cause;
      comes_first = IfErr-weaker text _ _ (λ s is. (spare_cause s is).1.0) cause;
      spare_left = inr (record { entries = entries; point = point; plan = plan; in_use = used; unborn = quiet });
      comes_before_spare = IfErr-weaker text _ _ (λ s is. (spare_cause s is).1.1) cause;
    }
      where
        quiet : is_unborn spare.before.seen ≡ true → LeavesEver spare (IsPartlyCopied (header_past h point) (entries_past_base h entries point))
        quiet unborn told = subst (λ (es : List EntryKind). spare.before ≡ settled spare.before.seen → (image : List ℕ) → spare.crashes image → IsPartlyCopied (header_past h point) es image) (is.same (knows told)) (quiet_rest unborn told)

        made_of : (t : Result V Status) → IfOk t (λ v. items v ≡ compact_text point.base (length rest)) → (IsTrue spare.tells → IfOk t (λ v. is_unborn spare.before.seen ≡ true))
            → (IsTrue spare.tells → IfOk t (λ v. (image : List ℕ) → Image spare.now image → Holds (header_past h point) (map (spelling h.shape.version) rest) image))
            → IfOk t (IsMade items tells h bodies points spare)
        made_of (Ok v) told unborn held = record {
          entries = entries;
          point = point;
          plan = plan;
          was_unborn = unborn;
          text_is = told ∙ ap (compact_text point.base) is.count;
          held = λ tells_it image now. subst (λ (es : List EntryKind). Holds (header_past h point) (map (spelling h.shape.version) es) image) (is.same (knows tells_it)) (held tells_it image now);
        }
        made_of (Err e) told unborn held = tt

-- ---- what the parts hand on, by what is equal to what

pub err_as : {V : Type 0} (text : Result V Status) (s : Status) (P : Status → Type 0) → IsErrAnd text (λ x. x ≡ s) → P s → IfErr text P
err_as (Ok v) s P is holds = absurd is
err_as (Err x) s P is holds = subst P (sym is) holds

module _ (tells : Bool) (h : Header) (bodies : List (List ℕ)) (bytes : List ℕ) (entries : List EntryKind) (shape : Shape) (from len : ℕ) (shape_is : shape ≡ h.shape) (from_is : from ≡ h.from) (len_is : len ≡ h.from + length bodies) (found : AreFoundIn tells h bodies entries) where
  here : (P : Shape → ℕ → ℕ → Type 0) → P shape from len → P h.shape h.from (h.from + length entries)
  here P is =
      let size : len ≡ h.from + length entries = omega (arith, len_is, found.count) in
      subst (P h.shape h.from) size (subst (λ (n : ℕ). P h.shape n len) from_is (subst (λ (s : Shape). P s from len) shape_is is))

  pub plan_of : (point : Checkpoint) → IsFurther tells shape from len bytes point → IsPlan tells h bodies bytes entries point
  plan_of point further = record { found = found; point_is = here (λ s f n. IsFurther tells s f n bytes point) further }

  pub base_fault_of : (lf lf_now pf pf_now : ℕ) (s : Status) → IsBaseFault tells shape from len bytes pf pf_now s → IsPlanFault tells h bodies bytes lf lf_now pf pf_now s
  base_fault_of lf lf_now pf pf_now s fault = base_plan_fault tells h bodies bytes entries lf lf_now pf pf_now s found.read (here (λ x f n. IsBaseFault tells x f n bytes pf pf_now s) fault)

-- the log is read once more as it was
module _ (h : Header) (point : Checkpoint) (bodies mid_bodies : List (List ℕ)) (mid_shape : Shape) (mid_from base : ℕ) (shape_is : mid_shape ≡ h.shape) (from_is : mid_from ≡ h.from) (bodies_are : mid_bodies ≡ bodies) (base_is : base ≡ point.base) where
  pub refused_again : (e : EntriesError) → RefusesEntry e (entries_past mid_shape base (drop (base - mid_from) mid_bodies)) → RefusesEntry e (entries_past h.shape point.base (drop (point.base - h.from) bodies))
  refused_again e refuses = subst (RefusesEntry e) (λ i. entries_past (shape_is i) (base_is i) (drop (base_is i - from_is i) (bodies_are i))) refuses

  pub found_again : (tells : Bool) (rest : List EntryKind) → AreFoundIn tells (record { shape = mid_shape; from = base }) (drop (base - mid_from) mid_bodies) rest → AreFoundIn tells (header_past h point) (drop (point.base - h.from) bodies) rest
  found_again tells rest found = subst (λ (x : Header × List (List ℕ)). AreFoundIn tells x.0 x.1 rest) (λ i. (record { shape = shape_is i; from = base_is i }, drop (base_is i - from_is i) (bodies_are i))) found

module _ {D : Type 0} (content : D → Content) (moment : D → ℕ) (left_since : D → ℕ → List ℕ → Type 0) (faults_of : D → ℕ) (has_room : D → ℕ → ℕ → Type 0) where
  pub seen_twice : {T U : Type 0} (old mid new : LogView D) (r : Result T EntriesError) (r_now : Result U EntriesError) → OnlyLooks content moment left_since faults_of has_room old.disk mid.disk r → OnlyLooks content moment left_since faults_of has_room mid.disk new.disk r_now
      → IsSameLog old mid → IsSameLog mid new → IsOnlySeen content moment left_since faults_of old new
  seen_twice old mid new r r_now first second same same_now = record {
    same = second.same ∙ first.same;
    quiet = joined moment left_since old.disk mid.disk new.disk (Image (content old.disk)) first.quiet (subst (λ (k : Content). LeavesOnly moment left_since mid.disk new.disk (Image k)) first.same second.quiet);
    later = omega (arith, first.later, second.later);
    shape = same_now.shape ∙ same.shape;
    from = same_now.from ∙ same.from;
    stopped = same_now.stopped ∙ same.stopped;
    bodies = same_now.bodies ∙ same.bodies;
  }

  pub only_read : (tells : Bool) (old new : D) → OnlyReads content moment left_since faults_of old new → IsOnlyRead (over tells content moment left_since faults_of old new)
  only_read tells old new is = record { same = is.same; quiet = is.quiet.each }

-- what a copy of these entries comes to, where they were any
abbrev pub AreTried : {V : Type 0} → (V → Text) → Over → Result V Status → Shape → ℕ → List EntryKind → Type 0
AreTried items spare text shape base rest =
    IfOk text (λ v. items v ≡ compact_text base (length rest))
    × (IsTrue spare.tells → IfOk text (λ v. (image : List ℕ) → Image spare.now image → Holds (record { shape = shape; from = base }) (map (spelling shape.version) rest) image))
    × (is_unborn spare.before.seen ≡ true → LeavesEver spare (IsPartlyCopied (record { shape = shape; from = base }) rest))

pub tried_with : {V : Type 0} (items : V → Text) (spare : Over) (text : Result V Status) (shape shape_now : Shape) (base base_now : ℕ) (rest rest_now : List EntryKind) → shape ≡ shape_now → base ≡ base_now → rest ≡ rest_now
    → AreTried items spare text shape base rest → AreTried items spare text shape_now base_now rest_now
tried_with items spare text shape shape_now base base_now rest rest_now shape_is base_is rest_is tried = subst (λ (x : Shape × (ℕ × List EntryKind)). AreTried items spare text x.0 x.1.0 x.1.1) (λ i. (shape_is i, (base_is i, rest_is i))) tried

-- ---- a device that is found unborn

module _ {D : Type 0} (content : D → Content) (moment : D → ℕ) (left_since : D → ℕ → List ℕ → Type 0) (faults_of : D → ℕ) (h : Header) (entries : List EntryKind) (old mid : D) (found : OnlyReads content moment left_since faults_of old mid)
    (rest : content old ≡ settled (content old).seen) (unborn : is_unborn (content old).seen ≡ true) where
  nothing_there : (image : List ℕ) → Image (content old) image → IsPartlyCopied h entries image
  nothing_there image left =
      let same : image ≡ (content old).seen = image_settled (content old).seen image (subst (λ (k : Content). Image k image) rest left) in
      inl (None, unborn_log image (subst (λ (bytes : List ℕ). is_unborn bytes ≡ true) (sym same) unborn))

  pub only_found : LeavesOnly moment left_since old mid (IsPartlyCopied h entries)
  only_found = weaker moment left_since old mid (Image (content old)) (IsPartlyCopied h entries) nothing_there found.quiet

  pub found_then : (new : D) → (content mid ≡ settled (content mid).seen → LeavesOnly moment left_since mid new (IsPartlyCopied h entries)) → LeavesOnly moment left_since old new (IsPartlyCopied h entries)
  found_then new after = joined moment left_since old mid new (IsPartlyCopied h entries) only_found (after (subst (λ (k : Content). k ≡ settled k.seen) (sym found.same) rest))

-- ---- the whole job

module _ {V : Type 0} (items : V → Text) (law : BodiesAreRead) (copies : CopyRestarts) (further : CutFurther) (log points spare : Over) (both : IsTrue log.tells → IsTrue points.tells × IsTrue spare.tells) (log_of : IsTrue points.tells → IsTrue log.tells) (log_of_spare : IsTrue spare.tells → IsTrue log.tells)
    (told : Option Text) (faults : ℕ) where
  module _ (h : Header) (bodies : List (List ℕ)) (opens : IsTrue log.tells → outcome None log.before.seen ≡ Ok (record { header = Some h; bodies = bodies })) where
    read_log : (entries : List EntryKind) → (IsTrue log.tells → entries_past h.shape h.from bodies ≡ Ok entries) → IsTrue log.tells → recovered log.before.seen ≡ Ok (record { header = Some h; entries = entries })
    read_log entries read knows = ap decoded_held (opened_log log.before.seen _ (opens knows)) ∙ ap (entries_with h) (read knows)

    planned : (entries : List EntryKind) (point : Checkpoint) → IsPlan log.tells h bodies points.before.seen entries point → IsPlanned log points
    planned entries point plan = record {
      header = h;
      entries = entries;
      point = point;
      found = read_log entries plan.found.read;
      saved = λ knows. plan.point_is.saved (log_of knows);
      further = plan.point_is.further;
    }

    rest_lawful : (entries : List EntryKind) (point : Checkpoint) → IsPlan log.tells h bodies points.before.seen entries point → AreLawfulPast h.shape point.base (entries_past_base h entries point)
    rest_lawful entries point plan = lawful_rest h entries point plan.found.lawful plan.point_is.further plan.point_is.valid plan.point_is.within

    rest_sound : (entries : List EntryKind) (point : Checkpoint) → IsPlan log.tells h bodies points.before.seen entries point → AllByRecursion (IsSoundEntry h.shape.version) (entries_past_base h entries point)
    rest_sound entries point plan = past_sound h.shape.version (point.base - h.from) entries plan.found.sound

    whole_of : (entries : List EntryKind) (point : Checkpoint) → IsPlan log.tells h bodies points.before.seen entries point → (whole : List EntryKind) → IsWholeOf h.shape h.from entries (Some point) whole
        → IsWholeOf h.shape point.base (entries_past_base h entries point) (Some point) whole
    whole_of entries point plan whole w =
        let is = plan.point_is in
        let skipped : ℕ = point.base - h.from in
        let sum : h.from + skipped ≡ point.base = omega (arith, is.further) in
        subst (λ (n : ℕ). IsWholeOf h.shape n (entries_past_base h entries point) (Some point) whole) sum (further h.shape h.from skipped entries (Some point) whole (omega (arith, is.within, is.valid.flag_each, is.further)) w)

    -- a text is that of a copy
    copied_of : (v : V) → IsMade items log.tells h bodies points spare v → IsCopied log points spare (items v)
    unfolding planned
    copied_of v m =
        let plan = m.plan in
        let near : h.from ≤ m.point.base = omega (arith, plan.point_is.further) in
        let good : IsGoodShape h.shape = subst IsGoodShape plan.point_is.shape_is plan.point_is.valid.good in
        record {
          plan = planned m.entries m.point plan;
          unborn = m.was_unborn;
          text_is = m.text_is;
          held = λ knows image left. holds_entries law (header_past h m.point) (entries_past_base h m.entries m.point) image (rest_lawful m.entries m.point plan) (rest_sound m.entries m.point plan) (m.held knows image left);
          restarts = λ knows. (copies h.shape h.from m.entries m.point points.before.seen good plan.found.lawful plan.found.sound (plan.point_is.shape_is, plan.point_is.valid) near plan.point_is.within (held_so h.shape (h.from + length m.entries) points.before.seen m.point (plan.point_is.saved (log_of knows)))).read;
          whole = whole_of m.entries m.point plan;
        }

    made_texts : (text : Result V Status) → IfOk text (IsMade items log.tells h bodies points spare) → IfOk text (λ v. IsCopied log points spare (items v) × ⊤)
    made_texts (Ok v) m = (copied_of v m, tt)
    made_texts (Err e) m = tt

    -- a beginning of the copy is one that is recovered
    some_of : (entries : List EntryKind) (point : Checkpoint) → IsPlan log.tells h bodies points.before.seen entries point → (image : List ℕ) → IsPartlyCopied (header_past h point) (entries_past_base h entries point) image
        → HoldsNothing image ⊎ HoldsSome (header_past h point) (entries_past_base h entries point) image
    some_of entries point plan image (inl none) = inl none
    some_of entries point plan image (inr (n, holds)) =
        inr (n, holds_entries law (header_past h point) (take n (entries_past_base h entries point)) image (lawful_part (header_past h point) n (entries_past_base h entries point) (rest_lawful entries point plan)) (sound_first h.shape.version n (entries_past_base h entries point) (rest_sound entries point plan)) holds)

    spare_called : IsTried log.tells h bodies points spare → IsSpareCalled log points spare
    unfolding planned
    spare_called t = record {
      plan = planned t.entries t.point t.plan;
      in_use = t.in_use;
      unborn = λ is knows rest image crash. some_of t.entries t.point t.plan image (t.unborn is knows rest image crash);
    }

    device_fails : (lf lf_now : ℕ) → (Rose lf lf_now → HasFailed log) → (one : Which) → OneFails lf lf_now points spare one → JobDeviceFails (meaning compacts) log points spare one
    device_fails lf lf_now rose which.Log failed = rose failed
    device_fails lf lf_now rose which.Points failed = (refl, failed)
    device_fails lf lf_now rose which.Spare failed = (refl, failed)

    cause_of : (lf lf_now : ℕ) → (Rose lf lf_now → HasFailed log) → (s : Status) → IsFault (λ line why. ⊥) (λ x. IsTrue log.tells → copy_refused (decoded_log (Some h) bodies) points.before.seen spare.before.seen ≡ Some x) ⊥ (OneFails lf lf_now points spare) s
        → IsCause (meaning compacts) told faults faults log points spare s
    cause_of lf lf_now rose s is =
        fault_by (λ line why. ⊥) (λ x. IsTrue log.tells → copy_refused (decoded_log (Some h) bodies) points.before.seen spare.before.seen ≡ Some x) ⊥ (OneFails lf lf_now points spare)
        (λ line why. ⊥) ((meaning compacts).log_refused told log points spare) (SourceFails false faults faults) (JobDeviceFails (meaning compacts) log points spare)
        (λ n why never. never) (λ x kind bad knows. ap (λ o. copy_refused o points.before.seen spare.before.seen) (ap decoded_held (opened_log log.before.seen _ (opens knows))) ∙ bad knows) (λ never. absurd never) (device_fails lf lf_now rose) s is

    pub compacted_done : (lf lf_now : ℕ) → (Rose lf lf_now → HasFailed log) → (text : Result V Status) (acked : ℕ) → IsCopyOf items log.tells h bodies lf lf_now points spare text → acked ≡ h.from + length bodies → LeavesLog log (opened h bodies) None → IsOnlyRead points
        → IsDone items (meaning compacts) told faults faults log points spare text acked
    compacted_done lf lf_now rose text acked c counts left read = record {
      fate = opened h bodies;
      start = None;
      is = made_texts text c.made;
      cause = IfErr-weaker text _ _ (cause_of lf lf_now rose) c.cause;
      comes_first = c.comes_first;
      may_leave = λ knows. born_log log.before.seen _ (opens knows);
      log_left = left;
      acked_is = counts;
      point_left = (read, λ unasked. absurd (true≢false unasked));
      unused = λ unasked save. absurd (true≢false unasked);
      spare_left = ⊎_elim (λ same. inl same) (λ t. inr (spare_called t)) c.spare_left;
      comes_before_spare = c.comes_before_spare;
    }

-- ---- a log that is not opened

module _ {V : Type 0} (items : V → Text) (log points spare : Over) (told : Option Text) (faults : ℕ) where
  unopened_cause : (error : OpenError) → (IsTrue log.tells → OpenRefuses error (outcome None log.before.seen)) → MayRefuse None error → (error ≡ opening.Device → HasFailed log)
      → IsCause (meaning compacts) told faults faults log points spare (unopened_fault error) × Fits only_point true (unopened_fault error) points unopened
  unopened_cause opening.Memory refuses may rose = (tt, tt)
  unopened_cause opening.Device refuses may rose = (rose refl, tt)
  unopened_cause (opening.BadPage bad) refuses may rose = (λ knows. ap (λ o. copy_refused o points.before.seen spare.before.seen) (ap decoded_held (bad_page log.before.seen bad (refuses knows))), refl)
  unopened_cause (opening.Config field held asked) refuses may rose = absurd (true≢false (sym may))
  unopened_cause opening.Unborn refuses may rose = (λ knows. ap (λ o. copy_refused o points.before.seen spare.before.seen) (ap decoded_held (no_log log.before.seen (refuses knows))), inl refl)

  pub uncopied_done : (error : OpenError) (text : Result V Status) → text ≡ Err (unopened_fault error) → (IsTrue log.tells → OpenRefuses error (outcome None log.before.seen)) → MayRefuse None error → (error ≡ opening.Device → HasFailed log)
      → LeavesUnborn log unopened → LeavesLog log unopened None → points.uncalled → spare.uncalled → IsDone items (meaning compacts) told faults faults log points spare text 0
  uncopied_done error text is refuses may rose unborn left point_same spare_same =
      let why = unopened_cause error refuses may rose in
      record {
        fate = unopened;
        start = None;
        is = subst (λ t. IfOk t (λ v. (meaning compacts).text told log points spare unopened None (items v))) (sym is) tt;
        cause = subst (λ t. IfErr t (IsCause (meaning compacts) told faults faults log points spare)) (sym is) why.0;
        comes_first = subst (λ t. IfErr t (λ s. Fits only_point true s points unopened)) (sym is) why.1;
        may_leave = unborn;
        log_left = left;
        acked_is = refl;
        point_left = point_same;
        unused = λ unasked save. point_same;
        spare_left = inl spare_same;
        comes_before_spare = spare_apart spare text spare_same;
      }
