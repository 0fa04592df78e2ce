-- Moves with other first entries, and serial execution past a base.
use Rattle.std.proofs.Common.{◌≡◌, inl, inr, ℕ, zero, suc, ◌+◌, ◌-◌, ◌<◌, ◌≤◌, Bool, true, false, List, [], length, refl, sym, ap, subst, ◌∙◌, arith}
use Rattle.std.specs.Prelude.{Option, Some, None, option_map, option_and_then, nat_le, nat_lt, if◌then◌else◌}
use Rattle.std.specs.Option.{option_map_or}
use Rattle.std.proofs.lemmas.Bool.{cases_lt, cond-true, cond-false, le-leb, lt-ltb, le-ltb, ltb-true}
use Rattle.hy_base.specs.declared.record.Isolation.{Isolation}
use Rattle.hy_base.specs.declared.record.Isolation.TheVariants.{Serializable, Snapshot}
use Rattle.hy_base.specs.declared.report.Answer.{Answer}
use Rattle.hy_base.specs.declared.report.Pair.{Pair}
use Rattle.hy_base.specs.declared.workload.Program.{Program}
use Rattle.hy_base.specs.Lists.{nth}
use Rattle.hy_rules.specs.Exec.{Effects, after_writes, exec}
use Rattle.hy_rules.specs.Runs.{program_of, Ended}
use Rattle.hy_rules.specs.Serial.{SerialRun, appender, is_committed, reads_after, recorded, rerun, serial_map, serial_maps, serial_run, serial_step, serial_writes}
use Rattle.hy_rules.specs.Validation.{live}
use Rattle.hy_rules.proofs.Swapped.{move_swapped}
use Rattle.hy_cut_laws.specs.CutRuns.{MovesAreBlind, ReadsOlder, serial_maps_past, serial_map_past, SerialFromBase, SerialFromFound}
use Rattle.hy_cut_laws.proofs.Begun.{begun_past, found_stays}

pub moves_are_blind : MovesAreBlind
moves_are_blind w before s s' event added within move = move_swapped w before s s' event added within move

-- ---- the maps of the whole log

above : (a b : ℕ) → b < a → nat_le a b ≡ false
above a b more = grind (arith, more)

-- no map was made yet that is later than the last
settled : (r : SerialRun) (n k : ℕ) → n ≤ k → serial_maps r n k ≡ serial_map r n
settled r zero k le = refl
settled r (suc n) k le =
    cond-false (nat_le k n) (serial_maps r n k) (serial_step r n (serial_maps r n)) (above k n (omega (arith, le)))
    ∙ sym (cond-false (nat_le (suc n) n) (serial_maps r n (suc n)) (serial_step r n (serial_maps r n)) (above (suc n) n (omega arith)))

-- a map stays
kept : (r : SerialRun) (n k : ℕ) → k ≤ n → serial_maps r n k ≡ serial_map r k
kept r zero k le = let same : k ≡ 0 = omega (arith, le) in settled r zero k (omega arith) ∙ ap (serial_map r) (sym same)
kept r (suc n) k le = elim (cases_lt n k) [
  | inl past ↦ let same : suc n ≡ k = omega (arith, le, past) in settled r (suc n) k (omega (arith, past)) ∙ ap (serial_map r) same
  | inr low ↦ cond-true (nat_le k n) (serial_maps r n k) (serial_step r n (serial_maps r n)) (le-leb k n low) ∙ kept r n k low
]

-- ---- past a base

module _ (r : SerialRun) (base : ℕ) (older : ℕ → List Pair) (pairs : List Pair) (begins : pairs ≡ serial_map r base) (told : (snap : ℕ) → ReadsOlder r base snap → older snap ≡ serial_map r snap) where
  abbrev past : ℕ → ℕ → List Pair
  past n = serial_maps_past r base older pairs n

  before_base : (n k : ℕ) → k < base → past n k ≡ older k
  before_base zero k less = cond-true (nat_lt k base) (older k) pairs (lt-ltb k base less)
  before_base (suc n) k less = cond-true (nat_le k (base + n)) (past n k) (serial_step r (base + n) (past n)) (le-leb k (base + n) (omega (arith, less))) ∙ before_base n k less

  abbrev AreSame : ℕ → Type 0
  AreSame n = (k : ℕ) → base ≤ k → past n k ≡ serial_maps r (base + n) k

  module _ (n : ℕ) (same : AreSame n) where
    abbrev at : ℕ
    at = base + n

    abbrev whole : ℕ → List Pair
    whole = serial_maps r (base + n)

    -- the map that a program reads
    read_same : (e : Ended) (p : Program) (isolation : Isolation) → p.isolation ≡ isolation → appender r (suc at) ≡ Some e → program_of r.workload e.client e.number ≡ Some p → is_committed r (suc at) ≡ true → r.found < suc at
        → past n (reads_after isolation e.snap at) ≡ whole (reads_after isolation e.snap at)
    read_same e p Serializable iso by is commit own = same at (omega arith)
    read_same e p Snapshot iso by is commit own = elim (cases_lt e.snap base) [
      | inl less ↦
          let reads : ReadsOlder r base e.snap = record { pos = suc at; late = omega arith; own = own; committed = commit; e = e; appended = by; snapshot = refl; before = less; program = p; is = is; isolation = iso } in
          before_base n e.snap less ∙ (told e.snap reads ∙ sym (kept r at e.snap (omega (arith, less))))
      | inr low ↦ same e.snap low
    ]

    abbrev rerun_on : (maps : ℕ → List Pair) → Option Ended → Option (List Answer × Effects)
    rerun_on maps o = option_and_then (λ e. option_map (λ program. exec program (maps (reads_after program.isolation e.snap at))) (program_of r.workload e.client e.number)) o

    program_same : (e : Ended) (q : Option Program) → appender r (suc at) ≡ Some e → program_of r.workload e.client e.number ≡ q → is_committed r (suc at) ≡ true → r.found < suc at
        → option_map (λ program. exec program (past n (reads_after program.isolation e.snap at))) q ≡ option_map (λ program. exec program (whole (reads_after program.isolation e.snap at))) q
    program_same e None by is commit own = refl
    program_same e (Some p) by is commit own = ap (λ map. Some (exec p map)) (read_same e p p.isolation refl by is commit own)

    rerun_same : (o : Option Ended) → appender r (suc at) ≡ o → is_committed r (suc at) ≡ true → r.found < suc at → rerun_on (past n) o ≡ rerun_on whole o
    rerun_same None by commit own = refl
    rerun_same (Some e) by commit own = program_same e (program_of r.workload e.client e.number) by refl commit own

    writes_case : (b c : Bool) → is_committed r (suc at) ≡ b → nat_lt r.found (suc at) ≡ c
        → (if b then if c then option_map_or (λ ran. ran.1.writes) (rerun r at (past n)) [] else option_map_or recorded (nth r.log (suc at)) [] else [])
        ≡ (if b then if c then option_map_or (λ ran. ran.1.writes) (rerun r at whole) [] else option_map_or recorded (nth r.log (suc at)) [] else [])
    writes_case false c commit own = refl
    writes_case true false commit own = refl
    writes_case true true commit own =
        ap (λ (o : Option (List Answer × Effects)). option_map_or (λ ran. ran.1.writes) o []) (rerun_same (appender r (suc at)) refl commit (ltb-true r.found (suc at) own))

    step_same : serial_step r at (past n) ≡ serial_step r at whole
    step_same =
        ap (λ (map : List Pair). after_writes map (serial_writes r at (past n))) (same at (omega arith))
        ∙ ap (after_writes (whole at)) (writes_case (is_committed r (suc at)) (nat_lt r.found (suc at)) refl refl)

    next_same : (k : ℕ) → base ≤ k → past (suc n) k ≡ serial_maps r (suc at) k
    next_same k le = elim (cases_lt at k) [
      | inl more ↦
          cond-false (nat_le k at) (past n k) (serial_step r at (past n)) (above k at more)
          ∙ (step_same ∙ sym (cond-false (nat_le k at) (whole k) (serial_step r at whole) (above k at more)))
      | inr low ↦
          cond-true (nat_le k at) (past n k) (serial_step r at (past n)) (le-leb k at low)
          ∙ (same k le ∙ sym (cond-true (nat_le k at) (whole k) (serial_step r at whole) (le-leb k at low)))
    ]

  all_same : (n : ℕ) → AreSame n
  all_same zero k le =
      let here : base ≡ base + 0 = omega arith in
      subst (λ m. past 0 k ≡ serial_maps r m k) here
      (cond-false (nat_lt k base) (older k) pairs (le-ltb k base le) ∙ (begins ∙ sym (settled r base k le)))
  all_same (suc n) k le =
      let here : suc (base + n) ≡ base + suc n = omega arith in
      subst (λ m. past (suc n) k ≡ serial_maps r m k) here (next_same n (all_same n) k le)

  pub map_same : (pos : ℕ) → base ≤ pos → serial_map_past r base older pairs pos ≡ serial_map r pos
  map_same pos le =
      let there : base + (pos - base) ≡ pos = omega (arith, le) in
      all_same (pos - base) pos le ∙ ap (λ m. serial_maps r m pos) there

pub serial_from_base : SerialFromBase
serial_from_base r base pos older serial ends within past told = map_same r base older (live r.workload.shape r.log base) (sym (serial.groups base ends within)) told pos past

pub serial_from_found : SerialFromFound
serial_from_found script found events end base pos older is leads serial ends within past =
    let r : SerialRun = serial_run script found events end in
    let fits : base ≤ length end.log = found_stays script found events end base is leads ends within in
    serial_from_base r base pos older serial ends fits past
    (λ snap reads. absurd (let low = begun_past script found events end base reads.pos reads.e is leads ends within reads.appended in let same = reads.snapshot in let less = reads.before in omega (arith, low, same, less)))
