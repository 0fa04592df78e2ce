-- The programs that a run ends, and the entries of its log past the start: each is told by the other.
use Rattle.std.proofs.Common.{◌≡◌, ◌∙◌, ℕ, zero, suc, ◌%◌, ◌<◌, ◌≤◌, Bool, true, false, cond, List, [], ◌∷◌, ◌++◌, length, refl, sym, ap, arith, inl, inr, length-append}
use mathlib.Core.Bool.{true≢false}
use Rattle.std.proofs.lemmas.Bool.{cases_lt, ne_eqb}
use Rattle.std.proofs.lemmas.Option.{slice_get_within}
use Rattle.std.specs.Prelude.{Option, Some, ⊤, is_some, find, slice_get}
use Rattle.std.specs.List.{AllByRecursion}
use Rattle.hy_base.specs.declared.record.EntryKind.{EntryKind}
use Rattle.hy_base.specs.declared.record.EntryKind.TheVariants.{Txn}
use Rattle.hy_base.specs.declared.record.Intention.{Intention}
use Rattle.hy_base.specs.declared.workload.Program.{Program}
use Rattle.hy_base.specs.Lists.{nth}
use Rattle.hy_base.specs.Script.{Workload}
use Rattle.hy_base.proofs.ListLemmas.{all_map, all_append, slice_get_append_left}
use Rattle.hy_rules.specs.Exec.{exec, intention}
use Rattle.hy_rules.specs.Runs.{program_of, Ending, ByReading, ByEntryAt, ByFull, ByStop, ByPast, ByNotYet, Ended}
use Rattle.hy_rules.specs.Validation.{live}
use Rattle.hy_rules.proofs.Growth.{live_grows}
use Rattle.hy_rules.specs.Serial.{is_entry_at}
use Rattle.hy_serial_laws.proofs.Snapshots.{IsSnap}

-- the program whose entry stands at a position
abbrev pub appended_at : ℕ → List Ended → Option Ended
appended_at pos done = find (λ e. is_entry_at pos e.ending) done

-- the entry at a position is what the program left, which ran on its snapshot
pub record IsLeftByProgram (script : Workload) (log : List EntryKind) (e : Ended) (pos : ℕ) : Type 0 where
  pub program : Program
  pub server : ℕ
  pub is : program_of script e.client e.number ≡ Some program
  pub whole : e.snap % script.shape.group ≡ 0
  pub below : e.snap < pos
  pub entry : nth log pos ≡ Some (Txn (intention server e.client e.snap (exec program (live script.shape log e.snap)).1))

pub record EntryTold (script : Workload) (log : List EntryKind) (start : ℕ) (done : List Ended) (e : Ended) (pos : ℕ) : Type 0 where
  pub late : start < pos
  pub found : appended_at pos done ≡ Some e
  pub own : IsLeftByProgram script log e pos

-- a program that only read ran on its snapshot
pub record ReadTold (script : Workload) (len : ℕ) (e : Ended) : Type 0 where
  pub snap : IsSnap script.shape.group len e.snap
  pub program : is_some (program_of script e.client e.number) ≡ true

abbrev pub EndingTold : Workload → List EntryKind → ℕ → List Ended → Ended → Ending → Type 0
EndingTold script log start done e ByReading = ReadTold script (length log) e
EndingTold script log start done e (ByEntryAt pos) = EntryTold script log start done e pos
EndingTold script log start done e ByFull = ⊤
EndingTold script log start done e ByStop = ⊤
EndingTold script log start done e (ByPast from) = ⊤
EndingTold script log start done e (ByNotYet board) = ⊤

-- of the log past a position: each entry of a program is that of one that ended by it, and each transaction has one
pub record Told (script : Workload) (log : List EntryKind) (start : ℕ) (done : List Ended) : Type 0 where
  pub each : AllByRecursion (λ e. EndingTold script log start done e e.ending) done
  pub all : (pos : ℕ) (i : Intention) → start < pos → nth log pos ≡ Some (Txn i) → is_some (appended_at pos done) ≡ true

-- ---- lists

get_more : {X : Type 0} (xs more : List X) (k : ℕ) (x : X) → slice_get xs k ≡ Some x → slice_get (xs ++ more) k ≡ Some x
get_more [] more k x e = absurd (cc)
get_more (y ∷ xs) more zero x e = e
get_more (y ∷ xs) more (suc k) x e = get_more xs more k x e

nth_more : (log more : List EntryKind) (pos : ℕ) (x : EntryKind) → nth log pos ≡ Some x → nth (log ++ more) pos ≡ Some x
nth_more log more zero x e = absurd (cc)
nth_more log more (suc k) x e = get_more log more k x e

pub nth_within : (log more : List EntryKind) (pos : ℕ) → pos ≤ length log → nth (log ++ more) pos ≡ nth log pos
nth_within log more zero le = refl
nth_within log more (suc k) le = slice_get_append_left log more k (omega (arith, le))

pub within_log : (log : List EntryKind) (pos : ℕ) (x : EntryKind) → nth log pos ≡ Some x → pos ≤ length log
within_log log zero x e = omega arith
within_log log (suc k) x e = let lt : k < length log = slice_get_within log k x e in omega (arith, lt)

found_left_case : (q : Ended → Bool) (x : Ended) (xs ys : List Ended) (e : Ended) (b : Bool) → cond b (Some x) (find q xs) ≡ Some e → (find q xs ≡ Some e → find q (xs ++ ys) ≡ Some e) → cond b (Some x) (find q (xs ++ ys)) ≡ Some e
found_left_case q x xs ys e true h rest = h
found_left_case q x xs ys e false h rest = rest h

found_left : (q : Ended → Bool) (xs ys : List Ended) (e : Ended) → find q xs ≡ Some e → find q (xs ++ ys) ≡ Some e
found_left q [] ys e h = absurd (cc)
found_left q (x ∷ xs) ys e h = found_left_case q x xs ys e (q x) h (found_left q xs ys e)

left_some_case : (x : Ended) (o p : Option Ended) (b : Bool) → is_some (cond b (Some x) o) ≡ true → (is_some o ≡ true → is_some p ≡ true) → is_some (cond b (Some x) p) ≡ true
left_some_case x o p true h rest = refl
left_some_case x o p false h rest = rest h

left_some : (q : Ended → Bool) (xs ys : List Ended) → is_some (find q xs) ≡ true → is_some (find q (xs ++ ys)) ≡ true
left_some q [] ys h = absurd (true≢false (sym h))
left_some q (x ∷ xs) ys h = left_some_case x (find q xs) (find q (xs ++ ys)) (q x) h (left_some q xs ys)

right_some_case : (x : Ended) (o : Option Ended) (b : Bool) → is_some o ≡ true → is_some (cond b (Some x) o) ≡ true
right_some_case x o true h = refl
right_some_case x o false h = h

right_some : (q : Ended → Bool) (xs ys : List Ended) → is_some (find q ys) ≡ true → is_some (find q (xs ++ ys)) ≡ true
right_some q [] ys h = h
right_some q (x ∷ xs) ys h = right_some_case x (find q (xs ++ ys)) (q x) (right_some q xs ys h)

-- nothing is found among items that all fail
passed_over : (q : Ended → Bool) (xs ys : List Ended) → AllByRecursion (λ e. q e ≡ false) xs → find q (xs ++ ys) ≡ find q ys
passed_over q [] ys a = refl
passed_over q (x ∷ xs) ys a = rw a.0 (passed_over q xs ys a.1)

-- ---- a log that grows

own_longer : (script : Workload) (log more : List EntryKind) (e : Ended) (pos : ℕ) → IsLeftByProgram script log e pos → IsLeftByProgram script (log ++ more) e pos
own_longer script log more e pos h =
    let place : pos ≤ length log = within_log log pos _ h.entry in
    let same : live script.shape log e.snap ≡ live script.shape (log ++ more) e.snap = sym (live_grows script.shape log more e.snap (omega (arith, h.below, place))) in
    record {
      program = h.program;
      server = h.server;
      is = h.is;
      whole = h.whole;
      below = h.below;
      entry = nth_more log more pos _ h.entry ∙ ap (λ pairs. Some (Txn (intention h.server e.client e.snap (exec h.program pairs).1))) same;
    }

early_entry : (script : Workload) (log : List EntryKind) (start pos : ℕ) (done : List Ended) (e : Ended) (ending : Ending) → length log < pos → EndingTold script log start done e ending → is_entry_at pos ending ≡ false
early_entry script log start pos done e ByReading past h = refl
early_entry script log start pos done e (ByEntryAt at) past h = let place : at ≤ length log = within_log log at _ h.own.entry in ne_eqb at pos (λ same. omega (arith, same, place, past))
early_entry script log start pos done e ByFull past h = refl
early_entry script log start pos done e ByStop past h = refl
early_entry script log start pos done e (ByPast from) past h = refl
early_entry script log start pos done e (ByNotYet board) past h = refl

front_stays : (script : Workload) (log more : List EntryKind) (start : ℕ) (front done : List Ended) (e : Ended) (ending : Ending) → EndingTold script log start front e ending → EndingTold script (log ++ more) start (front ++ done) e ending
front_stays script log more start front done e ByReading h =
    let within : e.snap ≤ length log = h.snap.within in
    record { snap = record { whole = h.snap.whole; within = omega (arith, within, length-append log more) }; program = h.program }
front_stays script log more start front done e (ByEntryAt pos) h =
    record { late = h.late; found = found_left (λ d. is_entry_at pos d.ending) front done e h.found; own = own_longer script log more e pos h.own }
front_stays script log more start front done e ByFull h = tt
front_stays script log more start front done e ByStop h = tt
front_stays script log more start front done e (ByPast from) h = tt
front_stays script log more start front done e (ByNotYet board) h = tt

back_stays : (script : Workload) (log : List EntryKind) (start mid : ℕ) (front done : List Ended) (e : Ended) (ending : Ending) → start ≤ mid → ((pos : ℕ) → mid < pos → AllByRecursion (λ d. is_entry_at pos d.ending ≡ false) front)
    → EndingTold script log mid done e ending → EndingTold script log start (front ++ done) e ending
back_stays script log start mid front done e ByReading le early h = h
back_stays script log start mid front done e (ByEntryAt pos) le early h =
    record { late = omega (arith, le, h.late); found = passed_over (λ d. is_entry_at pos d.ending) front done (early pos h.late) ∙ h.found; own = h.own }
back_stays script log start mid front done e ByFull le early h = tt
back_stays script log start mid front done e ByStop le early h = tt
back_stays script log start mid front done e (ByPast from) le early h = tt
back_stays script log start mid front done e (ByNotYet board) le early h = tt

-- what is told of a part of the log, and of the rest of it
pub told_both : (script : Workload) (log more : List EntryKind) (start : ℕ) (front done : List Ended) → start ≤ length log → Told script log start front → Told script (log ++ more) (length log) done → Told script (log ++ more) start (front ++ done)
told_both script log more start front done le a b =
    let early : (pos : ℕ) → length log < pos → AllByRecursion (λ d. is_entry_at pos d.ending ≡ false) front = λ pos past.
    all_map (λ d. EndingTold script log start front d d.ending) (λ d. is_entry_at pos d.ending ≡ false) (λ d h. early_entry script log start pos front d d.ending past h) front a.each in
    record {
      each = all_append (λ e. EndingTold script (log ++ more) start (front ++ done) e e.ending) front done
          (all_map (λ e. EndingTold script log start front e e.ending) (λ e. EndingTold script (log ++ more) start (front ++ done) e e.ending) (λ e h. front_stays script log more start front done e e.ending h) front a.each)
          (all_map (λ e. EndingTold script (log ++ more) (length log) done e e.ending) (λ e. EndingTold script (log ++ more) start (front ++ done) e e.ending)
          (λ e h. back_stays script (log ++ more) start (length log) front done e e.ending le early h) done b.each);
      all = λ pos i past at. elim (cases_lt (length log) pos) [
        | inl lt ↦ right_some (λ d. is_entry_at pos d.ending) front done (b.all pos i lt at)
        | inr ge ↦ left_some (λ d. is_entry_at pos d.ending) front done (a.all pos i past (sym (nth_within log more pos ge) ∙ at))
      ];
    }
