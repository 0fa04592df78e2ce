-- What an append tells: the entry is what the client's program left, which ended by it.
use Rattle.std.proofs.Common.{◌≡◌, ◌∙◌, ℕ, zero, suc, ◌+◌, ◌<◌, ◌≤◌, Bool, true, false, List, [], ◌∷◌, ◌++◌, length, take, refl, sym, ap, subst, arith, add-one, length-append}
use mathlib.Core.Bool.{true≢false}
use Rattle.std.proofs.lemmas.Bool.{eq-eqb}
use Rattle.std.specs.Prelude.{Option, Some, None, ⊤, ◌==◌, ◌&&◌, not, nat_lt, is_some, option_map, option_and_then, slice_get, if◌then◌else◌}
use Rattle.std.specs.Option.{option_map_or}
use Rattle.std.specs.List.{AllByRecursion, enumerate_from, filter_map, cons_option}
use Rattle.hy_base.specs.declared.record.EntryKind.{EntryKind}
use Rattle.hy_base.specs.declared.record.EntryKind.TheVariants.{Filler, Txn}
use Rattle.hy_base.specs.declared.record.Intention.{Intention}
use Rattle.hy_base.specs.declared.workload.ArmedStop.{ArmedStop}
use Rattle.hy_base.specs.declared.workload.Phase.{Phase}
use Rattle.hy_base.specs.declared.workload.Phase.TheVariants.{Idle, Begun}
use Rattle.hy_base.specs.declared.workload.Program.{Program}
use Rattle.hy_base.specs.declared.workload.Session.{Session}
use Rattle.hy_base.specs.Lists.{nth}
use Rattle.hy_base.specs.Script.{Workload}
use Rattle.hy_base.proofs.ListLemmas.{all_map}
use Rattle.hy_base.proofs.NthLemmas.{all_nth}
use Rattle.hy_rules.specs.Exec.{Effects, exec, intention}
use Rattle.hy_rules.specs.Moves.{State, is_begun, is_kept, surviving, home_server}
use Rattle.hy_rules.specs.Runs.{setting_of, program_of, snap_of, leaves_write, begun_snap, own_entry, Ending, ByReading, ByEntryAt, ByFull, ByStop, ByPast, ByNotYet, Ended, ended, lost_by_stop, ended_by_append}
use Rattle.hy_rules.specs.Validation.{live}
use Rattle.hy_rules.proofs.Growth.{live_grows}
use Rattle.hy_serial_laws.proofs.Snapshots.{IsSnap, PhaseSnap, HasSnaps}
use Rattle.hy_serial_laws.proofs.Told.{IsLeftByProgram, ReadTold, EndingTold, Told, appended_at, within_log}

-- ---- programs that ended without an entry

-- an ending without an entry; of one by reading the snapshot and the program are known
abbrev pub QuietEnding : Workload → ℕ → Ended → Ending → Type 0
QuietEnding script len e ByReading = ReadTold script len e
QuietEnding script len e (ByEntryAt pos) = ⊥
QuietEnding script len e ByFull = ⊤
QuietEnding script len e ByStop = ⊤
QuietEnding script len e (ByPast from) = ⊤
QuietEnding script len e (ByNotYet board) = ⊤

abbrev pub AreQuiet : Workload → ℕ → List Ended → Type 0
AreQuiet script len done = AllByRecursion (λ e. QuietEnding script len e e.ending) done

pub quiet_told : (script : Workload) (log : List EntryKind) (start : ℕ) (done : List Ended) (e : Ended) (ending : Ending) → QuietEnding script (length log) e ending → EndingTold script log start done e ending
quiet_told script log start done e ByReading h = h
quiet_told script log start done e (ByEntryAt pos) h = absurd h
quiet_told script log start done e ByFull h = tt
quiet_told script log start done e ByStop h = tt
quiet_told script log start done e (ByPast from) h = tt
quiet_told script log start done e (ByNotYet board) h = tt

either_quiet : (script : Workload) (len : ℕ) (b : Bool) (e : Ended) (done : List Ended) → QuietEnding script len e e.ending → AreQuiet script len done → AreQuiet script len (cons_option (if b then Some e else None) done)
either_quiet script len true e done h all = (h, all)
either_quiet script len false e done h all = all

lost_from_quiet : (script : Workload) (len : ℕ) (s : State) (kept n : ℕ) (xs : List Session)
    → AreQuiet script len (filter_map (λ p. if is_begun p.1.phase && not (p.0 == kept) then Some (record { client = p.0; number = p.1.next; snap = begun_snap s p.0; ending = ByStop }) else None) (enumerate_from n xs))
lost_from_quiet script len s kept n [] = tt
lost_from_quiet script len s kept n (x ∷ xs) =
    either_quiet script len (is_begun x.phase && not (n == kept)) (record { client = n; number = x.next; snap = begun_snap s n; ending = ByStop }) _ tt (lost_from_quiet script len s kept (n + 1) xs)

pub lost_quiet : (script : Workload) (len : ℕ) (s : State) (kept : ℕ) → AreQuiet script len (lost_by_stop s kept)
lost_quiet script len s kept = lost_from_quiet script len s kept 1 s.sessions

abbrev pub IsFiller : EntryKind → Type 0
IsFiller (Filler server) = ⊤
IsFiller (Txn i) = ⊥

filler_at : (log more : List EntryKind) (k : ℕ) (i : Intention) → length log ≤ k → AllByRecursion IsFiller more → slice_get (log ++ more) k ≡ Some (Txn i) → ⊥
filler_at [] [] k i le a e = cc
filler_at [] (Filler server ∷ more) zero i le a e = cc
filler_at [] (Txn j ∷ more) zero i le a e = a.0
filler_at [] (x ∷ more) (suc k) i le a e = filler_at [] more k i (omega arith) a.1 e
filler_at (x ∷ log) more zero i le a e = omega (arith, le)
filler_at (x ∷ log) more (suc k) i le a e = filler_at log more k i (omega (arith, le)) a e

no_program : (log more : List EntryKind) (pos : ℕ) (i : Intention) → length log < pos → AllByRecursion IsFiller more → nth (log ++ more) pos ≡ Some (Txn i) → ⊥
no_program log more zero i past a e = cc
no_program log more (suc k) i past a e = filler_at log more k i (omega (arith, past)) a e

-- an event that adds at most fillers, and ends programs without entries
pub told_quiet : (script : Workload) (log more : List EntryKind) (done : List Ended) → AllByRecursion IsFiller more → AreQuiet script (length (log ++ more)) done → Told script (log ++ more) (length log) done
told_quiet script log more done fillers quiet = record {
  each = all_map (λ e. QuietEnding script (length (log ++ more)) e e.ending) (λ e. EndingTold script (log ++ more) (length log) done e e.ending)
      (λ e h. quiet_told script (log ++ more) (length log) done e e.ending h) done quiet;
  all = λ pos i past at. absurd (no_program log more pos i past fillers at);
}

-- ---- a program that appends

record IsBegun (script : Workload) (s : State) (client : ℕ) : Type 0 where
  session : Session
  snap : ℕ
  program : Program
  at : nth s.sessions client ≡ Some session
  phase : session.phase ≡ Begun snap
  is : program_of script client session.next ≡ Some program

program_case : (script : Workload) (s : State) (client : ℕ) (x : Session) (snap : ℕ) (o : Option Program) → nth s.sessions client ≡ Some x → x.phase ≡ Begun snap → program_of script client x.next ≡ o
    → option_map_or (λ effects. nat_lt 0 (length effects.writes)) (option_map (λ done. done.1) (option_map (λ p. exec p (live script.shape s.log snap)) o)) false ≡ true → IsBegun script s client
program_case script s client x snap None at phase is h = absurd (true≢false (sym h))
program_case script s client x snap (Some p) at phase is h = record { session = x; snap = snap; program = p; at = at; phase = phase; is = is }

phase_case : (script : Workload) (s : State) (client : ℕ) (x : Session) (phase : Phase) → nth s.sessions client ≡ Some x → x.phase ≡ phase
    → option_map_or (λ effects. nat_lt 0 (length effects.writes))
    (option_and_then (λ snap. option_map (λ done. done.1) (option_map (λ p. exec p (live script.shape s.log snap)) (program_of script client x.next))) (snap_of phase)) false ≡ true → IsBegun script s client
phase_case script s client x Idle at is h = absurd (true≢false (sym h))
phase_case script s client x (Begun snap) at is h = program_case script s client x snap (program_of script client x.next) at is refl h

session_case : (script : Workload) (s : State) (client : ℕ) (o : Option Session) → nth s.sessions client ≡ o
    → option_map_or (λ effects. nat_lt 0 (length effects.writes))
    (option_and_then (λ session. option_and_then (λ snap. option_map (λ done. done.1) (option_map (λ p. exec p (live script.shape s.log snap)) (program_of script client session.next))) (snap_of session.phase)) o) false ≡ true
    → IsBegun script s client
session_case script s client None at h = absurd (true≢false (sym h))
session_case script s client (Some x) at h = phase_case script s client x x.phase at refl h

begun : (script : Workload) (s : State) (client : ℕ) → leaves_write script s client ≡ true → IsBegun script s client
begun script s client h = session_case script s client (nth s.sessions client) refl h

its_entry : (script : Workload) (s : State) (client : ℕ) (x : Session) (snap : ℕ) (program : Program) → nth s.sessions client ≡ Some x → x.phase ≡ Begun snap → program_of script client x.next ≡ Some program
    → own_entry script s client ≡ Txn (intention (home_server (setting_of script) client) client snap (exec program (live script.shape s.log snap)).1) ∷ []
its_entry script s client x snap program at phase is = rw (at, phase, is) refl

its_end : (s : State) (client : ℕ) (x : Session) (snap : ℕ) (ending : Ending) → nth s.sessions client ≡ Some x → x.phase ≡ Begun snap → ended s client ending ≡ record { client = client; number = x.next; snap = snap; ending = ending } ∷ []
its_end s client x snap ending at phase = rw (at, phase) refl

module _ (script : Workload) (s : State) (client : ℕ) (b : IsBegun script s client) (snaps : HasSnaps script.shape.group s) where
  abbrev server : ℕ
  server = home_server (setting_of script) client

  abbrev effects : Effects
  effects = (exec b.program (live script.shape s.log b.snap)).1

  abbrev entry : EntryKind
  entry = Txn (intention server client b.snap effects)

  abbrev now : Ended
  now = record { client = client; number = b.session.next; snap = b.snap; ending = ByEntryAt (length s.log + 1) }

  entry_is : own_entry script s client ≡ entry ∷ []
  entry_is = its_entry script s client b.session b.snap b.program b.at b.phase b.is

  ended_is : ended s client (ByEntryAt (length s.log + 1)) ≡ now ∷ []
  ended_is = its_end s client b.session b.snap (ByEntryAt (length s.log + 1)) b.at b.phase

  is_snap : IsSnap script.shape.group (length s.log) b.snap
  is_snap = let phase : PhaseSnap script.shape.group (length s.log) b.session.phase = all_nth (λ x. PhaseSnap script.shape.group (length s.log) x.phase) s.sessions client b.session snaps.sessions b.at in subst (PhaseSnap script.shape.group (length s.log)) b.phase phase

  last_get : (log : List EntryKind) (e : EntryKind) → slice_get (log ++ e ∷ []) (length log) ≡ Some e
  last_get [] e = refl
  last_get (x ∷ log) e = last_get log e

  last_at : (log : List EntryKind) (e : EntryKind) → nth (log ++ e ∷ []) (length log + 1) ≡ Some e
  last_at log e = rw add-one (last_get log e)

  own : IsLeftByProgram script (s.log ++ entry ∷ []) now (length s.log + 1)
  own = record {
    program = b.program;
    server = server;
    is = b.is;
    whole = is_snap.whole;
    below = omega (arith, is_snap.within);
    entry = last_at s.log entry ∙ ap (λ pairs. Some (Txn (intention server client b.snap (exec b.program pairs).1))) (sym (live_grows script.shape s.log (entry ∷ []) b.snap is_snap.within));
  }

  found_first : (rest : List Ended) → appended_at (length s.log + 1) (now ∷ rest) ≡ Some now
  found_first rest = rw (eq-eqb (length s.log + 1) (length s.log + 1) refl) refl

  -- the entry stands, and the programs that end besides do so without one
  told_entry : (lost : List Ended) → AreQuiet script (length (s.log ++ entry ∷ [])) lost → Told script (s.log ++ entry ∷ []) (length s.log) (now ∷ lost)
  told_entry lost quiet = record {
    each = (
      record { late = omega arith; found = found_first lost; own = own },
      all_map (λ e. QuietEnding script (length (s.log ++ entry ∷ [])) e e.ending) (λ e. EndingTold script (s.log ++ entry ∷ []) (length s.log) (now ∷ lost) e e.ending)
          (λ e h. quiet_told script (s.log ++ entry ∷ []) (length s.log) (now ∷ lost) e e.ending h) lost quiet,
    );
    all = λ pos i past at.
        let place : pos ≤ length (s.log ++ entry ∷ []) = within_log (s.log ++ entry ∷ []) pos (Txn i) at in
        let same : length s.log + 1 ≡ pos = omega (arith, past, place, length-append s.log (entry ∷ [])) in
        subst (λ k. is_some (appended_at k (now ∷ lost)) ≡ true) same (ap is_some (found_first lost));
  }

  kept_told : (kept : Bool) → Told script (s.log ++ take (if kept then 1 else 0) (entry ∷ [])) (length s.log) (if kept then (now ∷ []) ++ lost_by_stop s client else lost_by_stop s 0)
  kept_told true = told_entry (lost_by_stop s client) (lost_quiet script (length (s.log ++ entry ∷ [])) s client)
  kept_told false = told_quiet script s.log [] (lost_by_stop s 0) tt (lost_quiet script (length (s.log ++ [])) s 0)

  stop_told : (o : Option ArmedStop) → Told script (s.log ++ take (surviving o 1) (entry ∷ [])) (length s.log) (ended_by_append o s client)
  stop_told None = subst (Told script (s.log ++ entry ∷ []) (length s.log)) (sym ended_is) (told_entry [] tt)
  stop_told (Some stop) =
      subst (λ own. Told script (s.log ++ take (if is_kept stop then 1 else 0) (entry ∷ [])) (length s.log) (if is_kept stop then own ++ lost_by_stop s client else lost_by_stop s 0)) (sym ended_is) (kept_told (is_kept stop))

  told_append : Told script (s.log ++ take (surviving s.armed 1) (own_entry script s client)) (length s.log) (ended_by_append s.armed s client)
  told_append = subst (λ es. Told script (s.log ++ take (surviving s.armed 1) es) (length s.log) (ended_by_append s.armed s client)) (sym entry_is) (stop_told s.armed)

pub append_told : (script : Workload) (s : State) (client : ℕ) → leaves_write script s client ≡ true → HasSnaps script.shape.group s
    → Told script (s.log ++ take (surviving s.armed 1) (own_entry script s client)) (length s.log) (ended_by_append s.armed s client)
append_told script s client h snaps = told_append script s client (begun script s client h) snaps
