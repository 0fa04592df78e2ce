-- A whole run is told: its ended programs by its log, and the log by them.
use Rattle.std.proofs.Common.{◌≡◌, ◌∙◌, ℕ, zero, suc, ◌≤◌, true, List, [], ◌++◌, length, refl, sym, ap, subst, arith, append_assoc, length-append}
use Rattle.std.proofs.lemmas.Bool.{and_parts}
use Rattle.std.proofs.lemmas.List.{append-nil}
use Rattle.std.proofs.Math.Nat.{zero-mod}
use Rattle.std.specs.Prelude.{Option, Some, None, is_some, map, option_map, option_to_list, replicate, unwrap_or, if◌then◌else◌}
use Rattle.std.specs.List.{AllByRecursion}
use Rattle.hy_base.specs.declared.record.EntryKind.{EntryKind}
use Rattle.hy_base.specs.declared.record.EntryKind.TheVariants.{Filler, Txn}
use Rattle.hy_base.specs.declared.workload.ArmedStop.{ArmedStop}
use Rattle.hy_base.specs.declared.workload.Event.{Event}
use Rattle.hy_base.specs.declared.workload.Event.TheVariants.{Begin, Append, End, Refuse, Pad, Publish, Stop}
use Rattle.hy_base.specs.declared.workload.Phase.{Phase}
use Rattle.hy_base.specs.declared.workload.Phase.TheVariants.{Idle, Begun}
use Rattle.hy_base.specs.declared.workload.Session.{Session}
use Rattle.hy_base.specs.Lists.{nth}
use Rattle.hy_base.specs.Script.{Workload, IsScript, AskForGroups, home_of}
use Rattle.hy_base.proofs.NthLemmas.{all_nth}
use Rattle.hy_rules.specs.Moves.{State, Start, On, Past, NotYet, start_of, is_begun, client_passes, enabled, surviving, missing}
use Rattle.hy_rules.specs.Runs.{setting_of, opening_of, snap_of, suits, added, begun_snap, run, Ending, ByReading, ByFull, ByPast, ByNotYet, Ended, ended, ended_by_start, ended_by, ended_in, lost_by_stop}
use Rattle.hy_rules.proofs.Backward.{next_state, run_back}
use Rattle.hy_rules.proofs.Answered.{stopped_log}
use Rattle.hy_serial_laws.proofs.Snapshots.{IsSnap, PhaseSnap, HasSnaps, snaps_after, snaps_opening}
use Rattle.hy_serial_laws.proofs.Programs.{AtPrograms, programs_after, programs_opening, begun_there}
use Rattle.hy_serial_laws.proofs.Told.{Told, told_both, within_log}
use Rattle.hy_serial_laws.proofs.Appends.{QuietEnding, AreQuiet, IsFiller, lost_quiet, told_quiet, append_told}

-- ---- one event

-- what an event adds to the log, and that its entries and its ended programs tell each other
record Steps (script : Workload) (s : State) (event : Event) : Type 0 where
  more : List EntryKind
  is : (next_state script s event).log ≡ s.log ++ more
  told : Told script (s.log ++ more) (length s.log) (ended_by (setting_of script) s event)

phase_snap : (g len : ℕ) (phase : Phase) → PhaseSnap g len phase → IsSnap g len (unwrap_or (snap_of phase) 0)
phase_snap g len Idle h = record { whole = zero-mod g; within = omega arith }
phase_snap g len (Begun snap) h = h

ended_case : (script : Workload) (len client : ℕ) (ending : Ending) (o : Option Session)
    → ((x : Session) → o ≡ Some x → QuietEnding script len (record { client = client; number = x.next; snap = unwrap_or (snap_of x.phase) 0; ending = ending }) ending) → (snap : ℕ)
    → ((x : Session) → o ≡ Some x → snap ≡ unwrap_or (snap_of x.phase) 0) → AreQuiet script len (option_to_list (option_map (λ session. record { client = client; number = session.next; snap = snap; ending = ending }) o))
ended_case script len client ending None h snap is = tt
ended_case script len client ending (Some x) h snap is =
    (subst (λ k. QuietEnding script len (record { client = client; number = x.next; snap = k; ending = ending }) ending) (sym (is x refl)) (h x refl), tt)

begun_at_snap : (s : State) (client : ℕ) (x : Session) → nth s.sessions client ≡ Some x → begun_snap s client ≡ unwrap_or (snap_of x.phase) 0
begun_at_snap s client x at = rw at refl

-- what is known of the sessions of a state that a run reaches
record SessionsReached (script : Workload) (s : State) : Type 0 where
  snaps : HasSnaps script.shape.group s
  programs : AtPrograms script s.sessions

reading_quiet : (script : Workload) (s : State) (client : ℕ) → client_passes (setting_of script) s client (λ home session. is_begun session.phase) ≡ true → SessionsReached script s → AreQuiet script (length s.log) (ended s client ByReading)
reading_quiet script s client e reached =
    let g : ℕ = script.shape.group in
    ended_case script (length s.log) client ByReading (nth s.sessions client) (λ x at. record {
      snap = phase_snap g (length s.log) x.phase (all_nth (λ y. PhaseSnap g (length s.log) y.phase) s.sessions client x reached.snaps.sessions at);
      program = (reached.programs client x at).there (begun_there script s client x at e);
    }) (begun_snap s client) (λ x at. begun_at_snap s client x at)

refused_quiet : (script : Workload) (s : State) (client : ℕ) → AreQuiet script (length s.log) (ended s client ByFull)
refused_quiet script s client = ended_case script (length s.log) client ByFull (nth s.sessions client) (λ x at. tt) (begun_snap s client) (λ x at. begun_at_snap s client x at)

-- a program that isn't begun leaves nothing
start_quiet : (script : Workload) (s : State) (client : ℕ) (start : Start) → AreQuiet script (length s.log) (ended_by_start start s client)
start_quiet script s client (On snap) = tt
start_quiet script s client (Past from) = ended_case script (length s.log) client (ByPast from) (nth s.sessions client) (λ x at. tt) (begun_snap s client) (λ x at. begun_at_snap s client x at)
start_quiet script s client (NotYet board) = ended_case script (length s.log) client (ByNotYet board) (nth s.sessions client) (λ x at. tt) (begun_snap s client) (λ x at. begun_at_snap s client x at)

-- an event that leaves the log as it is
stays : (script : Workload) (s : State) (event : Event) → (next_state script s event).log ≡ s.log → AreQuiet script (length s.log) (ended_by (setting_of script) s event) → Steps script s event
stays script s event same quiet = record {
  more = [];
  is = same ∙ sym (append-nil s.log);
  told = told_quiet script s.log [] (ended_by (setting_of script) s event) tt (subst (λ log. AreQuiet script (length log) (ended_by (setting_of script) s event)) (sym (append-nil s.log)) quiet);
}

fillers : (server n : ℕ) → AllByRecursion IsFiller (replicate n (Filler server))
fillers server zero = tt
fillers server (suc n) = (tt, fillers server n)

pad_quiet : (script : Workload) (len : ℕ) (s : State) (o : Option ArmedStop) → AreQuiet script len (if is_some o then lost_by_stop s 0 else [])
pad_quiet script len s None = tt
pad_quiet script len s (Some stop) = lost_quiet script len s 0

step_told : (script : Workload) (s : State) (event : Event) → enabled (setting_of script) s event ≡ true → suits script s event ≡ true → SessionsReached script s → Steps script s event
step_told script s (Begin client) may e reached = stays script s (Begin client) refl (start_quiet script s client (start_of (setting_of script) s client))
step_told script s (Append client) may e reached = record { more = added script s (Append client); is = stopped_log (setting_of script) _ s.armed; told = append_told script s client e reached.snaps }
step_told script s (End client) may e reached = stays script s (End client) refl (reading_quiet script s client may reached)
step_told script s (Refuse client) may e reached = stays script s (Refuse client) refl (refused_quiet script s client)
step_told script s (Pad server) may e reached = record {
  more = added script s (Pad server);
  is = stopped_log (setting_of script) _ s.armed;
  told = told_quiet script s.log (added script s (Pad server)) (ended_by (setting_of script) s (Pad server)) (fillers server (surviving s.armed (missing (setting_of script) (length s.log))))
      (pad_quiet script (length (s.log ++ added script s (Pad server))) s s.armed);
}
step_told script s (Publish server upto) may e reached = stays script s (Publish server upto) refl tt
step_told script s (Stop call pattern) may e reached = stays script s (Stop call pattern) refl tt

-- ---- a run

-- the way from a state to the end
record Toward (script : Workload) (t s : State) (done : List Ended) : Type 0 where
  more : List EntryKind
  is : t.log ≡ s.log ++ more
  told : Told script t.log (length s.log) done

one_back : (script : Workload) (t s : State) (event : Event) (done : List Ended) → Steps script s event → Toward script t (next_state script s event) done → Toward script t s (ended_by (setting_of script) s event ++ done)
one_back script t s event done first rest =
    let grown : List EntryKind = s.log ++ first.more in
    let end : t.log ≡ grown ++ rest.more = rest.is ∙ ap (λ log. log ++ rest.more) first.is in
    let later : Told script (grown ++ rest.more) (length grown) done = subst (λ log. Told script log (length grown) done) end (subst (λ log. Told script t.log (length log) done) first.is rest.told) in
    record {
      more = first.more ++ rest.more;
      is = end ∙ append_assoc s.log first.more rest.more;
      told = subst (λ log. Told script log (length s.log) (ended_by (setting_of script) s event ++ done)) (sym end)
          (told_both script grown rest.more (length s.log) (ended_by (setting_of script) s event) done (omega (arith, length-append s.log first.more)) first.told later);
    }

run_toward : (script : Workload) (s t : State) (events : List Event) → AskForGroups script.shape (map home_of script.clients) → run script s events ≡ Some t → SessionsReached script s → Toward script t s (ended_in script s events)
run_toward script s t events asks h =
    run_back script t (λ u done. SessionsReached script u → Toward script t u done)
    (λ reached. record { more = []; is = sym (append-nil t.log); told = record { each = tt; all = λ pos i past at. absurd (let place : pos ≤ length t.log = within_log t.log pos (Txn i) at in omega (arith, past, place)) } })
    (λ u event done may rest reached.
    let parts = and_parts (enabled (setting_of script) u event) (suits script u event) may in
    one_back script t u event done (step_told script u event parts.0 parts.1 reached)
    (rest (record { snaps = snaps_after (setting_of script) u event (added script u event) asks parts.0 reached.snaps; programs = programs_after script u event (added script u event) parts.0 reached.programs }))) s events h

-- past what it found, the log of a run is told by the programs that the run ended
pub run_told : (script : Workload) (before : List EntryKind) (events : List Event) (t : State) → IsScript script → run script (opening_of script before) events ≡ Some t → Told script t.log (length before) (ended_in script (opening_of script before) events)
run_told script before events t is h = (run_toward script (opening_of script before) t events is.positions h (record { snaps = snaps_opening (setting_of script) before; programs = programs_opening script before })).told

-- the log of a run begins with the entries that it found
pub run_grows : (script : Workload) (before : List EntryKind) (events : List Event) (t : State) → IsScript script → run script (opening_of script before) events ≡ Some t → (more : List EntryKind) × (t.log ≡ before ++ more)
run_grows script before events t is h =
    let way = run_toward script (opening_of script before) t events is.positions h (record { snaps = snaps_opening (setting_of script) before; programs = programs_opening script before }) in (way.more, way.is)
