-- What a program has left on its snapshot may end it: in whatever state the list leads to, it is what the script's run adds there.
use Rattle.std.proofs.Common.{◌≡◌, ◌≤◌, arith, ℕ, Bool, true, false, List, [], ◌∷◌, length, Some, None, refl, ap, sym, ◌∙◌, subst}
use Rattle.std.specs.Prelude.{Option, not, take, nat_lt, unwrap_or, option_and_then, option_map, option_to_list, if◌then◌else◌}
use Rattle.std.specs.Option.{option_map_or}
use mathlib.Core.List.{IsPrefix}
use Rattle.hy_base.specs.declared.record.EntryKind.{EntryKind}
use Rattle.hy_base.specs.declared.record.EntryKind.TheVariants.{Txn}
use Rattle.hy_base.specs.declared.record.Row.{Row}
use Rattle.hy_base.specs.declared.report.Answer.{Answer}
use Rattle.hy_base.specs.declared.report.Pair.{Pair}
use Rattle.hy_base.specs.declared.workload.Event.{Event}
use Rattle.hy_base.specs.declared.workload.Event.TheVariants.{Append, End, Refuse}
use Rattle.hy_base.specs.declared.workload.Program.{Program}
use Rattle.hy_base.specs.declared.workload.Phase.TheVariants.{Begun}
use Rattle.hy_base.specs.declared.workload.Session.{Session}
use Rattle.hy_base.specs.Lists.{nth}
use Rattle.hy_base.specs.Script.{Workload}
use Rattle.hy_exec.specs.declared.txn.Finished.{Finished}
use Rattle.hy_exec.specs.declared.txn.Finished.TheVariants.{ReadOnly, Entry}
use Rattle.hy_exec.specs.Executing.{notes_write as wrote, finish_of}
use Rattle.hy_hist.specs.Passes.{Lock, Known}
use Rattle.hy_rules.specs.Exec.{Effects, exec, intention}
use Rattle.hy_rules.specs.History.{pairs_of}
use Rattle.hy_rules.specs.CutLogs.{swapped}
use Rattle.hy_rules.specs.Moves.{State, home_server, surviving, fresh_session}
use Rattle.hy_rules.specs.Runs.{setting_of as script_setting, program_of, execution, snap_of, pending, leaves_write, own_entry, begun_snap}
use Rattle.hy_rules.specs.Validation.{live}
use Rattle.hy_rules.proofs.Growth.{live_grows}
use Rattle.hy_hub.specs.declared.occurrence.Occurrence.{Occurrence}
use Rattle.hy_hub.specs.Trace.{state_after}
use Rattle.hy_hub.specs.Calls.{RunsOn}
use Rattle.hy_clients.specs.Passing.{IsRunPass, OpensBehind, log_behind}
use Rattle.hy_clients.specs.Serving.{AreLive, MayEndBy}
use Rattle.hy_clients.proofs.Fronts.{behind_length, behind_on}

-- what the program that a client runs leaves, by its number and its snapshot
pending_is : (script : Workload) (s : State) (client number snap : ℕ) → RunsOn client number snap s → pending script s client ≡ option_map (λ done. done.1) (execution script s.log client number snap)
pending_is script s client number snap runs = by (nth s.sessions client) runs
  where
    by : (o : Option Session) → ((unwrap_or o fresh_session).next ≡ number) × ((unwrap_or o fresh_session).phase ≡ Begun snap)
        → option_and_then (λ session. option_and_then (λ at. option_map (λ (done : List Answer × Effects). done.1) (execution script s.log client session.next at)) (snap_of session.phase)) o ≡ option_map (λ done. done.1) (execution script s.log client number snap)
    by None r = absurd (cc (r.1))
    by (Some x) r = λ i. option_and_then (λ at. option_map (λ (done : List Answer × Effects). done.1) (execution script s.log client (r.0 i) at)) (snap_of (r.1 i))

snap_is : (s : State) (client number snap : ℕ) → RunsOn client number snap s → begun_snap s client ≡ snap
snap_is s client number snap runs = by (nth s.sessions client) runs
  where
    by : (o : Option Session) → ((unwrap_or o fresh_session).next ≡ number) × ((unwrap_or o fresh_session).phase ≡ Begun snap) → unwrap_or (option_and_then (λ session. snap_of session.phase) o) 0 ≡ snap
    by None r = absurd (cc (r.1))
    by (Some x) r = ap (λ p. unwrap_or (snap_of p) 0) r.1

module _ (script : Workload) (client server number snap : ℕ) (program : Program) (rows : List Row) (pass : Known Occurrence) (home : home_server (script_setting script) client ≡ server) (is : program_of script client number ≡ Some program) where
  abbrev effects : Effects
  effects = (exec program (pairs_of rows)).1

  module _ {suits : State → Event → List EntryKind → Type 0} {lock : Lock} (run : IsRunPass suits lock script pass) (live_rows : AreLive script pass.seen snap rows) (later : List Occurrence) (grows : IsPrefix pass.seen later) (runs : RunsOn client number snap (state_after later)) where
    -- what it leaves there
    left_is : (front : List EntryKind) → OpensBehind pass.seen front → pending script (swapped front (state_after later)) client ≡ Some effects
    left_is front stood =
        let log = behind_on pass.seen later front run.told grows stood.cut in
        let low : snap ≤ length (log_behind front pass.seen) = let within = live_rows.within in omega (arith, within, behind_length pass.seen front run.told stood.cut) in
        let same : live script.shape (log_behind front later) snap ≡ pairs_of rows = ap (λ l. live script.shape l snap) (sym log.1) ∙ (live_grows script.shape (log_behind front pass.seen) log.0 snap low ∙ sym (live_rows.are front stood)) in
        let done : execution script (log_behind front later) client number snap ≡ Some (exec program (pairs_of rows)) = ap (option_map (λ (p : Program). exec p (live script.shape (log_behind front later) snap))) is ∙ ap (λ (pairs : List Pair). Some (exec program pairs)) same in
        pending_is script (swapped front (state_after later)) client number snap runs ∙ ap (option_map (λ (d : List Answer × Effects). d.1)) done

    writes_is : (front : List EntryKind) → OpensBehind pass.seen front → leaves_write script (swapped front (state_after later)) client ≡ wrote effects
    writes_is front stood = ap (λ (o : Option Effects). option_map_or (λ (e : Effects). nat_lt 0 (length e.writes)) o false) (left_is front stood)

    entry_is : (front : List EntryKind) → OpensBehind pass.seen front → Txn (intention server client snap effects) ∷ [] ≡ own_entry script (swapped front (state_after later)) client
    entry_is front stood =
        let s : State = swapped front (state_after later) in
        let same : own_entry script s client ≡ Txn (intention server client snap effects) ∷ [] = λ i. option_to_list (option_map (λ (e : Effects). Txn (intention (home i) client (snap_is s client number snap runs i) e)) (left_is front stood i)) in
        sym same

    -- an entry suits, and so does its refusal
    appends : wrote effects ≡ true → suits (state_after later) (Append client) (Txn (intention server client snap effects) ∷ []) × suits (state_after later) (Refuse client) []
    appends some = (
      run.takes (state_after later) (Append client) (Txn (intention server client snap effects) ∷ []) (λ front stood. (writes_is front stood ∙ some, λ calm. λ i. take (surviving (sym calm i) 1) (entry_is front stood i))),
      run.takes (state_after later) (Refuse client) [] (λ front stood. (writes_is front stood ∙ some, λ calm. refl)),
    )

    -- an end does, of a program that wrote nothing
    ends : wrote effects ≡ false → suits (state_after later) (End client) []
    ends none = run.takes (state_after later) (End client) [] (λ front stood. (ap not (writes_is front stood ∙ none), λ calm. refl))

-- what a program has left may end it
pub may_end_by : (script : Workload) (client server number snap : ℕ) (program : Program) (rows : List Row) (f : Finished) (pass : Known Occurrence) {suits : State → Event → List EntryKind → Type 0} {lock : Lock} → IsRunPass suits lock script pass
    → home_server (script_setting script) client ≡ server → program_of script client number ≡ Some program → AreLive script pass.seen snap rows → f ≡ finish_of server client (record { at = snap; pairs = pairs_of rows; effects = (exec program (pairs_of rows)).1 })
    → MayEndBy suits client number snap pass.seen f
may_end_by script client server number snap program rows f pass {suits} run home is live_rows left = subst (MayEndBy suits client number snap pass.seen) (sym left) (by (wrote (exec program (pairs_of rows)).1) refl)
  where
    by : (b : Bool) → wrote (exec program (pairs_of rows)).1 ≡ b → MayEndBy suits client number snap pass.seen (if b then Entry (Txn (intention server client snap (exec program (pairs_of rows)).1)) else ReadOnly snap)
    by true w = λ later grows runs. appends script client server number snap program rows pass home is run live_rows later grows runs.0 w
    by false w = λ later grows runs. ends script client server number snap program rows pass home is run live_rows later grows runs w
