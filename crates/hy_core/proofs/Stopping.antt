-- An append in which a stop happens.
use Rattle.std.proofs.Common.{◌≡◌, ◌⊎◌, inl, inr, ◌∙◌, ℕ, ◌+◌, ◌≤◌, Bool, true, false, List, [], ◌++◌, length, map, ap, sym, subst, arith}
use Rattle.std.proofs.lemmas.List.{append-nil}
use Rattle.std.proofs.lemmas.Bool.{cases_Bool}
use Rattle.std.specs.Prelude.{Some, None, option_and_then, if◌then◌else◌, replicate}
use Rattle.std.specs.List.{AllByRecursion}
use Rattle.hy_base.specs.declared.record.EntryKind.{EntryKind}
use Rattle.hy_base.specs.declared.workload.ArmedStop.{ArmedStop}
use Rattle.hy_base.specs.declared.workload.Event.TheVariants.{Append}
use Rattle.hy_base.specs.Entry.{FitsVersion}
use Rattle.hy_base.specs.Log.{IsLawful}
use Rattle.hy_base.specs.Script.{Workload, IsScript, IsClient}
use Rattle.hy_base.proofs.NthLemmas.{All-nth}
use Rattle.hy_roll_laws.specs.Rolling.{Roll}
use Rattle.hy_rules.specs.Moves.{is_kept, is_begun}
use Rattle.hy_rules.specs.Runs.{may_happen}
use Rattle.hy_memlog.specs.Pages.{Pages, broken_log}
use Rattle.hy_core.specs.declared.running.Running.{Running}
use Rattle.hy_core.specs.declared.parts.ClientState.{ClientState}
use Rattle.hy_core.specs.declared.parts.EndedProgram.{EndedProgram}
use Rattle.hy_core.specs.CoreParts.{Holding, ClientStateFits, departed, IsHolding, IsBegunAt, BegunClientState, LeavesEntry, NextFits, Leaves, HasRestarted, AreRestarted, StepsTo, left_entry, kept_by, stopped_in, broken, state_in_course, abandoned_client_state, all_abandoned}
use Rattle.hy_core.proofs.Leaving.{LeftEntry, left_entry_is}
use Rattle.hy_core.proofs.LogGrowth.{lawful_kept}
use Rattle.hy_core.proofs.Ending.{begun_at, append_begun, leaves_entry, next_fits}
use Rattle.hy_core.proofs.ClientStateLemmas.{KeptClientAt, kept_client_at}
use Rattle.hy_core.proofs.Publishing.{all_change}
use Rattle.hy_core.proofs.Restarts.{append_lost, append_kept, client_states_fit}

-- pages that are as before, or broken, are so for all that is kept
pub kept_or_broken : (h : Holding) (pages : Pages) → (pages ≡ h.pages) ⊎ (pages ≡ broken_log h.pages) → (record h { pages = pages } ≡ h) ⊎ (record h { pages = pages } ≡ broken h)
kept_or_broken h pages (inl same) = inl (λ i. record h { pages = same i })
kept_or_broken h pages (inr broke) = inr (λ i. record h { pages = broke i })

-- the entry that is appended is the one that the program leaves
abbrev pub IsLeftEntry : Holding → ℕ → EntryKind → Type 0
IsLeftEntry h client e = left_entry h.client_states client ≡ Some e

-- a client that may append, and that entry
pub record Appending (script : Workload) (h : Holding) (client : ℕ) (e : EntryKind) : Type 0 where
  pub script_is : IsScript script
  pub is : IsHolding script h
  pub may : may_happen script (state_in_course h) (Append client) ≡ true
  pub own : IsLeftEntry h client e

-- that entry is found among the clients' states
pub appending : {script : Workload} {h : Holding} {client_states : List ClientState} {found e : EntryKind} (client : ℕ) → IsScript script → IsHolding script h → may_happen script (state_in_course h) (Append client) ≡ true → client_states ≡ h.client_states → Some found ≡ left_entry client_states client → e ≡ found → Appending script h client e
appending client script_is is may states found same = record { script_is = script_is; is = is; may = may; own = ap (λ xs. left_entry xs client) (sym states) ∙ (sym found ∙ ap (λ e. Some e) (sym same)) }

-- the stop comes where log and list were made larger for it: all else is as before
pub stopped_is : (h : Holding) (stop : ArmedStop) {now : Holding} {written e : EntryKind} {log : List EntryKind} {told : List EndedProgram} → now ≡ stopped_in stop written (record h { log = log; told = told }) → written ≡ e → log ≡ h.log → told ≡ h.told → now ≡ stopped_in stop e h
stopped_is h stop is same log told = is ∙ (λ i. stopped_in stop (same i) (record h { log = log i; told = told i }))

module _ {script : Workload} {h : Holding} {client : ℕ} {e : EntryKind} (a : Appending script h client e) where
  pub begun : IsBegunAt h client
  begun = begun_at script h client a.is (append_begun script h client a.may)

  pub leaves : LeavesEntry h client
  leaves = leaves_entry script h client a.script_is a.is a.may

  entry_is : begun.2.entry ≡ Some e
  entry_is =
      let step : left_entry h.client_states client ≡ begun.2.entry =
      (λ i. option_and_then (λ (y : ClientState). option_and_then (λ (r : Running). r.entry) y.running) (begun.3.is i)) ∙ ap (option_and_then (λ (r : Running). r.entry)) begun.3.running in
      sym step ∙ a.own

  -- the log can hold it
  pub appends_fit : FitsVersion h.pages.shape.version e
  appends_fit =
      let own : (f : EntryKind) × (begun.2.entry ≡ Some f) × FitsVersion h.pages.shape.version f = leaves begun.1 begun.2 begun.3.is begun.3.running in
      let same : own.0 ≡ e = let f : Some own.0 ≡ Some e = sym own.1 ∙ entry_is in cc in
      subst (FitsVersion h.pages.shape.version) same own.2

  left : LeftEntry script h client e
  left = left_entry_is script h client begun.0 begun.1 begun.2 e a.script_is a.is a.may begun.3 entry_is

  pub appends_lawful : (stop : ArmedStop) → IsLawful script.shape (h.log ++ kept_by stop e)
  appends_lawful stop = lawful_kept script.shape h.log stop e a.is.lawful left.lawful

  -- the parts after the stop, what is left where it is kept, and the restart
  pub append_stops : (stop : ArmedStop) (pos : ℕ) (mid new : Holding) (rs : List Roll) → h.armed ≡ Some stop → pos ≡ length h.log + 1 → AreRestarted script (h.log ++ kept_by stop e) rs
      → (is_kept stop ≡ true → Leaves (stopped_in stop e h) mid client pos) → (is_kept stop ≡ false → mid ≡ stopped_in stop e h) → HasRestarted mid new rs → StepsTo script h new (Append client)
  append_stops stop pos mid new rs armed at_end boards kept dropped settles = elim (cases_Bool (is_kept stop)) [
    | inl keeps ↦
        let b : BegunClientState (stopped_in stop e h) client begun.0 begun.1 begun.2 = record { is = begun.3.is; phase = begun.3.phase; running = begun.3.running } in
        let mid_is = kept keeps begun.0 begun.1 begun.2 e b entry_is in
        subst (λ n. StepsTo script h n (Append client)) (sym (settles.is ∙ (λ i. record { log = sym (append-nil (mid_is i).log) i; pages = (mid_is i).pages; rollers = rs; earlier = map (λ older. []) (mid_is i).earlier; client_states = map abandoned_client_state (mid_is i).client_states; told = (mid_is i).told ++ all_abandoned 1 (mid_is i).client_states; armed = None })))
        (append_kept script h client pos begun.0 begun.1 begun.2 e stop rs a.script_is a.is armed keeps at_end begun.3 left.own (appends_lawful stop) boards)
    | inr drops ↦
        let none : kept_by stop e ≡ [] = ap (λ (c : Bool). replicate (if c then 1 else 0) e) drops in
        let mid_is : mid ≡ stopped_in stop e h = dropped drops in
        subst (λ n. StepsTo script h n (Append client)) (sym (settles.is ∙ (λ i. record { log = (ap (λ (k : Holding). k.log) mid_is ∙ (sym (append-nil h.log) ∙ ap (λ l. h.log ++ l) (sym none))) i; pages = (mid_is i).pages; rollers = rs; earlier = map (λ older. []) (mid_is i).earlier; client_states = map abandoned_client_state (mid_is i).client_states; told = (mid_is i).told ++ all_abandoned 1 (mid_is i).client_states; armed = None })))
        (append_lost script h client begun.1 e stop rs a.is armed drops begun.3.is (ap is_begun begun.3.phase) (appends_lawful stop) boards)
  ]

  next_small : begun.1.session.next ≤ 10001
  next_small =
      let found : KeptClientAt script h.log script.clients client begun.1 = kept_client_at script h.log script.clients h.client_states client begun.1 a.is.client_states begun.3.is in
      let client_is : IsClient script.servers found.own = All-nth (IsClient script.servers) script.clients client found.own found.is_own a.script_is.clients in
      omega (arith, found.client_state.most, client_is.count)

  -- the numbers of the client states that are left fit
  pub left_fit : (stop : ArmedStop) (pos : ℕ) (mid : Holding) → (is_kept stop ≡ true → Leaves (stopped_in stop e h) mid client pos) → (is_kept stop ≡ false → mid ≡ stopped_in stop e h) → AllByRecursion ClientStateFits mid.client_states
  left_fit stop pos mid kept dropped = elim (cases_Bool (is_kept stop)) [
    | inl keeps ↦
        let b : BegunClientState (stopped_in stop e h) client begun.0 begun.1 begun.2 = record { is = begun.3.is; phase = begun.3.phase; running = begun.3.running } in
        subst (λ (k : Holding). AllByRecursion ClientStateFits k.client_states) (sym (kept keeps begun.0 begun.1 begun.2 e b entry_is))
        (all_change ClientStateFits h.client_states client (departed begun.1.session.next pos) (omega (arith, next_small)) (client_states_fit script h a.script_is a.is))
    | inr drops ↦ subst (λ (k : Holding). AllByRecursion ClientStateFits k.client_states) (sym (dropped drops)) (client_states_fit script h a.script_is a.is)
  ]

  pub stopped_begun : (stop : ArmedStop) (k : Holding) → k ≡ stopped_in stop e h → IsBegunAt k client
  stopped_begun stop k same = subst (λ (m : Holding). IsBegunAt m client) (sym same) (begun.0, begun.1, begun.2, record { is = begun.3.is; phase = begun.3.phase; running = begun.3.running })

  pub stopped_fits : (stop : ArmedStop) (k : Holding) → k ≡ stopped_in stop e h → NextFits k client
  stopped_fits stop k same = subst (λ (m : Holding). NextFits m client) (sym same) (next_fits script h client a.script_is a.is)

  pub stopped_leaves : (stop : ArmedStop) (k : Holding) → k ≡ stopped_in stop e h → LeavesEntry k client
  stopped_leaves stop k same = subst (λ (m : Holding). LeavesEntry m client) (sym same) leaves
