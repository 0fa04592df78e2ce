-- Clients' states: what is known at a client's number, and how it is kept.
use Rattle.std.proofs.Common.{◌≡◌, ℕ, zero, suc, ◌+◌, ◌-◌, ◌≤◌, Bool, false, List, [], ◌∷◌, map, refl, ap, sym, ◌∙◌, subst, arith}
use Rattle.std.specs.Prelude.{Option, Some, None, slice_get, option_map, option_and_then, unwrap_or, slice_set}
use Rattle.std.specs.Option.{option_map_or}
use Rattle.hy_base.specs.declared.record.EntryKind.{EntryKind}
use Rattle.hy_base.specs.declared.workload.Program.{Program}
use Rattle.hy_base.specs.declared.workload.Client.{Client}
use Rattle.hy_base.specs.declared.workload.Home.{Home}
use Rattle.hy_base.specs.declared.workload.Session.{Session}
use Rattle.hy_base.specs.declared.workload.Phase.TheVariants.{Begun}
use Rattle.hy_base.specs.Lists.{nth, change_nth}
use Rattle.hy_base.specs.Script.{Workload, home_of}
use Rattle.hy_base.proofs.NthLemmas.{nth_map, set_nth}
use Rattle.hy_rules.specs.Validation.{live}
use Rattle.hy_rules.specs.Exec.{exec}
use Rattle.hy_rules.specs.Moves.{State, client_passes}
use Rattle.hy_rules.specs.Runs.{setting_of, pending, execution, snap_of}
use Rattle.hy_core.specs.declared.parts.ClientState.{ClientState}
use Rattle.hy_core.specs.CoreParts.{IsClientState, AreClientStates}

-- the client at a client state
pub record KeptClient (script : Workload) (log : List EntryKind) (number : ℕ) (cs : List Client) (k : ℕ) (x : ClientState) : Type 0 where
  pub client : Client
  pub is_client : slice_get cs k ≡ Some client
  pub client_state : IsClientState script log (number + k) client x

pub kept_client : (script : Workload) (log : List EntryKind) (number : ℕ) (cs : List Client) (xs : List ClientState) (k : ℕ) (x : ClientState) → AreClientStates script log number cs xs → slice_get xs k ≡ Some x → KeptClient script log number cs k x
kept_client script log number [] [] k x are e = absurd (cc)
kept_client script log number [] (y ∷ xs) k x are e = absurd are
kept_client script log number (c ∷ cs) [] k x are e = absurd are
kept_client script log number (c ∷ cs) (y ∷ xs) zero x are e =
    let same : y ≡ x = ap (λ o. unwrap_or o y) e in
    let here : number ≡ number + 0 = omega arith in
    record { client = c; is_client = refl; client_state = subst (λ n. IsClientState script log n c x) here (subst (IsClientState script log number c) same are.0) }
kept_client script log number (c ∷ cs) (y ∷ xs) (suc k) x are e =
    let rest : KeptClient script log (number + 1) cs k x = kept_client script log (number + 1) cs xs k x are.1 e in
    let there : number + 1 + k ≡ number + suc k = omega arith in
    record { client = rest.client; is_client = rest.is_client; client_state = subst (λ n. IsClientState script log n rest.client x) there rest.client_state }

-- the client with a number
pub record KeptClientAt (script : Workload) (log : List EntryKind) (cs : List Client) (client : ℕ) (x : ClientState) : Type 0 where
  pub at : ℕ
  pub is_at : client ≡ suc at
  pub own : Client
  pub is_own : nth cs client ≡ Some own
  pub client_state : IsClientState script log client own x

pub kept_client_at : (script : Workload) (log : List EntryKind) (cs : List Client) (xs : List ClientState) (client : ℕ) (x : ClientState) → AreClientStates script log 1 cs xs → nth xs client ≡ Some x → KeptClientAt script log cs client x
kept_client_at script log cs xs zero x are e = absurd (cc)
kept_client_at script log cs xs (suc k) x are e =
    let found : KeptClient script log 1 cs k x = kept_client script log 1 cs xs k x are e in
    let same : 1 + k ≡ suc k = omega arith in
    record { at = k; is_at = refl; own = found.client; is_own = found.is_client; client_state = subst (λ n. IsClientState script log n found.client x) same found.client_state }

-- what a client passes
pub passes_is : (script : Workload) (s : State) (client : ℕ) (c : Client) (x : Session) (test : Home → Session → Bool) → nth script.clients client ≡ Some c → nth s.sessions client ≡ Some x
    → client_passes (setting_of script) s client test ≡ test (home_of c) x
passes_is script s client c x test p q =
    let home : nth (setting_of script).homes client ≡ Some (home_of c) = nth_map home_of script.clients client c p in
    (λ i. option_map_or (λ h. option_map_or (test h) (q i) false) (home i) false)

none_passes : (o : Option Home) (test : Home → Session → Bool) → option_map_or (λ h. option_map_or (test h) None false) o false ≡ false
none_passes None test = refl
none_passes (Some h) test = refl

-- a client without a session passes nothing
pub passes_none : (script : Workload) (s : State) (client : ℕ) (test : Home → Session → Bool) → nth s.sessions client ≡ None → client_passes (setting_of script) s client test ≡ false
passes_none script s client test e = (λ i. option_map_or (λ h. option_map_or (test h) (e i) false) (nth (setting_of script).homes client) false) ∙ none_passes (nth (setting_of script).homes client) test

pub nth_map_none : {X Y : Type 0} (g : X → Y) (xs : List X) (n : ℕ) → nth xs n ≡ None → nth (map g xs) n ≡ None
nth_map_none g [] zero e = refl
nth_map_none g [] (suc n) e = refl
nth_map_none g (x ∷ xs) zero e = refl
nth_map_none g (x ∷ xs) (suc zero) e = absurd (cc)
nth_map_none g (x ∷ xs) (suc (suc k)) e = nth_map_none g xs (suc k) e

-- what a begun client's program leaves
pub pending_is : (script : Workload) (s : State) (client snap : ℕ) (c : Client) (x : Session) (program : Program) → nth script.clients client ≡ Some c → nth s.sessions client ≡ Some x → x.phase ≡ Begun snap → nth c.programs x.next ≡ Some program
    → pending script s client ≡ Some (exec program (live script.shape s.log snap)).1
pending_is script s client snap c x program p q phase r =
    (λ i. option_and_then (λ (y : Session). option_and_then (λ n. option_map (λ done. done.1) (execution script s.log client y.next n)) (snap_of y.phase)) (q i))
    ∙ ((λ i. option_and_then (λ n. option_map (λ done. done.1) (execution script s.log client x.next n)) (snap_of (phase i)))
    ∙ ((λ i. option_map (λ done. done.1) (option_map (λ y. exec y (live script.shape s.log snap)) (option_and_then (λ (d : Client). nth d.programs x.next) (p i))))
    ∙ (λ i. option_map (λ done. done.1) (option_map (λ y. exec y (live script.shape s.log snap)) (r i)))))

pub execution_is : (script : Workload) (log : List EntryKind) (client number snap : ℕ) (c : Client) (program : Program) → nth script.clients client ≡ Some c → nth c.programs number ≡ Some program
    → execution script log client number snap ≡ Some (exec program (live script.shape log snap))
execution_is script log client number snap c program p r =
    (λ i. option_map (λ y. exec y (live script.shape log snap)) (option_and_then (λ (d : Client). nth d.programs number) (p i)))
    ∙ (λ i. option_map (λ y. exec y (live script.shape log snap)) (r i))

-- a write at a place that is counted from 1
pub set_at : {X : Type 0} (xs : List X) (n : ℕ) (x y : X) → 1 ≤ n → y ≡ x → slice_set xs (n - 1) y ≡ change_nth (λ _. x) xs n
set_at xs zero x y some same = absurd (omega (arith, some))
set_at xs (suc k) x y some same = let at : suc k - 1 ≡ k = omega arith in (λ i. slice_set xs (at i) (same i)) ∙ set_nth xs k x

-- a client state that changes
pub client_states_change : (script : Workload) (log : List EntryKind) (number : ℕ) (cs : List Client) (xs : List ClientState) (k : ℕ) (c : Client) (y : ClientState) → AreClientStates script log number cs xs → slice_get cs k ≡ Some c → IsClientState script log (number + k) c y
    → AreClientStates script log number cs (change_nth (λ _. y) xs (suc k))
client_states_change script log number [] [] k c y are e is = absurd (cc)
client_states_change script log number [] (x ∷ xs) k c y are e is = absurd are
client_states_change script log number (d ∷ cs) [] k c y are e is = absurd are
client_states_change script log number (d ∷ cs) (x ∷ xs) zero c y are e is =
    let same : c ≡ d = sym (ap (λ o. unwrap_or o c) e) in
    let here : number + 0 ≡ number = omega arith in
    (subst (λ n. IsClientState script log n d y) here (subst (λ b. IsClientState script log (number + 0) b y) same is), are.1)
client_states_change script log number (d ∷ cs) (x ∷ xs) (suc k) c y are e is =
    let there : number + suc k ≡ number + 1 + k = omega arith in
    (are.0, client_states_change script log (number + 1) cs xs k c y are.1 e (subst (λ n. IsClientState script log n c y) there is))

pub client_state_changes : (script : Workload) (log : List EntryKind) (cs : List Client) (xs : List ClientState) (client : ℕ) (c : Client) (y : ClientState) → AreClientStates script log 1 cs xs → nth cs client ≡ Some c → IsClientState script log client c y
    → AreClientStates script log 1 cs (change_nth (λ _. y) xs client)
client_state_changes script log cs xs zero c y are e is = absurd (cc)
client_state_changes script log cs xs (suc k) c y are e is = let same : suc k ≡ 1 + k = omega arith in client_states_change script log 1 cs xs k c y are e (subst (λ n. IsClientState script log n c y) same is)
