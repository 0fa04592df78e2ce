-- What a contract sees of the hub's contents, and who waits in them.
use Rattle.std.specs.Prelude.{◌≡◌, ◌⊎◌, ℕ, List, map, Option, Some}
use Rattle.hy_hist.specs.Passes.{IsAmong}
use Rattle.hy_base.specs.declared.workload.Event.TheVariants.{Append}
use Rattle.hy_hub.specs.declared.occurrence.Occurrence.{Occurrence}
use Rattle.hy_hub.specs.declared.occurrence.Occurrence.TheVariants.{Opened, Happened, Halted, Lifted, Landed}
use Rattle.hy_hub.specs.declared.step.AppendStep.{AppendStep}
use Rattle.hy_hub.specs.declared.step.AppendStep.TheVariants.{Answered, Leads, Waits}
use Rattle.hy_hub.specs.Entries.{Asked}

-- The list, and the clients whose entries wait.
pub record Shown : Type 0 where
  pub list : List Occurrence
  pub waiting : List ℕ

abbrev pub clients_of : List Asked → List ℕ
clients_of waiting = map (λ (asked : Asked). asked.client) waiting

-- who waits now waited before
pub record NobodyComes (before now : List ℕ) : Type 0 where
  pub each : (n : ℕ) → IsAmong n now → IsAmong n before

-- so does everyone but this client
pub record NobodyElseComes (client : ℕ) (before now : List ℕ) : Type 0 where
  pub each : (n : ℕ) → IsAmong n now → (n ≡ client) ⊎ IsAmong n before

-- no entry of the client waits
pub record IsAbsent (client : ℕ) (waiting : List ℕ) : Type 0 where
  pub none : IsAmong client waiting → ⊥

-- a call waits for no entry but the client's
pub record IsClaimOf (client : ℕ) (claim : Option ℕ) : Type 0 where
  pub each : (n : ℕ) → claim ≡ Some n → n ≡ client

-- Who waits after a hold for an entry. Where the call is answered, its entry no longer does.
abbrev pub WaitAfter : {D : Type 0} → ℕ → AppendStep D → List ℕ → List ℕ → Type 0
WaitAfter client (Answered answer own) before now = NobodyComes before now × IsAbsent client now
WaitAfter client (Leads flight since) before now = NobodyElseComes client before now
WaitAfter client Waits before now = NobodyElseComes client before now

-- an event is that of an entry of a client who waits
abbrev pub IsWaitedFor : List ℕ → Occurrence → Type 0
IsWaitedFor waiting (Opened o) = ⊥
IsWaitedFor waiting (Happened event added ended) = (client : ℕ) × (event ≡ Append client) × IsAmong client waiting
IsWaitedFor waiting (Halted at risen) = ⊥
IsWaitedFor waiting (Lifted batch) = ⊥
IsWaitedFor waiting Landed = ⊥
