use Rattle.std.proofs.Common.{◌≡◌, ◌++◌, map, drop}
use Rattle.hy_core.specs.CoreParts.{fresh_client_state}
use Rattle.hy_core.proofs.parts.open_client_states.Given as goal

-- the client states so far, and one for each client that is left
abbrev pub invariant-loop-client : goal.invariant-loop-client
invariant-loop-client l = l.client_states.items ++ map (λ c. fresh_client_state) (drop l._client-index l.clients) ≡ map (λ c. fresh_client_state) l.clients
