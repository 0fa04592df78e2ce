use Rattle.std.proofs.Common.{refl}
use Rattle.hy_core.proofs.ClientStateLemmas.{set_at}
use Rattle.hy_core.proofs.starting.put_client_state.Goals as goal

pub returns : goal.returns
returns c = set_at c.args.client_states.now.items c.args.client c.args.client_state c.args.client_state c.requires.at_least refl
