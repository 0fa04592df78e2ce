use Rattle.std.proofs.Common.{subst}
use Rattle.hy_hub.specs.Suits.{AllSuit}
use Rattle.hy_hub.proofs.hub.Hub.close.Goals as goal

pub returns-clause-suits : goal.returns-clause-suits
returns-clause-suits g c = subst (AllSuit g.B.Since.suits) c.close.ensures.list c.into_parts.ensures.suits
