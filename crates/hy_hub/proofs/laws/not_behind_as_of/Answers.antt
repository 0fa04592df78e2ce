use Rattle.hy_hub.proofs.Behind.{behind_as_of_law}
use Rattle.hy_hub.proofs.laws.not_behind_as_of.Goals as goal

pub returns : goal.returns
returns c = behind_as_of_law
