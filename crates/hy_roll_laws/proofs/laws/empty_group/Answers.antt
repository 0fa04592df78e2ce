use Rattle.hy_roll_laws.proofs.Dependencies.{empty_group as law}
use Rattle.hy_roll_laws.proofs.laws.empty_group.Goals as goal

pub returns : goal.returns
returns c = law
