use Rattle.hy_roll_laws.proofs.Dependencies.{joined_group as law}
use Rattle.hy_roll_laws.proofs.laws.joined_group.Goals as goal

pub returns : goal.returns
returns c = law
