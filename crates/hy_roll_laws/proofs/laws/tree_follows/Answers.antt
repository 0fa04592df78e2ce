use Rattle.hy_roll_laws.proofs.Cuts.{tree_follows as law}
use Rattle.hy_roll_laws.proofs.laws.tree_follows.Goals as goal

pub returns : goal.returns
returns c = law
