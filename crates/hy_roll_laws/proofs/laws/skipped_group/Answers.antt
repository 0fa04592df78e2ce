use Rattle.hy_roll_laws.proofs.Dependencies.{skipped_group as law}
use Rattle.hy_roll_laws.proofs.laws.skipped_group.Goals as goal

pub returns : goal.returns
returns c = law
