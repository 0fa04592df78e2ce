use Rattle.hy_roll_laws.proofs.Mates.{join_is_mate as law}
use Rattle.hy_roll_laws.proofs.laws.join_is_mate.Goals as goal

pub returns : goal.returns
returns c = law
