use Rattle.hy_roll_laws.proofs.Fates.{finish_is_fate as law}
use Rattle.hy_roll_laws.proofs.laws.finish_is_fate.Goals as goal

pub returns : goal.returns
returns c = law
