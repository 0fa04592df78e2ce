use Rattle.hy_roll_laws.proofs.RollLemmas.{standing_is_one as law}
use Rattle.hy_roll_laws.proofs.laws.standing_is_one.Goals as goal

pub returns : goal.returns
returns c = law
