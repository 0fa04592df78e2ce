use Rattle.hy_roll_laws.proofs.Cuts.{standing_is_later as law}
use Rattle.hy_roll_laws.proofs.laws.standing_is_later.Goals as goal

pub returns : goal.returns
returns c = law
