use Rattle.hy_roll_laws.proofs.RollLemmas.{new_roller_stands as law}
use Rattle.hy_roll_laws.proofs.laws.new_roller_stands.Goals as goal

pub returns : goal.returns
returns c = law
