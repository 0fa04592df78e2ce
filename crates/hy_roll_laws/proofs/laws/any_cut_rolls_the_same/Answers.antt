use Rattle.hy_roll_laws.proofs.Cuts.{any_cut_rolls_the_same as law}
use Rattle.hy_roll_laws.proofs.laws.any_cut_rolls_the_same.Goals as goal

pub returns : goal.returns
returns c = law
