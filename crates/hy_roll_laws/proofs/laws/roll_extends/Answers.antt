use Rattle.hy_roll_laws.proofs.RollLemmas.{roll_extends as law}
use Rattle.hy_roll_laws.proofs.laws.roll_extends.Goals as goal

pub returns : goal.returns
returns c = law
