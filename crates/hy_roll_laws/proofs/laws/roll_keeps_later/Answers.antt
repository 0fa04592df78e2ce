use Rattle.hy_roll_laws.proofs.Cuts.{roll_keeps_later as law}
use Rattle.hy_roll_laws.proofs.laws.roll_keeps_later.Goals as goal

pub returns : goal.returns
returns c = law
