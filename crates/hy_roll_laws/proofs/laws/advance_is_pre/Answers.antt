use Rattle.hy_roll_laws.proofs.Advance.{advance_is_pre as law}
use Rattle.hy_roll_laws.proofs.laws.advance_is_pre.Goals as goal

pub returns : goal.returns
returns c = law
