use Rattle.hy_roll_laws.proofs.Dependencies.{raised_know as law}
use Rattle.hy_roll_laws.proofs.laws.raised_know.Goals as goal

pub returns : goal.returns
returns c = law
