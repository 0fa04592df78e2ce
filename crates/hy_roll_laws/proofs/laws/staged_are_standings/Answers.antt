use Rattle.hy_roll_laws.proofs.Mates.{staged_are_standings as law}
use Rattle.hy_roll_laws.proofs.laws.staged_are_standings.Goals as goal

pub returns : goal.returns
returns c = law
