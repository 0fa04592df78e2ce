use Rattle.hy_roll_laws.proofs.LastWriters.{by_last_writers as law}
use Rattle.hy_roll_laws.proofs.laws.last_writers_are_enough.Goals as goal

pub returns : goal.returns
returns c = law
