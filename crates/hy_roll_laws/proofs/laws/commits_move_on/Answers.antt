use Rattle.hy_roll_laws.proofs.CommitLemmas.{commits_move_on as law}
use Rattle.hy_roll_laws.proofs.laws.commits_move_on.Goals as goal

pub returns : goal.returns
returns c = law
