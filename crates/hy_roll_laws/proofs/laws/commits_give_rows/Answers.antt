use Rattle.hy_roll_laws.proofs.CommitLemmas.{commits_give_rows as law}
use Rattle.hy_roll_laws.proofs.laws.commits_give_rows.Goals as goal

pub returns : goal.returns
returns c = law
