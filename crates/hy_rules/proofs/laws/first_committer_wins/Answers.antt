use Rattle.hy_rules.proofs.Serial.{first_committer_wins as law}
use Rattle.hy_rules.proofs.laws.first_committer_wins.Goals as goal

pub returns : goal.returns
returns c = law
