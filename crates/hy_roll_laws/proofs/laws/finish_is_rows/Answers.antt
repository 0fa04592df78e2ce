use Rattle.hy_roll_laws.proofs.Fates.{finish_is_rows as law}
use Rattle.hy_roll_laws.proofs.laws.finish_is_rows.Goals as goal

pub returns : goal.returns
returns c = law
