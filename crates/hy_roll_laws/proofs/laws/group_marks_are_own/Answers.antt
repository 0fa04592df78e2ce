use Rattle.hy_roll_laws.proofs.Mates.{group_marks_are_own as law}
use Rattle.hy_roll_laws.proofs.laws.group_marks_are_own.Goals as goal

pub returns : goal.returns
returns c = law
