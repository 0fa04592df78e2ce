use Rattle.hy_hub.proofs.BoardRollers.{boards_are_rollers_law}
use Rattle.hy_hub.proofs.laws.boards_are_rollers.Goals as goal

pub returns : goal.returns
returns c = boards_are_rollers_law
