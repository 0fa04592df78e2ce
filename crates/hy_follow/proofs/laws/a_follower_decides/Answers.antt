use Rattle.hy_follow.proofs.Rolled.{follower_decides}
use Rattle.hy_follow.proofs.laws.a_follower_decides.Goals as goal

pub returns : goal.returns
returns c = follower_decides c.growth_keeps_standing.ensures
