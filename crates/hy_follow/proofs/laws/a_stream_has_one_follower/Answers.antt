use Rattle.hy_follow.proofs.Ones.{one_follower}
use Rattle.hy_follow.proofs.laws.a_stream_has_one_follower.Goals as goal

pub returns : goal.returns
returns c = one_follower
