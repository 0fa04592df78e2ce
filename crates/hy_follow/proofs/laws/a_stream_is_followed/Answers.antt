use Rattle.hy_follow.proofs.Wholes.{stream_is_followed}
use Rattle.hy_follow.proofs.laws.a_stream_is_followed.Goals as goal

pub returns : goal.returns
returns c = stream_is_followed
