use Rattle.hy_run.proofs.Shipped.{shipped_is_followed}
use Rattle.hy_run.proofs.laws.what_is_shipped_is_followed.Goals as goal

pub returns : goal.returns
returns c = shipped_is_followed
