use Rattle.hy_hub.proofs.Waiting.{same_waits, comes_twice, nobody_else}
use Rattle.hy_hub.proofs.contents.Contents.proceed.Goals as goal

pub returns-in-Some-lift-clause-waits : goal.returns-in-Some-lift-clause-waits
returns-in-Some-lift-clause-waits g c = nobody_else _ _ _ (comes_twice _ _ _ (same_waits _ _ c.appended.ensures.waits) (comes_twice _ _ _ c.refused.ensures.waits (same_waits _ _ c.lift.ensures.waits)))

pub returns-in-None-clause-waits : goal.returns-in-None-clause-waits
returns-in-None-clause-waits g c = nobody_else _ _ _ (comes_twice _ _ _ (same_waits _ _ c.appended.ensures.waits) (comes_twice _ _ _ c.refused.ensures.waits (same_waits _ _ c.lift.ensures.waits)))
