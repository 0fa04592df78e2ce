use Rattle.hy_hub.proofs.Waiting.{after_entered}
use Rattle.hy_hub.proofs.contents.Contents.advance.Goals as goal

pub returns-in-Ok-clause-waits : goal.returns-in-Ok-clause-waits
returns-in-Ok-clause-waits g c = after_entered c.args.request.now.client c.proceed.result _ _ _ c.entered.ensures.comes c.proceed.ensures.waits
