use Rattle.hy_gen.proofs.Schedules.{schedule_is_enabled}
use Rattle.hy_gen.proofs.laws.schedule_is_enabled.Goals as goal

pub returns : goal.returns
returns c = schedule_is_enabled
