use Rattle.hy_gen.proofs.Schedules.{schedule_leads}
use Rattle.hy_gen.proofs.laws.schedule_leads.Goals as goal

pub returns : goal.returns
returns c = schedule_leads
