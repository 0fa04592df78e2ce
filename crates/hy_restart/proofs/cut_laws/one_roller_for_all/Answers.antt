use Rattle.hy_restart.proofs.CutLaws.{one_roller}
use Rattle.hy_restart.proofs.cut_laws.one_roller_for_all.Goals as goal

pub returns : goal.returns
returns c = one_roller (record { new = c.new_roll_stands.ensures; resumes = c.resumed_stands.ensures; rolls = c.roll_stands.ensures })
