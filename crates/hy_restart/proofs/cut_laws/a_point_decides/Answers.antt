use Rattle.hy_restart.proofs.CutLaws.{point_decides}
use Rattle.hy_restart.proofs.cut_laws.a_point_decides.Goals as goal

pub returns : goal.returns
returns c = point_decides (record { new = c.new_roll_stands.ensures; resumes = c.resumed_stands.ensures; rolls = c.roll_stands.ensures })
