use Rattle.hy_cut_laws.proofs.CutRuns.{serial_from_base as law}
use Rattle.hy_cut_laws.proofs.laws.serial_from_base.Goals as goal

pub returns : goal.returns
returns c = law
