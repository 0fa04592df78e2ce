use Rattle.hy_cut_laws.proofs.CutRuns.{moves_are_blind as law}
use Rattle.hy_cut_laws.proofs.laws.moves_are_blind.Goals as goal

pub returns : goal.returns
returns c = law
