use Rattle.hy_table_look.proofs.Looking.{opening_looks_tell as law}
use Rattle.hy_table_look.proofs.laws.opening_looks_tell.Goals as goal

pub returns : goal.returns
returns c = law
