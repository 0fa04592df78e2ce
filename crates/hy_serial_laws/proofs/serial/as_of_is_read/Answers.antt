use Rattle.hy_serial_laws.proofs.AsOf.{as_of_is_read as law}
use Rattle.hy_serial_laws.proofs.serial.as_of_is_read.Goals as goal

pub returns : goal.returns
returns c = law
