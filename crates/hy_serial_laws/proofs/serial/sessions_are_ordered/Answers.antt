use Rattle.hy_serial_laws.proofs.InOrder.{sessions_are_ordered as law}
use Rattle.hy_serial_laws.proofs.serial.sessions_are_ordered.Goals as goal

pub returns : goal.returns
returns c = law
