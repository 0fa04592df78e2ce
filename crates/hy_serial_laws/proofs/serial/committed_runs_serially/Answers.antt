use Rattle.hy_serial_laws.proofs.Serializable.{committed_runs_serially as law}
use Rattle.hy_serial_laws.proofs.serial.committed_runs_serially.Goals as goal

pub returns : goal.returns
returns c = law
