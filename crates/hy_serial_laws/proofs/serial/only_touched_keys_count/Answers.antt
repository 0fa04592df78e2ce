use Rattle.hy_serial_laws.proofs.Serializable.{only_touched_keys_count as law}
use Rattle.hy_serial_laws.proofs.serial.only_touched_keys_count.Goals as goal

pub returns : goal.returns
returns c = law
