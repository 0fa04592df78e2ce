use Rattle.std.proofs.Common.{◌∙◌}
use Rattle.hy_rules.specs.History.{pairs_of}
use Rattle.hy_tables.proofs.Walks.{fault_is_first_wrong}
use Rattle.hy_tables.proofs.faults.fault_counted.Goals as goal

pub returns : goal.returns
returns g c = c.first_wrong.ensures ∙ fault_is_first_wrong c.args.tables c.from.result (pairs_of c.args.tree.now) c.from.ensures
