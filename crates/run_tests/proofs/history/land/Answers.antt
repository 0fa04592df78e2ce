use Rattle.run_tests.proofs.DeskLemmas.{none_wait}
use Rattle.run_tests.proofs.history.land.Goals as goal

pub give-requires-clause-waits : goal.give-requires-clause-waits
give-requires-clause-waits g c = none_wait _ _ _
