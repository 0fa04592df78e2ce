use Rattle.std.proofs.Common.{◌≡◌, ◌∙◌, ap, length}
use Rattle.hy_base.proofs.ListLemmas.{take_written}
use Rattle.run_tests.proofs.hub.run_beside.Goals as goal

pub join_last-other_done-requires-clause-trial : goal.join_last-other_done-requires-clause-trial
join_last-other_done-requires-clause-trial g c =
    let errands = c.in_ok-errands.errands in
    let new = c.run_errands.new.errands in
    let count : length new ≡ length errands.items = c.run_errands.ensures.count ∙ ap length c.deref_mut.ensures.value in
    rw (take_written errands.len new errands.items errands.ok.0 count) c.run_errands.ensures.trial
