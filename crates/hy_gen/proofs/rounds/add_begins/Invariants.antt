use Rattle.std.proofs.Common.{◌≡◌, ◌-◌, ◌++◌}
use Rattle.std.specs.List.{range_with_len, flat_map}
use Rattle.hy_gen.specs.Rounds.{begin_events}
use Rattle.hy_gen.proofs.rounds.add_begins.Given as goal

abbrev pub invariant-loop-client : goal.invariant-loop-client
invariant-loop-client l = l.events.items ≡ l.fn.events.items ++ flat_map (begin_events l.size l.round) (range_with_len 1 (l.client - 1))
