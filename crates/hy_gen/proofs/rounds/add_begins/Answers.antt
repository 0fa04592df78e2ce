use Rattle.std.proofs.Common.{◌≡◌, ◌∙◌, ◌-◌, ◌++◌, ℕ, ap, arith}
use Rattle.std.specs.List.{range_with_len, flat_map}
use Rattle.hy_gen.specs.Rounds.{begin_events}
use Rattle.hy_gen.proofs.Ranges.{added_next}
use Rattle.hy_gen.proofs.rounds.add_begins.Goals as goal

pub loop-client-preserved : goal.loop-client-preserved
loop-client-preserved c =
    added_next (begin_events c.args.size c.args.round) c.args.events.now.items _ _ 1 c.loop-client.client c.loop-client.invariant c.in_ok-add_begin.ensures c.loop-client.auto.client

pub returns : goal.returns
returns c =
    let all : c.loop-client.client - 1 ≡ 8 = omega (arith, c.loop-client-test.false, c.loop-client.auto.client, c.loop-client.auto.client-end) in
    c.loop-client.invariant ∙ ap (λ (n : ℕ). c.args.events.now.items ++ flat_map (begin_events c.args.size c.args.round) (range_with_len 1 n)) all
