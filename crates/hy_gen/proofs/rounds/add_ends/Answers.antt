use Rattle.std.proofs.Common.{◌≡◌, ◌∙◌, ap, ℕ, arith, ◌-◌, ◌++◌}
use Rattle.std.specs.Prelude.{sum_by}
use Rattle.std.specs.List.{range_with_len, flat_map}
use Rattle.hy_gen.specs.Rounds.{ends, ending, entry_count}
use Rattle.hy_gen.proofs.Ranges.{added_next, sum_next}
use Rattle.hy_gen.proofs.rounds.add_ends.Goals as goal

pub loop-client-preserved : goal.loop-client-preserved
loop-client-preserved c =
    let f : ℕ → ℕ = λ client. entry_count (ending c.args.readers.now c.args.round client) in
    record {
      events = added_next (ends c.args.readers.now c.args.round) c.args.events.now.items _ _ 1 c.loop-client.client c.loop-client.invariant.events c.in_ok-entries.ensures.events c.loop-client.auto.client;
      entries = cc (sum_next f 1 c.loop-client.client c.loop-client.auto.client, c.in_ok-entries.ensures.entries, c.loop-client.invariant.entries);
      few = omega (arith, c.loop-client.invariant.few, c.in_ok-entries.ensures.few, c.loop-client.auto.client);
    }

pub returns-clause-events : goal.returns-clause-events
returns-clause-events c =
    let all : c.loop-client.client - 1 ≡ 8 = omega (arith, c.loop-client-test.false, c.loop-client.auto.client, c.loop-client.auto.client-end) in
    c.loop-client.invariant.events ∙ ap (λ (n : ℕ). c.args.events.now.items ++ flat_map (ends c.args.readers.now c.args.round) (range_with_len 1 n)) all

pub returns-clause-append_count : goal.returns-clause-append_count
returns-clause-append_count c =
    let all : c.loop-client.client - 1 ≡ 8 = omega (arith, c.loop-client-test.false, c.loop-client.auto.client, c.loop-client.auto.client-end) in
    c.loop-client.invariant.entries ∙ ap (λ (n : ℕ). sum_by (λ client. entry_count (ending c.args.readers.now c.args.round client)) (range_with_len 1 n)) all
