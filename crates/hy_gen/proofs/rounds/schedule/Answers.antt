use Rattle.std.proofs.Common.{rules, ◌≡◌, ◌∙◌, ◌+◌, ◌++◌, map, ℕ, List, sym, ap, arith}
use Rattle.std.specs.List.{range_with_len}
use Rattle.hy_base.specs.declared.workload.Event.{Event}
use Rattle.hy_gen.specs.Rounds.{log_len, events_in}
use Rattle.hy_gen.proofs.Ranges.{flat_map_next}
use Rattle.hy_gen.proofs.Lengths.{log_len_first}
use Rattle.hy_gen.proofs.rounds.schedule.Goals as goal

pub loop-round-init : goal.loop-round-init
loop-round-init c = record {
  events = c.new-events.ensures.items;
  lens = search (rules, c.in_ok-lens.ensures.items, log_len_first c.args.readers.now);
}

pub loop-round-preserved : goal.loop-round-preserved
loop-round-preserved c =
    let round = c.loop-round.round in
    let later : round + 1 + 1 ≡ round + 2 = omega arith in
    record {
      events = c.in_ok-add_round.ensures.events ∙ ap (λ (es : List Event). es ++ events_in c.args.readers.now round) c.loop-round.invariant.events ∙ sym (flat_map_next (events_in c.args.readers.now) 0 round round (omega arith));
      lens = c.in_ok-add_round.ensures.lens ∙ ap (λ (n : ℕ). map (log_len c.args.readers.now) (range_with_len 0 n)) (sym later);
    }
