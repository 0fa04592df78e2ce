-- The schedule of a load.
use Rattle.std.proofs.Common.{◌≡◌, ◌∙◌, ℕ, ◌+◌, ◌*◌, ◌≤◌, Bool, List, [], length, map, ap, subst, arith, Some}
use Rattle.std.specs.Prelude.{replicate}
use Rattle.std.specs.List.{range_with_len}
use Rattle.std.proofs.lemmas.List.FromFn.{length-map-range_with_len}
use Rattle.hy_base.specs.Limits.{IsLoadSize}
use Rattle.hy_rules.specs.Moves.{State, fresh_session}
use Rattle.hy_rules.specs.Runs.{opening_of, run}
use Rattle.hy_rules.proofs.Backward.{none_disabled}
use Rattle.hy_gen.specs.Draws.{reads_only}
use Rattle.hy_gen.specs.Load.{schedule_of, script_of}
use Rattle.hy_gen.specs.Rounds.{round_count, schedule}
use Rattle.hy_gen.specs.LoadLaws.{LogCounts, ScheduleIsEnabled, ScheduleLeads}
use Rattle.hy_gen.proofs.Bounds.{len_at_most}
use Rattle.hy_gen.proofs.Ends.{KnowsReaders}
use Rattle.hy_gen.proofs.RoundByRound.{all_rounds, opens, steady_first}
use Rattle.hy_gen.proofs.Spots.{get_ranged}
use Rattle.hy_gen.proofs.Steady.{boards_before, calm_state}

-- the list that the schedule goes by
abbrev readers_of : ℕ → ℕ → List Bool
readers_of seed size = map (reads_only seed) (range_with_len 0 size)

knows_all : (seed size : ℕ) → KnowsReaders seed (readers_of seed size)
knows_all seed size number below =
    let count : length (readers_of seed size) ≡ size = length-map-range_with_len (reads_only seed) 0 size in
    let at : 0 + number ≡ number = omega arith in
    get_ranged (reads_only seed) 0 size number (omega (arith, below, count)) ∙ ap (λ n. Some (reads_only seed n)) at

-- the end of the schedule
record ScheduleEnds (seed size : ℕ) : Type 0 where
  end : State
  leads : run (script_of seed size) (opening_of (script_of seed size) []) (schedule_of seed size) ≡ Some end
  long : length end.log ≤ 4 * size
  counts : LogCounts end.log

ends : (seed size : ℕ) → IsLoadSize size → ScheduleEnds seed size
ends seed size within =
    let readers = readers_of seed size in
    let count : length readers ≡ size = length-map-range_with_len (reads_only seed) 0 size in
    let small = within.at_most in
    let all = all_rounds seed readers (round_count (length readers)) 0 [] (replicate 8 fresh_session) (knows_all seed size) (omega (arith, count, small)) (steady_first readers) in
    let long = all.steady.long in
    let end : State = calm_state all.log (boards_before readers (0 + round_count (length readers))) all.sessions in
    let leads = ap (λ s. run (script_of seed (length readers)) s (schedule readers)) (opens seed readers) ∙ all.leads in
    record {
      end = end;
      leads = subst (λ (n : ℕ). run (script_of seed n) (opening_of (script_of seed n) []) (schedule readers) ≡ Some end) count leads;
      long = omega (arith, long, count, len_at_most readers (0 + round_count (length readers)));
      counts = all.steady.counts;
    }

pub schedule_is_enabled : ScheduleIsEnabled
schedule_is_enabled seed size within = let e = ends seed size within in none_disabled (script_of seed size) (schedule_of seed size) (opening_of (script_of seed size) []) e.end e.leads

pub schedule_leads : ScheduleLeads
schedule_leads seed size within = let e = ends seed size within in rw e.leads (e.long, e.counts)
