-- Round after round.
use Rattle.std.proofs.Common.{◌≡◌, ◌∙◌, ℕ, zero, suc, ◌+◌, ◌/◌, ◌≤◌, Bool, List, [], length, refl, sym, ap, subst, arith, Some, inl}
use Rattle.std.proofs.Math.Nat.{zero-div, zero-mod}
use Rattle.std.specs.Prelude.{flat_map, replicate}
use Rattle.std.specs.List.{range_with_len}
use Rattle.hy_base.specs.declared.record.EntryKind.{EntryKind}
use Rattle.hy_base.specs.declared.workload.Event.{Event}
use Rattle.hy_base.specs.declared.workload.Session.{Session}
use Rattle.hy_rules.specs.Moves.{State, fresh_session}
use Rattle.hy_rules.specs.Runs.{opening_of, run}
use Rattle.hy_gen.specs.Load.{script_of}
use Rattle.hy_gen.specs.Rounds.{append_count, begin_events, ends, events_in, home, log_len, pads, period, whole}
use Rattle.hy_gen.proofs.Lengths.{log_len_next, log_len_first}
use Rattle.hy_gen.specs.LoadLaws.{LogCounts}
use Rattle.hy_gen.proofs.Begins.{all_begin}
use Rattle.hy_gen.proofs.Bounds.{len_at_most, whole_least}
use Rattle.hy_gen.proofs.Closes.{all_publish, padded}
use Rattle.hy_gen.proofs.Ends.{KnowsReaders, all_end, appends_of}
use Rattle.hy_gen.proofs.Spots.{run_both}
use Rattle.hy_gen.proofs.Steady.{AreAll, IsBeforeRound, boards_before, calm_state}
use Rattle.hy_base.specs.Limits.{largest_load}

-- the state before a round
pub record IsSteadyRound (readers : List Bool) (t : ℕ) (log : List EntryKind) (sessions : List Session) : Type 0 where
  pub count : length sessions ≡ 8
  pub before : AreAll (IsBeforeRound readers t) 1 sessions
  pub long : length log ≡ log_len readers t
  pub counts : LogCounts log

-- the state that events lead to, before a round
pub record Reaches (seed : ℕ) (readers : List Bool) (s : State) (events : List Event) (t : ℕ) : Type 0 where
  pub log : List EntryKind
  pub sessions : List Session
  pub steady : IsSteadyRound readers t log sessions
  pub leads : run (script_of seed (length readers)) s events ≡ Some (calm_state log (boards_before readers t) sessions)

pub one_round : (seed : ℕ) (readers : List Bool) (t : ℕ) (log : List EntryKind) (sessions : List Session) → KnowsReaders seed readers → length readers ≤ largest_load → IsSteadyRound readers t log sessions
    → Reaches seed readers (calm_state log (boards_before readers t) sessions) (events_in readers t) (t + 1)
one_round seed readers t log sessions knows small steady =
    let script = script_of seed (length readers) in
    let count = steady.count in
    let long = steady.long in
    let begun = all_begin seed readers t 1 log [] sessions refl (omega (arith, count)) steady.before in
    let begun_count : length begun.sessions ≡ 8 = begun.count ∙ count in
    let total = append_count readers t in
    let appends : appends_of readers t 1 (length begun.sessions) ≡ total = ap (appends_of readers t 1) begun_count in
    let next = log_len_next readers t in
    let ended = all_end seed readers t 1 log [] begun.sessions knows small (len_at_most readers (t + 1)) refl (omega (arith, begun_count)) (omega (arith, long, appends, next, whole_least (log_len readers t + total))) steady.counts begun.amid in
    let longer = ended.longer in
    let full : length ended.after ≡ log_len readers t + total = omega (arith, longer, appends, long) in
    let whole_log = padded seed (length readers) ended.after (boards_before readers t) ended.sessions ended.counts in
    let final_len : length whole_log.after ≡ log_len readers (t + 1) = whole_log.whole_now ∙ ap whole full ∙ sym next in
    let published = all_publish seed readers t 1 4 whole_log.after [] ended.sessions refl (omega arith) final_len in
    record {
      log = whole_log.after;
      sessions = ended.sessions;
      steady = record { count = ended.count ∙ begun_count; before = ended.before; long = final_len; counts = whole_log.counts };
      leads = run_both script _ _ _ (flat_map (begin_events (length readers) t) (range_with_len 1 8)) _ (ap (λ n. run script (calm_state log (boards_before readers t) sessions) (flat_map (begin_events (length readers) t) (range_with_len 1 n))) (sym count) ∙ begun.leads)
          (run_both script _ _ _ (flat_map (ends readers t) (range_with_len 1 8)) _ (ap (λ n. run script (calm_state log (boards_before readers t) begun.sessions) (flat_map (ends readers t) (range_with_len 1 n))) (sym begun_count) ∙ ended.leads)
          (run_both script _ _ _ (pads (log_len readers t + total)) _ (ap (λ n. run script (calm_state ended.after (boards_before readers t) ended.sessions) (pads n)) (sym full) ∙ whole_log.leads) published));
    }

pub all_rounds : (seed : ℕ) (readers : List Bool) (n t : ℕ) (log : List EntryKind) (sessions : List Session) → KnowsReaders seed readers → length readers ≤ largest_load → IsSteadyRound readers t log sessions
    → Reaches seed readers (calm_state log (boards_before readers t) sessions) (flat_map (events_in readers) (range_with_len t n)) (t + n)
all_rounds seed readers zero t log sessions knows small steady =
    let same : t ≡ t + 0 = omega arith in
    record {
      log = log;
      sessions = sessions;
      steady = subst (λ (k : ℕ). IsSteadyRound readers k log sessions) same steady;
      leads = ap (λ k. Some (calm_state log (boards_before readers k) sessions)) same;
    }
all_rounds seed readers (suc n) t log sessions knows small steady =
    let one = one_round seed readers t log sessions knows small steady in
    let rest = all_rounds seed readers n (t + 1) one.log one.sessions knows small one.steady in
    let same : t + 1 + n ≡ t + suc n = omega arith in
    record {
      log = rest.log;
      sessions = rest.sessions;
      steady = subst (λ (k : ℕ). IsSteadyRound readers k rest.log rest.sessions) same rest.steady;
      leads = run_both (script_of seed (length readers)) _ _ _ (events_in readers t) (flat_map (events_in readers) (range_with_len (t + 1) n)) one.leads rest.leads ∙ ap (λ k. Some (calm_state rest.log (boards_before readers k) rest.sessions)) same;
    }

-- ---- the opening

at_first : (readers : List Bool) (client : ℕ) → 1 ≤ client → client ≤ 8 → IsBeforeRound readers 0 client fresh_session
at_first readers client least most =
    record {
      last = omega arith;
      does = inl (record { phase = refl; next = let none : 0 / period (home client) ≡ 0 = zero-div (period (home client)) in omega (arith, none) }, inl (zero-mod (period (home client))));
    }

pub opens : (seed : ℕ) (readers : List Bool) → opening_of (script_of seed (length readers)) [] ≡ calm_state [] (boards_before readers 0) (replicate 8 fresh_session)
unfolding log_len
opens seed readers = refl

pub steady_first : (readers : List Bool) → IsSteadyRound readers 0 [] (replicate 8 fresh_session)
steady_first readers = record {
  count = refl;
  before = (
    at_first readers 1 (omega arith) (omega arith),
    (
      at_first readers 2 (omega arith) (omega arith),
      (
        at_first readers 3 (omega arith) (omega arith),
        (
          at_first readers 4 (omega arith) (omega arith),
          (at_first readers 5 (omega arith) (omega arith), (at_first readers 6 (omega arith) (omega arith), (at_first readers 7 (omega arith) (omega arith), (at_first readers 8 (omega arith) (omega arith), tt)))),
        ),
      ),
    ),
  );
  long = sym (log_len_first readers);
  counts = tt;
}
