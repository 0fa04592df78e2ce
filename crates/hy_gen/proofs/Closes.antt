-- The end of a round: its last group is completed, and servers publish.
use Rattle.std.proofs.Common.{None, ◌≡◌, ◌∙◌, ℕ, zero, suc, ◌+◌, ◌-◌, ◌*◌, ◌/◌, ◌%◌, ◌≤◌, Bool, true, false, List, [], ◌∷◌, ◌++◌, length, map, refl, sym, ap, arith, Some, append_assoc, length-append}
use Rattle.std.specs.Prelude.{flat_map, nat_lt, nat_le, replicate, unwrap_or, ◌&&◌, ◌==◌, if◌then◌else◌}
use Rattle.std.specs.List.{range_with_len, AllByRecursion}
use Rattle.std.proofs.lemmas.Bool.{eqb-true, eqb-false, eq-eqb, ltb-false, le-leb}
use Rattle.std.proofs.lemmas.List.{length-replicate}
use Rattle.hy_base.specs.declared.record.EntryKind.{EntryKind}
use Rattle.hy_base.specs.declared.record.EntryKind.TheVariants.{Filler}
use Rattle.hy_base.specs.declared.workload.Event.TheVariants.{Pad, Publish}
use Rattle.hy_base.specs.declared.workload.Session.{Session}
use Rattle.hy_rules.specs.Moves.{State, board_of, missing}
use Rattle.hy_rules.specs.Runs.{may_happen, run, setting_of}
use Rattle.hy_rules.proofs.Backward.{next_state}
use Rattle.hy_gen.specs.Load.{script_of}
use Rattle.hy_gen.specs.Rounds.{is_last, log_len, pads, period, publishes, whole}
use Rattle.hy_gen.specs.LoadLaws.{EntryCounts, LogCounts}
use Rattle.hy_gen.proofs.Bounds.{len_is_whole, len_rises}
use Rattle.hy_gen.proofs.Ends.{entries_both, entries_more}
use Rattle.hy_gen.proofs.Spots.{change_middle, nth_middle, run_both, run_one}
use Rattle.hy_gen.proofs.Steady.{board_before, calm_state, none_kept}
use Rattle.hy_gen.proofs.Turns.{IsPeriod, is_period, start}

-- ---- fillers

fillers_count : (bound n server : ℕ) → AllByRecursion (EntryCounts bound) (replicate n (Filler server))
fillers_count bound zero server = tt
fillers_count bound (suc n) server = (tt, fillers_count bound n server)

pub record EndsPadded (seed size : ℕ) (log : List EntryKind) (boards : List ℕ) (sessions : List Session) : Type 0 where
  pub after : List EntryKind
  pub counts : LogCounts after
  pub whole_now : length after ≡ whole (length log)
  pub leads : run (script_of seed size) (calm_state log boards sessions) (pads (length log)) ≡ Some (calm_state after boards sessions)

pub padded : (seed size : ℕ) (log : List EntryKind) (boards : List ℕ) (sessions : List Session) → LogCounts log → EndsPadded seed size log boards sessions
padded seed size log boards sessions counts = go (length log % 4 == 0) refl
  where
    go : (b : Bool) → (length log % 4 == 0) ≡ b → EndsPadded seed size log boards sessions
    go true is = let at_end = eqb-true _ _ is in record { after = log; counts = counts; whole_now = omega (arith, at_end); leads = rw is refl }
    go false is =
        let open_group = eqb-false _ _ is in
        let s : State = calm_state log boards sessions in
        let more : ℕ = missing (setting_of (script_of seed size)) (length log) in
        let after : List EntryKind = log ++ replicate more (Filler 1) in
        let may : may_happen (script_of seed size) s (Pad 1) ≡ true = rw is refl in
        let count : length after ≡ length log + more = length-append log (replicate more (Filler 1)) ∙ ap (λ n. length log + n) (length-replicate more (Filler 1)) in
        record {
          after = after;
          counts = entries_both (2 * length after) log (replicate more (Filler 1)) (entries_more (2 * length log) (2 * length after) log (omega (arith, count)) counts) (fillers_count (2 * length after) more 1);
          whole_now = omega (arith, count);
          leads = rw is (run_one (script_of seed size) s (Pad 1) may);
        }

-- ---- boards

one_publishes : (seed : ℕ) (readers : List Bool) (t server : ℕ) (log : List EntryKind) (done todo : List ℕ) (sessions : List Session) → 1 ≤ server → server ≤ 4 → server ≡ length done + 1 → length log ≡ log_len readers (t + 1)
    → run (script_of seed (length readers)) (calm_state log (done ++ board_before readers t server ∷ todo) sessions) (publishes (log_len readers) t server) ≡ Some (calm_state log (done ++ board_before readers (t + 1) server ∷ todo) sessions)
one_publishes seed readers t server log done todo sessions least most at long = go (is_last server t) refl
  where
    p : IsPeriod (period server)
    p = is_period server least most

    old : ℕ
    old = board_before readers t server

    upto : ℕ
    upto = log_len readers (t + 1)

    s : State
    s = calm_state log (done ++ old ∷ todo) sessions

    Goal : Type 0
    Goal = run (script_of seed (length readers)) s (publishes (log_len readers) t server) ≡ Some (calm_state log (done ++ board_before readers (t + 1) server ∷ todo) sessions)

    -- the events, by the board
    by_board : is_last server t ≡ true → publishes (log_len readers) t server ≡ (if nat_lt old upto then Publish server upto ∷ [] else [])
    by_board is =
        ap (λ b. if b && nat_lt (log_len readers (t + 1 - period server)) upto then Publish server upto ∷ [] else []) is
        ∙ ap (λ n. if nat_lt (log_len readers n) upto then Publish server upto ∷ [] else []) (p.from t (eqb-true _ _ is))

    now : is_last server t ≡ true → board_before readers (t + 1) server ≡ upto
    now is = ap (log_len readers) (p.begins (t + 1) (eqb-true _ _ is))

    last : is_last server t ≡ true → (b : Bool) → nat_lt old upto ≡ b → Goal
    last is true below =
        let events : publishes (log_len readers) t server ≡ Publish server upto ∷ [] = by_board is ∙ ap (λ b. if b then Publish server upto ∷ [] else []) below in
        let board : board_of s server ≡ old = ap (λ o. unwrap_or o 0) (nth_middle done old todo server at) in
        let ahead : nat_lt (board_of s server) upto ≡ true = ap (λ n. nat_lt n upto) board ∙ below in
        let low : nat_le 1 server ≡ true = le-leb 1 server least in
        let high : nat_le server 4 ≡ true = le-leb server 4 most in
        let at_end : (upto % 4 == 0) ≡ true = eq-eqb (upto % 4) 0 (len_is_whole readers (t + 1)) in
        let within : nat_le upto (length log) ≡ true = le-leb upto (length log) (omega (arith, long)) in
        let may : may_happen (script_of seed (length readers)) s (Publish server upto) ≡ true = λ i. ((low i && high i) && (at_end i && (ahead i && within i))) && true in
        let next_is : next_state (script_of seed (length readers)) s (Publish server upto) ≡ calm_state log (done ++ board_before readers (t + 1) server ∷ todo) sessions =
        (λ i. record { log = log; boards = (change_middle (λ _. upto) done old todo server at ∙ ap (λ b. done ++ b ∷ todo) (sym (now is))) i; earlier = none_kept (board_of s server) server least most i; sessions = sessions; armed = None }) in
        rw events (run_one (script_of seed (length readers)) s (Publish server upto) may ∙ ap (λ n. Some n) next_is)
    last is false past =
        let events : publishes (log_len readers) t server ≡ [] = by_board is ∙ ap (λ b. if b then Publish server upto ∷ [] else []) past in
        let low = p.low t in
        let same : old ≡ board_before readers (t + 1) server = omega (arith, now is, ltb-false old upto past, len_rises readers (start server t) (t + 1) (omega (arith, low))) in
        rw events (ap (λ b. Some (calm_state log (done ++ b ∷ todo) sessions)) same)

    go : (b : Bool) → is_last server t ≡ b → Goal
    go false is =
        let stays : (t + 1) / period server ≡ t / period server = p.stays t (eqb-false _ _ is) in
        let same : old ≡ board_before readers (t + 1) server = ap (λ n. log_len readers (n * period server)) (sym stays) in
        rw is (ap (λ b. Some (calm_state log (done ++ b ∷ todo) sessions)) same)
    go true is = last is (nat_lt old upto) refl

-- the boards of servers from a number on, before a round
abbrev pub boards_from : List Bool → ℕ → ℕ → ℕ → List ℕ
boards_from readers t server n = map (board_before readers t) (range_with_len server n)

pub all_publish : (seed : ℕ) (readers : List Bool) (t server n : ℕ) (log : List EntryKind) (done : List ℕ) (sessions : List Session) → server ≡ length done + 1 → length done + n ≤ 4 → length log ≡ log_len readers (t + 1)
    → run (script_of seed (length readers)) (calm_state log (done ++ boards_from readers t server n) sessions) (flat_map (publishes (log_len readers) t) (range_with_len server n))
    ≡ Some (calm_state log (done ++ boards_from readers (t + 1) server n) sessions)
all_publish seed readers t server zero log done sessions at all long = refl
all_publish seed readers t server (suc n) log done sessions at all long =
    let script = script_of seed (length readers) in
    let new : ℕ = board_before readers (t + 1) server in
    let one = one_publishes seed readers t server log done (boards_from readers t (server + 1) n) sessions (omega (arith, at)) (omega (arith, at, all)) at long in
    let more : length (done ++ new ∷ []) ≡ length done + 1 = length-append done (new ∷ []) in
    let rest = all_publish seed readers t (server + 1) n log (done ++ new ∷ []) sessions (omega (arith, at, more)) (omega (arith, all, more)) long in
    run_both script _ (calm_state log ((done ++ new ∷ []) ++ boards_from readers t (server + 1) n) sessions) _ (publishes (log_len readers) t server) (flat_map (publishes (log_len readers) t) (range_with_len (server + 1) n))
    (one ∙ ap (λ bs. Some (calm_state log bs sessions)) (sym (append_assoc done (new ∷ []) (boards_from readers t (server + 1) n))))
    (rest ∙ ap (λ bs. Some (calm_state log bs sessions)) (append_assoc done (new ∷ []) (boards_from readers (t + 1) (server + 1) n)))
