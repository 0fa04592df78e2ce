-- The begins of a round.
use Rattle.std.proofs.Common.{◌≡◌, ◌∙◌, ℕ, suc, ◌+◌, ◌%◌, ◌<◌, ◌≤◌, Bool, true, false, List, [], ◌∷◌, ◌++◌, length, refl, sym, ap, arith, Some, inl, inr, append_assoc, length-append}
use Rattle.std.specs.Prelude.{◌⊎◌, min, flat_map, nat_lt, nat_le, ◌&&◌}
use Rattle.std.specs.List.{range_with_len}
use Rattle.std.proofs.lemmas.Bool.{eqb-true, eqb-false, ltb-true, ltb-false, le-leb}
use Rattle.hy_base.specs.declared.record.EntryKind.{EntryKind}
use Rattle.hy_base.specs.declared.workload.Event.TheVariants.{Begin}
use Rattle.hy_base.specs.declared.workload.Phase.TheVariants.{Begun}
use Rattle.hy_base.specs.declared.workload.Session.{Session}
use Rattle.hy_base.specs.Lists.{change_nth}
use Rattle.hy_rules.specs.Moves.{State, board_of, home_server, may_begin, started}
use Rattle.hy_rules.specs.Runs.{may_happen, run, setting_of}
use Rattle.hy_rules.proofs.Backward.{next_state}
use Rattle.hy_gen.specs.Load.{program_count, script_of}
use Rattle.hy_gen.specs.Rounds.{begin_events, home, is_beginning, is_first, number_in, period}
use Rattle.hy_gen.proofs.Spots.{change_middle, nth_middle, run_both, run_one}
use Rattle.hy_gen.proofs.Steady.{AreAll, IsAmid, IsBeforeRound, IsBusy, IsIdleBehind, board_before, board_is, boards_before, calm_state, load_home, passes, home_total, starts_on_board, turn_in}
use Rattle.hy_gen.proofs.Turns.{home_within}

-- ---- one client

-- a client's session after the begins, and the events that lead to it
record ClientBegins (seed : ℕ) (readers : List Bool) (t client : ℕ) (log : List EntryKind) (done : List Session) (x : Session) (todo : List Session) : Type 0 where
  session : Session
  amid : IsAmid readers t client session
  leads : run (script_of seed (length readers)) (calm_state log (boards_before readers t) (done ++ x ∷ todo)) (begin_events (length readers) t client)
      ≡ Some (calm_state log (boards_before readers t) (done ++ session ∷ todo))

one_begins : (seed : ℕ) (readers : List Bool) (t client : ℕ) (log : List EntryKind) (done : List Session) (x : Session) (todo : List Session) → 1 ≤ client → client ≤ 8 → client ≡ length done + 1
    → IsBeforeRound readers t client x → ClientBegins seed readers t client log done x todo
one_begins seed readers t client log done x todo least most at before = go (is_first (home client) t) refl before.does
  where
    size : ℕ
    size = length readers

    turn : ℕ
    turn = turn_in t client

    count : ℕ
    count = program_count size client

    boards : List ℕ
    boards = boards_before readers t

    s : State
    s = calm_state log boards (done ++ x ∷ todo)

    Does : Type 0
    Does = (IsIdleBehind (min turn count) x × ((t % period (home client) ≡ 0) ⊎ (count ≤ turn))) ⊎ (IsBusy turn count x × (t % period (home client) ≡ 0 → ⊥))

    here : board_of s (home client) ≡ board_before readers t (home client)
    here = board_is readers t (home client) (home_within client).at_least (home_within client).at_most

    -- no event
    waits : is_beginning size t client ≡ false → (IsIdleBehind count x × (count ≤ turn)) ⊎ IsBusy turn count x → ClientBegins seed readers t client log done x todo
    waits none does = record { session = x; amid = record { last = before.last; does = does }; leads = rw none refl }

    enters : is_beginning size t client ≡ true → IsIdleBehind (min turn count) x → turn < count → ClientBegins seed readers t client log done x todo
    enters begins idle few =
        let board : ℕ = board_of s (home_server (setting_of (script_of seed size)) client) in
        let fits : nat_le x.next (length (load_home seed size client).programs) ≡ true = le-leb _ _ (let n = idle.next in omega (arith, n, few, home_total seed size client)) in
        let low : nat_le x.last (board_of s (home client)) ≡ true = le-leb _ _ (let l = before.last in omega (arith, l, here)) in
        let test : may_begin s (load_home seed size client) x ≡ true = rw (idle.phase, fits, low) refl in
        let may : may_happen (script_of seed size) s (Begin client) ≡ true =
        ap (λ b. b && true) (passes seed size client log boards (done ++ x ∷ todo) x (may_begin s) least most (nth_middle done x todo client at) ∙ test) in
        let next_is : next_state (script_of seed size) s (Begin client) ≡ calm_state log boards (done ++ record x { phase = Begun board } ∷ todo) =
        ap (λ start. calm_state log boards (change_nth (started start) (done ++ x ∷ todo) client)) (starts_on_board seed size client log boards (done ++ x ∷ todo) x least most (nth_middle done x todo client at))
        ∙ ap (calm_state log boards) (change_middle (λ (y : Session). record y { phase = Begun board }) done x todo client at) in
        record {
          session = record x { phase = Begun board };
          amid = record { last = before.last; does = inr (record { snap = board; phase = refl; next = let n = idle.next in omega (arith, n, few); left = few }) };
          leads = rw begins (run_one (script_of seed size) s (Begin client) may ∙ ap (λ n. Some n) next_is);
        }

    -- a round in which programs begin
    first : is_first (home client) t ≡ true → IsIdleBehind (min turn count) x → (c : Bool) → nat_lt (number_in client t) size ≡ c → ClientBegins seed readers t client log done x todo
    first is idle true below =
        let number = ltb-true (number_in client t) size below in
        enters (rw (is, below) refl) idle (omega (arith, number, least, most))
    first is idle false past =
        let number = ltb-false (number_in client t) size past in
        let behind : count ≤ turn = omega (arith, number, least, most) in
        waits (rw (is, past) refl) (inl (record { phase = idle.phase; next = let n = idle.next in omega (arith, n, behind) }, behind))

    go : (b : Bool) → is_first (home client) t ≡ b → Does → ClientBegins seed readers t client log done x todo
    go true is (inl (idle, free)) = first is idle (nat_lt (number_in client t) size) refl
    go true is (inr (busy, amid)) = absurd (amid (eqb-true _ _ is))
    go false is (inl (idle, inl first)) = absurd (eqb-false _ _ is first)
    go false is (inl (idle, inr past)) = waits (rw is refl) (inl (record { phase = idle.phase; next = let n = idle.next in omega (arith, n, past) }, past))
    go false is (inr (busy, amid)) = waits (rw is refl) (inr busy)

-- ---- all clients

-- the sessions after the begins of clients from a number on
pub record AllBegin (seed : ℕ) (readers : List Bool) (t client : ℕ) (log : List EntryKind) (done todo : List Session) : Type 0 where
  pub sessions : List Session
  pub amid : AreAll (IsAmid readers t) client sessions
  pub count : length sessions ≡ length todo
  pub leads : run (script_of seed (length readers)) (calm_state log (boards_before readers t) (done ++ todo)) (flat_map (begin_events (length readers) t) (range_with_len client (length todo)))
      ≡ Some (calm_state log (boards_before readers t) (done ++ sessions))

pub all_begin : (seed : ℕ) (readers : List Bool) (t client : ℕ) (log : List EntryKind) (done todo : List Session) → client ≡ length done + 1 → length done + length todo ≤ 8 → AreAll (IsBeforeRound readers t) client todo
    → AllBegin seed readers t client log done todo
all_begin seed readers t client log done [] at all before = record { sessions = []; amid = tt; count = refl; leads = refl }
all_begin seed readers t client log done (x ∷ todo) at all before =
    let size : ℕ = length readers in
    let one = one_begins seed readers t client log done x todo (omega (arith, at)) (omega (arith, at, all)) at before.0 in
    let more : length (done ++ one.session ∷ []) ≡ length done + 1 = length-append done (one.session ∷ []) in
    let rest = all_begin seed readers t (client + 1) log (done ++ one.session ∷ []) todo (omega (arith, at, more)) (omega (arith, all, more)) before.1 in
    let begun : done ++ one.session ∷ todo ≡ (done ++ one.session ∷ []) ++ todo = sym (append_assoc done (one.session ∷ []) todo) in
    let ended : (done ++ one.session ∷ []) ++ rest.sessions ≡ done ++ one.session ∷ rest.sessions = append_assoc done (one.session ∷ []) rest.sessions in
    record {
      sessions = one.session ∷ rest.sessions;
      amid = (one.amid, rest.amid);
      count = ap suc rest.count;
      leads = run_both (script_of seed size) _ (calm_state log (boards_before readers t) ((done ++ one.session ∷ []) ++ todo)) _ (begin_events size t client) (flat_map (begin_events size t) (range_with_len (client + 1) (length todo)))
          (one.leads ∙ ap (λ xs. Some (calm_state log (boards_before readers t) xs)) begun) (rest.leads ∙ ap (λ xs. Some (calm_state log (boards_before readers t) xs)) ended);
    }
