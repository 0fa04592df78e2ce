-- The ends of a round.
use Rattle.std.proofs.Common.{◌≡◌, ◌∙◌, ℕ, suc, ◌+◌, ◌-◌, ◌*◌, ◌/◌, ◌%◌, ◌<◌, ◌≤◌, Bool, true, false, List, [], ◌∷◌, ◌++◌, length, refl, sym, ap, arith, Some, None, inl, inr, append_assoc, length-append, lt-ltb, take}
use Rattle.std.specs.Option.{option_map_or}
use Rattle.std.specs.Prelude.{◌⊎◌, min, flat_map, sum_by, nat_lt, not, option_map, option_to_list, slice_get, ◌&&◌}
use Rattle.std.specs.List.{range_with_len, AllByRecursion}
use Rattle.std.proofs.lemmas.Bool.{eqb-true, eqb-false}
use Rattle.std.proofs.lemmas.List.Sums.{sum_by-cons}
use Rattle.std.proofs.lemmas.Option.{slice_get_past}
use Rattle.hy_base.specs.declared.record.EntryKind.{EntryKind}
use Rattle.hy_base.specs.declared.record.EntryKind.TheVariants.{Filler, Txn}
use Rattle.hy_base.specs.declared.record.Write.{Write}
use Rattle.hy_base.specs.declared.workload.Event.TheVariants.{Append, End}
use Rattle.hy_base.specs.declared.workload.Phase.TheVariants.{Begun}
use Rattle.hy_base.specs.declared.workload.Session.{Session}
use Rattle.hy_base.specs.Lists.{change_nth, nth}
use Rattle.hy_base.specs.Limits.{largest_load}
use Rattle.hy_rules.specs.Exec.{Effects, exec, intention}
use Rattle.hy_rules.specs.Moves.{State, appended, at_next_program, client_passes, home_server, is_begun}
use Rattle.hy_rules.specs.Runs.{added, begun_snap, leaves_write, may_happen, pending, run, setting_of}
use Rattle.hy_rules.specs.Validation.{live}
use Rattle.hy_rules.proofs.Backward.{next_state}
use Rattle.hy_gen.specs.Draws.{reads_only}
use Rattle.hy_gen.specs.Load.{program_count, program_numbered, script_of, shape_for}
use Rattle.hy_gen.specs.Rounds.{ending, ends, entry_count, home, is_last, log_len, number_in, period}
use Rattle.hy_gen.specs.LoadLaws.{CountsUpTo, EntryCounts, LogCounts}
use Rattle.hy_gen.proofs.Bounds.{len_rises}
use Rattle.hy_gen.proofs.Counting.{live_counts}
use Rattle.hy_gen.proofs.Leaving.{ProgramLeaves, program_leaves}
use Rattle.hy_gen.proofs.Spots.{change_middle, nth_middle, run_both, run_one}
use Rattle.hy_gen.proofs.Steady.{AreAll, IsAmid, IsBeforeRound, IsBusy, IsIdleBehind, board_before, boards_before, calm_state, passes, program_is, turn_in}
use Rattle.hy_gen.proofs.Turns.{IsPeriod, home_within, is_period, start}

-- ---- logs that grow

writes_more : (bound more : ℕ) (ws : List Write) → bound ≤ more → AllByRecursion (CountsUpTo bound) ws → AllByRecursion (CountsUpTo more) ws
writes_more bound more [] le a = tt
writes_more bound more (w ∷ ws) le a = ((λ low. let h = a.0 low in (h.0, omega (arith, h.1, le), h.2)), writes_more bound more ws le a.1)

entry_more : (bound more : ℕ) (e : EntryKind) → bound ≤ more → EntryCounts bound e → EntryCounts more e
entry_more bound more (Filler server) le a = tt
entry_more bound more (Txn i) le a = writes_more bound more i.writes le a

pub entries_more : (bound more : ℕ) (log : List EntryKind) → bound ≤ more → AllByRecursion (EntryCounts bound) log → AllByRecursion (EntryCounts more) log
entries_more bound more [] le a = tt
entries_more bound more (e ∷ es) le a = (entry_more bound more e le a.0, entries_more bound more es le a.1)

pub entries_both : (bound : ℕ) (xs ys : List EntryKind) → AllByRecursion (EntryCounts bound) xs → AllByRecursion (EntryCounts bound) ys → AllByRecursion (EntryCounts bound) (xs ++ ys)
entries_both bound [] ys a b = b
entries_both bound (x ∷ xs) ys a b = (a.0, entries_both bound xs ys a.1 b)

-- ---- what the client's program leaves

-- the effects of the program with a number on a snapshot of a log
abbrev effects_of : ℕ → ℕ → ℕ → List EntryKind → ℕ → Effects
effects_of seed size number log snap = (exec (program_numbered seed number) (live (shape_for size) log snap)).1

abbrev entry_for : ℕ → ℕ → ℕ → ℕ → List EntryKind → ℕ → EntryKind
entry_for seed size client number log snap = Txn (intention (home client) client snap (effects_of seed size number log snap))

pending_is : (seed size client turn snap : ℕ) (log : List EntryKind) (boards : List ℕ) (sessions : List Session) (x : Session) → 1 ≤ client → client ≤ 8 → turn < program_count size client
    → nth sessions client ≡ Some x → x.phase ≡ Begun snap → x.next ≡ suc turn
    → pending (script_of seed size) (calm_state log boards sessions) client ≡ Some (effects_of seed size (8 * turn + (client - 1)) log snap)
pending_is seed size client turn snap log boards sessions x least most few is begun next =
    rw (is, begun, next) (ap (λ p. option_map (λ done. done.1) (option_map (λ p. exec p (live (shape_for size) log snap)) p)) (program_is seed size client turn least most few))

-- ---- one client

pub record ClientEnds (seed : ℕ) (readers : List Bool) (t client : ℕ) (log : List EntryKind) (done : List Session) (x : Session) (todo : List Session) : Type 0 where
  after : List EntryKind
  session : Session
  before : IsBeforeRound readers (t + 1) client session
  counts : LogCounts after
  longer : length after ≡ length log + entry_count (ending readers t client)
  leads : run (script_of seed (length readers)) (calm_state log (boards_before readers t) (done ++ x ∷ todo)) (ends readers t client)
      ≡ Some (calm_state after (boards_before readers t) (done ++ session ∷ todo))

-- the list says of each program whether it only reads
abbrev pub KnowsReaders : ℕ → List Bool → Type 0
KnowsReaders seed readers = (number : ℕ) → number < length readers → slice_get readers number ≡ Some (reads_only seed number)

module _ (seed : ℕ) (readers : List Bool) (t client : ℕ) (log : List EntryKind) (done : List Session) (x : Session) (todo : List Session) (least : 1 ≤ client) (most : client ≤ 8) (at : client ≡ length done + 1)
    (knows : KnowsReaders seed readers) (small : length readers ≤ largest_load) (room : length log + entry_count (ending readers t client) ≤ log_len readers (t + 1)) (bound : log_len readers (t + 1) ≤ 4 * length readers)
    (counts : LogCounts log) (amid : IsAmid readers t client x) where
  abbrev size : ℕ
  size = length readers

  abbrev turn : ℕ
  turn = turn_in t client

  abbrev count : ℕ
  count = program_count size client

  abbrev number : ℕ
  number = 8 * turn + (client - 1)

  abbrev boards : List ℕ
  boards = boards_before readers t

  abbrev s : State
  s = calm_state log boards (done ++ x ∷ todo)

  p : IsPeriod (period (home client))
  p = is_period (home client) (home_within client).at_least (home_within client).at_most

  abbrev Does : Type 0
  Does = (IsIdleBehind count x × (count ≤ turn)) ⊎ IsBusy turn count x

  here : nth (done ++ x ∷ todo) client ≡ Some x
  here = nth_middle done x todo client at

  -- no event
  waits : ending readers t client ≡ None → IsBeforeRound readers (t + 1) client x → ClientEnds seed readers t client log done x todo
  waits none before = record {
    after = log;
    session = x;
    before = before;
    counts = counts;
    longer = let no : entry_count (ending readers t client) ≡ 0 = ap entry_count none in omega (arith, no);
    leads = rw none refl;
  }

  -- a program's rounds go on
  goes_on : is_last (home client) t ≡ false → Does → ClientEnds seed readers t client log done x todo
  goes_on is does =
      let amidst = eqb-false _ _ is in
      let stays : (t + 1) / period (home client) ≡ turn = p.stays t amidst in
      let board : board_before readers (t + 1) (home client) ≡ board_before readers t (home client) = ap (λ n. log_len readers (n * period (home client))) stays in
      waits (rw is refl) (record {
        last = let l = amid.last in omega (arith, l, board);
        does = elim does [
          | inl idle ↦ inl (record { phase = idle.0.phase; next = let n = idle.0.next in let past = idle.1 in omega (arith, n, stays, past) }, inr (let past = idle.1 in omega (arith, past, stays)))
          | inr busy ↦ inr (record { snap = busy.snap; phase = busy.phase; next = let n = busy.next in omega (arith, n, stays); left = let few = busy.left in omega (arith, few, stays) }, amidst)
        ];
      })

  -- the last of a program's rounds
  ends_now : is_last (home client) t ≡ true → (t + 1) % period (home client) ≡ 0
  ends_now is = eqb-true _ _ is

  board_rises : is_last (home client) t ≡ true → board_before readers t (home client) ≤ board_before readers (t + 1) (home client)
  board_rises is =
      let low = p.low t in
      let later = p.begins (t + 1) (ends_now is) in
      len_rises readers (start (home client) t) (start (home client) (t + 1)) (omega (arith, low, later))

  idles : is_last (home client) t ≡ true → IsIdleBehind count x → count ≤ turn → ClientEnds seed readers t client log done x todo
  idles is idle past =
      let turns = p.turns t (ends_now is) in
      waits (rw (is, slice_get_past readers (number_in client t) (omega (arith, past, least, most))) refl) (record {
        last = let l = amid.last in omega (arith, l, board_rises is);
        does = inl (record { phase = idle.phase; next = let n = idle.next in omega (arith, n, past, turns) }, inl (ends_now is));
      })

  ending_is : is_last (home client) t ≡ true → turn < count → ending readers t client ≡ Some (reads_only seed number)
  ending_is is few = rw (is, knows number (omega (arith, few, least, most))) refl

  -- what the program leaves
  left : (snap : ℕ) → ProgramLeaves (reads_only seed number) (2 * length log + 2) (effects_of seed size number log snap).writes
  left snap = program_leaves seed number (2 * length log) (live (shape_for size) log snap) (omega (arith, room, bound, small)) (λ key low. live_counts (2 * length log) (shape_for size) log snap key low counts)

  waiting : (busy : IsBusy turn count x) → pending (script_of seed size) s client ≡ Some (effects_of seed size number log busy.snap)
  waiting busy = pending_is seed size client turn busy.snap log boards (done ++ x ∷ todo) x least most busy.left here busy.phase busy.next

  wrote : (busy : IsBusy turn count x) → leaves_write (script_of seed size) s client ≡ nat_lt 0 (length (effects_of seed size number log busy.snap).writes)
  wrote busy = ap (λ o. option_map_or (λ (e : Effects). nat_lt 0 (length e.writes)) o false) (waiting busy)

  begun : (busy : IsBusy turn count x) → client_passes (setting_of (script_of seed size)) s client (λ home session. is_begun session.phase) ≡ true
  begun busy = passes seed size client log boards (done ++ x ∷ todo) x (λ home session. is_begun session.phase) least most here ∙ ap is_begun busy.phase

  -- idle again, with one program more behind
  idle_again : is_last (home client) t ≡ true → IsBusy turn count x → IsIdleBehind (min (turn_in (t + 1) client) count) (at_next_program x)
  idle_again is busy = let turns = p.turns t (ends_now is) in record { phase = refl; next = let n = busy.next in let few = busy.left in omega (arith, n, few, turns) }

  -- a program that only read ends by itself
  finishes : is_last (home client) t ≡ true → IsBusy turn count x → reads_only seed number ≡ true → ClientEnds seed readers t client log done x todo
  finishes is busy reads =
      let quiet : leaves_write (script_of seed size) s client ≡ false = wrote busy ∙ ap (λ (ws : List Write). nat_lt 0 (length ws)) ((left busy.snap).none reads) in
      let may : may_happen (script_of seed size) s (End client) ≡ true = λ i. begun busy i && not (quiet i) in
      let ends_so : ending readers t client ≡ Some true = ending_is is busy.left ∙ ap (λ r. Some r) reads in
      let next_is : next_state (script_of seed size) s (End client) ≡ calm_state log boards (done ++ at_next_program x ∷ todo) = ap (calm_state log boards) (change_middle at_next_program done x todo client at) in
      record {
        after = log;
        session = at_next_program x;
        before = record { last = let l = amid.last in omega (arith, l, board_rises is); does = inl (idle_again is busy, inl (ends_now is)) };
        counts = counts;
        longer = omega (arith, ap entry_count ends_so);
        leads = rw ends_so (run_one (script_of seed size) s (End client) may ∙ ap (λ n. Some n) next_is);
      }

  -- a program that wrote is appended
  appends : is_last (home client) t ≡ true → IsBusy turn count x → reads_only seed number ≡ false → ClientEnds seed readers t client log done x todo
  appends is busy reads =
      let leaves = left busy.snap in
      let effects : Effects = effects_of seed size number log busy.snap in
      let loud : leaves_write (script_of seed size) s client ≡ true = wrote busy ∙ lt-ltb 0 (length effects.writes) (leaves.some reads) in
      let ends_so : ending readers t client ≡ Some false = ending_is is busy.left ∙ ap (λ r. Some r) reads in
      let one : entry_count (ending readers t client) ≡ 1 = ap entry_count ends_so in
      let free : nat_lt (length log) (8 * size) ≡ true = lt-ltb (length log) (8 * size) (omega (arith, room, bound, one)) in
      let may : may_happen (script_of seed size) s (Append client) ≡ true = λ i. (begun busy i && free i) && loud i in
      let entry : EntryKind = Txn (intention (home_server (setting_of (script_of seed size)) client) client (begun_snap s client) effects) in
      let own : added (script_of seed size) s (Append client) ≡ entry ∷ [] =
      ap (λ o. take 1 (option_to_list (option_map (λ (e : Effects). Txn (intention (home_server (setting_of (script_of seed size)) client) client (begun_snap s client) e)) o))) (waiting busy) in
      let session : Session = appended (entry ∷ []) (length log) x in
      let next_is : next_state (script_of seed size) s (Append client) ≡ calm_state (log ++ entry ∷ []) boards (done ++ session ∷ todo) =
      ap (λ (es : List EntryKind). calm_state (log ++ es) boards (change_nth (appended es (length log)) (done ++ x ∷ todo) client)) own
      ∙ ap (calm_state (log ++ entry ∷ []) boards) (change_middle (appended (entry ∷ []) (length log)) done x todo client at) in
      let more : length (log ++ entry ∷ []) ≡ length log + 1 = length-append log (entry ∷ []) in
      let idle = idle_again is busy in
      let board : board_before readers (t + 1) (home client) ≡ log_len readers (t + 1) = ap (log_len readers) (p.begins (t + 1) (ends_now is)) in
      record {
        after = log ++ entry ∷ [];
        session = session;
        before = record { last = omega (arith, room, one, board); does = inl (record { phase = refl; next = idle.next }, inl (ends_now is)) };
        counts = entries_both (2 * length (log ++ entry ∷ [])) log (entry ∷ []) (entries_more (2 * length log) (2 * length (log ++ entry ∷ [])) log (omega (arith, more)) counts)
            (writes_more (2 * length log + 2) (2 * length (log ++ entry ∷ [])) effects.writes (omega (arith, more)) leaves.counts, tt);
        longer = omega (arith, more, one);
        leads = rw ends_so (run_one (script_of seed size) s (Append client) may ∙ ap (λ n. Some n) next_is);
      }

  ends_by : is_last (home client) t ≡ true → IsBusy turn count x → (r : Bool) → reads_only seed number ≡ r → ClientEnds seed readers t client log done x todo
  ends_by is busy true reads = finishes is busy reads
  ends_by is busy false reads = appends is busy reads

  go : (b : Bool) → is_last (home client) t ≡ b → Does → ClientEnds seed readers t client log done x todo
  go false is does = goes_on is does
  go true is (inl (idle, past)) = idles is idle past
  go true is (inr busy) = ends_by is busy (reads_only seed number) refl

  one_ends : ClientEnds seed readers t client log done x todo
  one_ends = go (is_last (home client) t) refl amid.does

-- ---- all clients

-- how many entries clients from a number on append
abbrev pub appends_of : List Bool → ℕ → ℕ → ℕ → ℕ
appends_of readers t client n = sum_by (λ c. entry_count (ending readers t c)) (range_with_len client n)

pub record AllEnd (seed : ℕ) (readers : List Bool) (t client : ℕ) (log : List EntryKind) (done todo : List Session) : Type 0 where
  pub after : List EntryKind
  pub sessions : List Session
  pub before : AreAll (IsBeforeRound readers (t + 1)) client sessions
  pub count : length sessions ≡ length todo
  pub counts : LogCounts after
  pub longer : length after ≡ length log + appends_of readers t client (length todo)
  pub leads : run (script_of seed (length readers)) (calm_state log (boards_before readers t) (done ++ todo)) (flat_map (ends readers t) (range_with_len client (length todo)))
      ≡ Some (calm_state after (boards_before readers t) (done ++ sessions))

pub all_end : (seed : ℕ) (readers : List Bool) (t client : ℕ) (log : List EntryKind) (done todo : List Session) → KnowsReaders seed readers → length readers ≤ largest_load → log_len readers (t + 1) ≤ 4 * length readers
    → client ≡ length done + 1 → length done + length todo ≤ 8 → length log + appends_of readers t client (length todo) ≤ log_len readers (t + 1) → LogCounts log → AreAll (IsAmid readers t) client todo
    → AllEnd seed readers t client log done todo
all_end seed readers t client log done [] knows small bound at all room counts amid = record { after = log; sessions = []; before = tt; count = refl; counts = counts; longer = omega arith; leads = refl }
all_end seed readers t client log done (x ∷ todo) knows small bound at all room counts amid =
    let script = script_of seed (length readers) in
    let sum : appends_of readers t client (length (x ∷ todo)) ≡ entry_count (ending readers t client) + appends_of readers t (client + 1) (length todo) = sum_by-cons (λ c. entry_count (ending readers t c)) client (range_with_len (client + 1) (length todo)) in
    let one = one_ends seed readers t client log done x todo (omega (arith, at)) (omega (arith, at, all)) at knows small (omega (arith, room, sum)) bound counts amid.0 in
    let longer = one.longer in
    let more : length (done ++ one.session ∷ []) ≡ length done + 1 = length-append done (one.session ∷ []) in
    let rest = all_end seed readers t (client + 1) one.after (done ++ one.session ∷ []) todo knows small bound (omega (arith, at, more)) (omega (arith, all, more)) (omega (arith, room, sum, longer)) one.counts amid.1 in
    let last = rest.longer in
    let begun : done ++ one.session ∷ todo ≡ (done ++ one.session ∷ []) ++ todo = sym (append_assoc done (one.session ∷ []) todo) in
    let ended : (done ++ one.session ∷ []) ++ rest.sessions ≡ done ++ one.session ∷ rest.sessions = append_assoc done (one.session ∷ []) rest.sessions in
    record {
      after = rest.after;
      sessions = one.session ∷ rest.sessions;
      before = (one.before, rest.before);
      count = ap suc rest.count;
      counts = rest.counts;
      longer = omega (arith, last, longer, sum);
      leads = run_both script _ (calm_state one.after (boards_before readers t) ((done ++ one.session ∷ []) ++ todo)) _ (ends readers t client) (flat_map (ends readers t) (range_with_len (client + 1) (length todo)))
          (one.leads ∙ ap (λ xs. Some (calm_state one.after (boards_before readers t) xs)) begun) (rest.leads ∙ ap (λ xs. Some (calm_state rest.after (boards_before readers t) xs)) ended);
    }
