-- A finished run executes serially: in its turn each committed program finds what it read on its snapshot.
use Rattle.std.proofs.Common.{◌≡◌, ◌∙◌, ℕ, zero, suc, ◌+◌, ◌/◌, ◌%◌, ◌<◌, ◌≤◌, Bool, true, false, cond, List, [], ◌∷◌, length, map, refl, sym, ap, subst, arith}
use mathlib.Core.Bool.{true≢false}
use Rattle.std.proofs.lemmas.Bool.{and_parts, or_left, or_right, eqb-true, eq-eqb, lt-ltb, ltb-true, leb-true}
use Rattle.std.proofs.Math.Nat.{mul-div-le}
use Rattle.std.specs.Prelude.{IsTrue, Option, Some, None, ◌==◌, nat_lt, nat_le, is_some, option_map, option_and_then, slice_get, if◌then◌else◌}
use Rattle.std.specs.Option.{option_map_or}
use Rattle.std.specs.List.{AllByRecursion, list_any}
use Rattle.hy_base.specs.declared.record.Isolation.{Isolation}
use Rattle.hy_base.specs.declared.record.Isolation.TheVariants.{Serializable, Snapshot}
use Rattle.hy_base.specs.declared.record.EntryKind.{EntryKind}
use Rattle.hy_base.specs.declared.record.EntryKind.TheVariants.{Filler, Txn}
use Rattle.hy_base.specs.declared.record.Intention.{Intention}
use Rattle.hy_base.specs.declared.record.Span.{Span}
use Rattle.hy_base.specs.declared.record.Verdict.{Verdict}
use Rattle.hy_base.specs.declared.record.Verdict.TheVariants.{Commit, Old, Pre, Mate, Final}
use Rattle.hy_base.specs.declared.report.Answer.{Answer}
use Rattle.hy_base.specs.declared.report.Pair.{Pair}
use Rattle.hy_base.specs.declared.workload.Event.{Event}
use Rattle.hy_base.specs.declared.workload.Program.{Program}
use Rattle.hy_base.specs.Entry.{is_in_span, is_rising, touches}
use Rattle.hy_base.specs.Script.{Workload}
use Rattle.hy_base.proofs.ListLemmas.{all_map, item_at}
use Rattle.hy_rules.specs.Exec.{Effects, no_effects, pair_before, after_writes, exec, intention}
use Rattle.hy_rules.specs.History.{committed_at, writes_at, history}
use Rattle.hy_base.specs.Verdicts.{is_commit}
use Rattle.hy_rules.specs.RuleLaws.{NothingWrittenSince, FirstWins}
use Rattle.hy_rules.specs.Moves.{State}
use Rattle.hy_rules.specs.Runs.{opening_of, program_of, Ending, ByReading, ByEntryAt, ByFull, ByStop, ByPast, ByNotYet, Ended, ended_in, answers_on, answers_to, verdict_at}
use Rattle.hy_rules.specs.Validation.{verdicts, live}
use Rattle.hy_rules.proofs.EffectLemmas.{AreAt}
use Rattle.hy_rules.proofs.Serial.{first_committer_wins}
use Rattle.hy_rules.proofs.Whole.{finished_log_is_whole}
use Rattle.hy_rules.specs.Serial.{SerialRun, serial_run, is_entry_at, rerun, recorded, serial_writes, serial_step, serial_maps, serial_map, serial_answers, reads_after, CommitsSerially, ReadsSerially, ExecutesSerially}
use Rattle.hy_serial_laws.specs.SerialLaws.{CommittedRunsSerially, OnlyTouchedKeysCount}
use Rattle.hy_serial_laws.proofs.Pairs.{AllPairs-map, PairsRise, kept}
use Rattle.hy_serial_laws.proofs.Agreement.{Covers, same_all}
use Rattle.hy_serial_laws.proofs.Maps.{write_of, writes_of_rows}
use Rattle.hy_serial_laws.proofs.Histories.{first_map, first_map_rises, next_map, live_is_first, all_judged, same_as_snapshot}
use Rattle.hy_serial_laws.proofs.Told.{IsLeftByProgram, EntryTold, ReadTold, EndingTold, Told, appended_at, within_log}
use Rattle.hy_serial_laws.proofs.RunTold.{run_told}

-- ---- an intention touches what was read

points_among : (xs ys : List ℕ) → ((key : ℕ) → list_any (λ p. p == key) ys ≡ true → list_any (λ p. p == key) xs ≡ true) → AllByRecursion (λ key. list_any (λ p. p == key) xs ≡ true) ys
points_among xs [] h = tt
points_among xs (y ∷ ys) h = (h y (or_left (y == y) _ (eq-eqb y y refl)), points_among xs ys (λ key k. h key (or_right (y == key) _ k)))

spans_among : (xs ys : List Span) → ((key : ℕ) → list_any (is_in_span key) ys ≡ true → list_any (is_in_span key) xs ≡ true)
    → AllByRecursion (λ s. (key : ℕ) → is_in_span key s ≡ true → list_any (is_in_span key) xs ≡ true) ys
spans_among xs [] h = tt
spans_among xs (y ∷ ys) h = ((λ key k. h key (or_left (is_in_span key y) _ k)), spans_among xs ys (λ key k. h key (or_right (is_in_span key y) _ k)))

covered : (server client snap : ℕ) (e : Effects) → Covers (touches (intention server client snap e)) e
covered server client snap e =
    let q : ℕ → Bool = touches (intention server client snap e) in
    record {
      points = all_map (λ key. list_any (λ p. p == key) e.points ≡ true) (λ key. q key ≡ true) (λ key h. or_left (list_any (λ p. p == key) e.points) _ h) e.points (points_among e.points e.points (λ key h. h));
      spans = all_map (λ s. (key : ℕ) → is_in_span key s ≡ true → list_any (is_in_span key) e.spans ≡ true) (λ s. (key : ℕ) → is_in_span key s ≡ true → q key ≡ true)
          (λ s h key k. or_right (list_any (λ p. p == key) e.points) _ (or_left (list_any (is_in_span key) e.spans) _ (h key k))) e.spans (spans_among e.spans e.spans (λ key h. h));
    }

rises_of : (ps : List Pair) → IsTrue (is_rising pair_before ps) → PairsRise ps
rises_of [] h = tt
rises_of (p ∷ []) h = (tt, tt)
rises_of (p ∷ q ∷ ps) h =
    let parts = and_parts (pair_before p q) _ h in
    let lt : p.key < q.key = ltb-true p.key q.key parts.0 in
    let rest : PairsRise (q ∷ ps) = rises_of (q ∷ ps) parts.1 in
    ((lt, AllPairs-map (λ s. q.key < s.key) (λ s. p.key < s.key) (λ s k. omega (arith, k, lt)) ps rest.0), rest)

none_serial : (program : Program) → program.isolation ≡ Serializable → AreAt Serializable (no_effects program.isolation)
none_serial program is = record { is = is; reads = tt }

pub only_touched_keys_count : OnlyTouchedKeysCount
only_touched_keys_count program server client snap pairs others serial a b same =
    let left : Effects = (exec program pairs).1 in
    same_all (touches (intention server client snap left)) pairs others (rises_of pairs a) (rises_of others b) same (no_effects program.isolation) program.commands (none_serial program serial) (covered server client snap left)

-- ---- verdicts

commit_of : (vs : List (Option Verdict)) (n : ℕ) → verdict_at vs (suc n) ≡ Some Commit → slice_get vs n ≡ Some (Some Commit)
commit_of vs n h = go (slice_get vs n) h
  where
    go : (o : Option (Option Verdict)) → option_and_then (λ v. v) o ≡ Some Commit → o ≡ Some (Some Commit)
    go None e = absurd (cc)
    go (Some v) e = ap (λ u. Some u) e

only_commit : (v : Option Verdict) → is_commit v ≡ true → v ≡ Some Commit
only_commit None h = absurd (true≢false (sym h))
only_commit (Some Commit) h = refl
only_commit (Some (Old snap)) h = absurd (true≢false (sym h))
only_commit (Some (Pre c)) h = absurd (true≢false (sym h))
only_commit (Some (Mate c)) h = absurd (true≢false (sym h))
only_commit (Some (Final c)) h = absurd (true≢false (sym h))

-- ---- answers

answers_by_entry : (script : Workload) (log : List EntryKind) (e : Ended) (pos : ℕ) → e.ending ≡ ByEntryAt pos → answers_to script log e ≡ answers_on script log e
answers_by_entry script log e pos is = rw is refl

answers_by_reading : (script : Workload) (log : List EntryKind) (e : Ended) → e.ending ≡ ByReading → answers_to script log e ≡ answers_on script log e
answers_by_reading script log e is = rw is refl

-- ---- a run

module _ (script : Workload) (before : List EntryKind) (events : List Event) (t : State) (some : 1 ≤ script.shape.group) (whole : length t.log % script.shape.group ≡ 0)
    (told : Told script t.log (length before) (ended_in script (opening_of script before) events)) where
  abbrev log : List EntryKind
  log = t.log

  abbrev done : List Ended
  done = ended_in script (opening_of script before) events

  abbrev vs : List (Option Verdict)
  vs = verdicts script.shape t.log (length t.log)

  abbrev r : SerialRun
  r = serial_run script before events t

  abbrev map_at : ℕ → List Pair
  map_at n = first_map t.log vs n

  judged : length vs ≡ length log
  judged = all_judged script.shape t.log whole

  first_wins : FirstWins log vs
  first_wins = first_committer_wins script.shape t.log (length t.log / script.shape.group) (mul-div-le (length t.log) script.shape.group)

  snapshot : (snap : ℕ) → snap % script.shape.group ≡ 0 → snap ≤ length log → map_at snap ≡ live script.shape log snap
  snapshot snap w within = live_is_first script.shape t.log snap some whole w within

  -- a committed serializable program, right before its entry, does what it did on its snapshot
  right_before : (n : ℕ) (e : Ended) (own : IsLeftByProgram script log e (suc n)) → own.program.isolation ≡ Serializable → slice_get vs n ≡ Some (Some Commit)
      → exec own.program (map_at n) ≡ exec own.program (live script.shape log e.snap)
  right_before n e own is commit =
      let found : List Pair = live script.shape log e.snap in
      let left : Effects = (exec own.program found).1 in
      let i : Intention = intention own.server e.client e.snap left in
      let place : suc n ≤ length log = within_log log (suc n) (Txn i) own.entry in
      let unwritten : NothingWrittenSince (history log vs) (suc n) i = first_wins (suc n) i own.entry (ap (option_and_then (λ (v : Option Verdict). v)) commit) in
      let same : kept (touches i) (map_at e.snap) ≡ kept (touches i) (map_at n) = same_as_snapshot log vs n i (omega (arith, judged)) (omega (arith, judged, place)) (omega (arith, own.below)) unwritten in
      let there : map_at e.snap ≡ found = snapshot e.snap own.whole (omega (arith, own.below, place)) in
      let rises : PairsRise found = subst PairsRise there (first_map_rises log vs e.snap) in
      same_all (touches i) found (map_at n) rises (first_map_rises log vs n) (ap (kept (touches i)) (sym there) ∙ same) (no_effects own.program.isolation) own.program.commands (none_serial own.program is) (covered own.server e.client e.snap left)

  -- these are the maps after each of the first positions
  abbrev AreMaps : ℕ → (ℕ → List Pair) → Type 0
  AreMaps n maps = (k : ℕ) → k ≤ n → maps k ≡ map_at k

  turn_case : (n : ℕ) (e : Ended) (own : IsLeftByProgram script log e (suc n)) (isolation : Isolation) (maps : ℕ → List Pair) → own.program.isolation ≡ isolation → slice_get vs n ≡ Some (Some Commit) → AreMaps n maps
      → exec own.program (maps (reads_after isolation e.snap n)) ≡ exec own.program (live script.shape log e.snap)
  turn_case n e own Serializable maps is commit are = ap (exec own.program) (are n (omega arith)) ∙ right_before n e own is commit
  turn_case n e own Snapshot maps is commit are =
      let place : suc n ≤ length log = within_log log (suc n) _ own.entry in
      ap (exec own.program) (are e.snap (omega (arith, own.below)) ∙ snapshot e.snap own.whole (omega (arith, own.below, place)))

  -- a committed program, in its turn, does what it did on its snapshot
  in_turn : (n : ℕ) (e : Ended) (own : IsLeftByProgram script log e (suc n)) (maps : ℕ → List Pair) → slice_get vs n ≡ Some (Some Commit) → AreMaps n maps
      → exec own.program (maps (reads_after own.program.isolation e.snap n)) ≡ exec own.program (live script.shape log e.snap)
  in_turn n e own maps commit are = turn_case n e own own.program.isolation maps refl commit are

  -- ---- who appended an entry

  found_one_case : (pos : ℕ) (d x : Ended) (xs : List Ended) (b : Bool) → is_entry_at pos x.ending ≡ b → cond b (Some x) (appended_at pos xs) ≡ Some d → EndingTold script log (length before) done x x.ending
      → (appended_at pos xs ≡ Some d → EndingTold script log (length before) done d d.ending × (is_entry_at pos d.ending ≡ true)) → EndingTold script log (length before) done d d.ending × (is_entry_at pos d.ending ≡ true)
  found_one_case pos d x xs true e h own rest =
      let same : x ≡ d = cc in subst (λ y. EndingTold script log (length before) done y y.ending × (is_entry_at pos y.ending ≡ true)) same (own, e)
  found_one_case pos d x xs false e h own rest = rest h

  found_one : (pos : ℕ) (d : Ended) (xs : List Ended) → AllByRecursion (λ e. EndingTold script log (length before) done e e.ending) xs → appended_at pos xs ≡ Some d
      → EndingTold script log (length before) done d d.ending × (is_entry_at pos d.ending ≡ true)
  found_one pos d [] all h = absurd (cc)
  found_one pos d (x ∷ xs) all h = found_one_case pos d x xs (is_entry_at pos x.ending) refl h all.0 (found_one pos d xs all.1)

  own_of : (pos : ℕ) (d : Ended) (ending : Ending) → EndingTold script log (length before) done d ending → is_entry_at pos ending ≡ true → IsLeftByProgram script log d pos
  own_of pos d ByReading h e = absurd (true≢false (sym e))
  own_of pos d (ByEntryAt at) h e = let same : at ≡ pos = eqb-true at pos e in subst (IsLeftByProgram script log d) same h.own
  own_of pos d ByFull h e = absurd (true≢false (sym e))
  own_of pos d ByStop h e = absurd (true≢false (sym e))
  own_of pos d (ByPast from) h e = absurd (true≢false (sym e))
  own_of pos d (ByNotYet board) h e = absurd (true≢false (sym e))

  owner : (pos : ℕ) (d : Ended) → appended_at pos done ≡ Some d → IsLeftByProgram script log d pos
  owner pos d h = let f = found_one pos d done told.each h in own_of pos d d.ending f.0 f.1

  -- the program that appended an entry, run on a map
  rerun_is : (n : ℕ) (d : Ended) (p : Program) (maps : ℕ → List Pair) → appended_at (suc n) done ≡ Some d → program_of script d.client d.number ≡ Some p → rerun r n maps ≡ Some (exec p (maps (reads_after p.isolation d.snap n)))
  rerun_is n d p maps h is = rw (h, is) refl

  rerun_none : (n : ℕ) (maps : ℕ → List Pair) → appended_at (suc n) done ≡ None → rerun r n maps ≡ None
  rerun_none n maps h = rw h refl

  -- ---- the writes of a position

  owned_writes : (n : ℕ) (i : Intention) (d : Ended) (maps : ℕ → List Pair) → AreMaps n maps → slice_get log n ≡ Some (Txn i) → slice_get vs n ≡ Some (Some Commit) → appended_at (suc n) done ≡ Some d
      → option_map_or (λ ran. ran.1.writes) (rerun r n maps) [] ≡ i.writes
  owned_writes n i d maps are at commit h =
      let own : IsLeftByProgram script log d (suc n) = owner (suc n) d h in
      let left : Effects = (exec own.program (live script.shape log d.snap)).1 in
      let same : Some (Txn (intention own.server d.client d.snap left)) ≡ Some (Txn i) = sym own.entry ∙ at in
      ap (λ (o : Option (List Answer × Effects)). option_map_or (λ ran. ran.1.writes) o []) (rerun_is n d own.program maps h own.is)
      ∙ (ap (λ (ran : List Answer × Effects). ran.1.writes) (in_turn n d own maps commit are) ∙ ap (λ o. option_map_or recorded o []) same)

  program_writes : (n : ℕ) (e : EntryKind) (o : Option Ended) (maps : ℕ → List Pair) → AreMaps n maps → length before < suc n → slice_get log n ≡ Some e → slice_get vs n ≡ Some (Some Commit) → appended_at (suc n) done ≡ o
      → option_map_or (λ ran. ran.1.writes) (rerun r n maps) [] ≡ recorded e
  program_writes n (Filler server) None maps are past at commit h = ap (λ (o : Option (List Answer × Effects)). option_map_or (λ ran. ran.1.writes) o []) (rerun_none n maps h)
  program_writes n (Filler server) (Some d) maps are past at commit h = let own : IsLeftByProgram script log d (suc n) = owner (suc n) d h in let same : Some (Filler server) ≡ Some (Txn _) = sym at ∙ own.entry in absurd (cc)
  program_writes n (Txn i) None maps are past at commit h = absurd (true≢false (sym (ap is_some (sym h) ∙ told.all (suc n) i past at)))
  program_writes n (Txn i) (Some d) maps are past at commit h = owned_writes n i d maps are at commit h

  recorded_writes : (pos : ℕ) (e : EntryKind) → recorded e ≡ map write_of (writes_at pos e)
  recorded_writes pos (Filler server) = refl
  recorded_writes pos (Txn i) = sym (writes_of_rows pos i.writes)

  writes_case : (n : ℕ) (e : EntryKind) (v : Option Verdict) (maps : ℕ → List Pair) (b c : Bool) → AreMaps n maps → slice_get log n ≡ Some e → slice_get vs n ≡ Some v → is_commit v ≡ b → nat_lt (length before) (suc n) ≡ c
      → (if b then if c then option_map_or (λ ran. ran.1.writes) (rerun r n maps) [] else option_map_or recorded (slice_get log n) [] else []) ≡ map write_of (committed_at (suc n) e b)
  writes_case n e v maps false c are at verdict commit past = refl
  writes_case n e v maps true false are at verdict commit past = ap (λ o. option_map_or recorded o []) at ∙ recorded_writes (suc n) e
  writes_case n e v maps true true are at verdict commit past =
      program_writes n e (appended_at (suc n) done) maps are (ltb-true (length before) (suc n) past) at (verdict ∙ ap (λ u. Some u) (only_commit v commit)) refl ∙ recorded_writes (suc n) e

  step_writes : (n : ℕ) (e : EntryKind) (v : Option Verdict) (maps : ℕ → List Pair) → AreMaps n maps → slice_get log n ≡ Some e → slice_get vs n ≡ Some v → serial_writes r n maps ≡ map write_of (committed_at (suc n) e (is_commit v))
  step_writes n e v maps are at verdict = rw verdict (writes_case n e v maps (is_commit v) (nat_lt (length before) (suc n)) are at verdict refl refl)

  -- ---- the map

  -- after each position the serial execution holds what the committed entries recorded
  next_step : (n : ℕ) → suc n ≤ length log → (maps : ℕ → List Pair) → AreMaps n maps → serial_step r n maps ≡ map_at (suc n)
  next_step n le maps are =
      let e = item_at log n (omega (arith, le)) in
      let v = item_at vs n (omega (arith, le, judged)) in
      ap (λ (pairs : List Pair). after_writes pairs (serial_writes r n maps)) (are n (omega arith))
      ∙ (ap (after_writes (map_at n)) (step_writes n e.0 v.0 maps are e.1 v.1) ∙ sym (next_map log vs n e.0 v.0 e.1 v.1))

  after_case : (n k : ℕ) (b : Bool) (maps : ℕ → List Pair) → suc n ≤ length log → k ≤ suc n → nat_le k n ≡ b → AreMaps n maps → (if b then maps k else serial_step r n maps) ≡ map_at k
  after_case n k true maps le within e are = are k (leb-true k n e)
  after_case n k false maps le within e are =
      let past : suc n ≡ k = last_place n k within e in subst (λ m. serial_step r n maps ≡ map_at m) past (next_step n le maps are)
    where
      last_place : (n k : ℕ) → k ≤ suc n → nat_le k n ≡ false → suc n ≡ k
      last_place n k within e = grind (arith, within, e)

  all_maps : (n : ℕ) → n ≤ length log → AreMaps n (serial_maps r n)
  all_maps zero le zero within = refl
  all_maps zero le (suc k) within = absurd (omega (arith, within))
  all_maps (suc n) le k within = after_case n k (nat_le k n) (serial_maps r n) le within refl (all_maps n (omega (arith, le)))

  maps : (n : ℕ) → n ≤ length log → serial_map r n ≡ map_at n
  maps n le = all_maps n le n (omega arith)

  groups : (pos : ℕ) → pos % script.shape.group ≡ 0 → pos ≤ length log → serial_map r pos ≡ live script.shape log pos
  groups pos w within = maps pos within ∙ snapshot pos w within

  -- ---- the answers

  on_program : (e : Ended) (p : Program) → program_of script e.client e.number ≡ Some p → answers_on script log e ≡ (exec p (live script.shape log e.snap)).0
  on_program e p is = rw is refl

  noted : (n : ℕ) (o : Option (List Answer × Effects)) → verdict_at vs (suc n) ≡ Some Commit → length before < suc n → rerun r n (serial_map r) ≡ o → serial_answers r (suc n) ≡ option_map (λ ran. ran.0) o
  noted n o commit past is = rw (commit, lt-ltb (length before) (suc n) past) (ap (option_map (λ ran. ran.0)) is)

  committed_at_pos : (e : Ended) (pos : ℕ) → e.ending ≡ ByEntryAt pos → EntryTold script log (length before) done e pos → verdict_at vs pos ≡ Some Commit → serial_answers r pos ≡ Some (answers_to script log e)
  committed_at_pos e zero is h commit = absurd (let late = h.late in omega (arith, late))
  committed_at_pos e (suc n) is h commit =
      let own : IsLeftByProgram script log e (suc n) = h.own in
      let place : suc n ≤ length log = within_log log (suc n) _ own.entry in
      let are : AreMaps n (serial_map r) = λ k within. maps k (omega (arith, within, place)) in
      let at : ℕ = reads_after own.program.isolation e.snap n in
      let ran : exec own.program (serial_map r at) ≡ exec own.program (live script.shape log e.snap) = in_turn n e own (serial_map r) (commit_of vs n commit) are in
      noted n (Some (exec own.program (serial_map r at))) commit h.late (rerun_is n e own.program (serial_map r) h.found own.is)
      ∙ ap (λ answers. Some answers) (ap (λ (done : List Answer × Effects). done.0) ran ∙ sym (answers_by_entry script log e (suc n) is ∙ on_program e own.program own.is))

  commits : (e : Ended) → EndingTold script log (length before) done e e.ending → CommitsSerially r e
  commits e h pos is commit = committed_at_pos e pos is (subst (EndingTold script log (length before) done e) is h) commit

  mapped : (o : Option Program) (a b : List Pair) → is_some o ≡ true → a ≡ b → option_map (λ p. (exec p a).0) o ≡ Some (option_map_or (λ done. done.0) (option_map (λ p. exec p b) o) [])
  mapped None a b there same = absurd (true≢false (sym there))
  mapped (Some p) a b there same = ap (λ pairs. Some (exec p pairs).0) same

  readers : (e : Ended) → EndingTold script log (length before) done e e.ending → ReadsSerially r e
  readers e h is =
      let read : ReadTold script (length log) e = subst (EndingTold script log (length before) done e) is h in
      mapped (program_of script e.client e.number) (serial_map r e.snap) (live script.shape log e.snap) read.program (groups e.snap read.snap.whole read.snap.within)
      ∙ ap (λ answers. Some answers) (sym (answers_by_reading script log e is))

  pub serially : ExecutesSerially (serial_run script before events t)
  serially = record {
    commits = all_map (λ e. EndingTold script log (length before) done e e.ending) (CommitsSerially r) commits done told.each;
    readers = all_map (λ e. EndingTold script log (length before) done e e.ending) (ReadsSerially r) readers done told.each;
    groups = groups;
    rows = groups (length log) whole (omega arith);
    updates = first_wins;
  }

pub committed_runs_serially : CommittedRunsSerially
committed_runs_serially script before events t is fits leads finished =
    serially script before events t is.shape.group.at_least (finished_log_is_whole script before events t is fits leads finished) (run_told script before events t is leads)
