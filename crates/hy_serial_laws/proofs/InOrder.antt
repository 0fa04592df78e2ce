-- Sessions are in order.
use Rattle.std.proofs.Common.{◌≡◌, ◌∙◌, ℕ, zero, suc, ◌+◌, ◌<◌, ◌≤◌, Bool, true, false, List, [], ◌∷◌, ◌++◌, length, take, replicate, refl, sym, ap, subst, inl, inr, ⊎_elim, arith, length-append}
use Rattle.std.proofs.lemmas.List.Sums.{sum_by-cons}
use mathlib.Core.Bool.{true≢false}
use Rattle.std.proofs.lemmas.Bool.{and_parts, eqb-true, eqb-false, leb-true, ltb-true, not-true}
use Rattle.std.specs.Prelude.{◌⊎◌, Option, Some, None, ◌==◌, not, map, count_by, nat_le, nat_lt, option_map, option_and_then, option_to_list, slice_get, unwrap_or, if◌then◌else◌}
use Rattle.std.specs.Option.{option_map_or}
use Rattle.std.specs.List.{AllByRecursion}
use Rattle.hy_base.specs.declared.record.EntryKind.{EntryKind}
use Rattle.hy_base.specs.declared.record.EntryKind.TheVariants.{Filler, Txn}
use Rattle.hy_base.specs.declared.record.Intention.{Intention}
use Rattle.hy_base.specs.declared.workload.ArmedStop.{ArmedStop}
use Rattle.hy_base.specs.declared.workload.Event.{Event}
use Rattle.hy_base.specs.declared.workload.Event.TheVariants.{Begin, Append, End, Refuse, Pad, Publish, Stop}
use Rattle.hy_base.specs.declared.workload.Home.{Home}
use Rattle.hy_base.specs.declared.workload.Session.{Session}
use Rattle.hy_base.specs.Lists.{nth, change_nth}
use Rattle.hy_base.specs.Shape.{whole_groups}
use Rattle.hy_base.specs.Script.{Workload}
use Rattle.hy_base.proofs.NthLemmas.{change_here, change_elsewhere, nth_in_map, all_nth}
use Rattle.hy_base.proofs.GroupLemmas.{whole_below}
use Rattle.hy_base.proofs.NumberLemmas.{one_if}
use Rattle.hy_rules.specs.Exec.{Effects, intention}
use Rattle.hy_rules.specs.Moves.{Setting, State, is_begun, may_begin, client_passes, enabled, surviving, missing, Start, On, Past, NotYet, at_next_program, started, start_at, start_of, least_kept, appended, abandoned, restarted, board_of, home_server, is_declared, is_whole, fresh_session}
use Rattle.hy_rules.specs.Runs.{setting_of, opening_of, may_happen, added, pending, begun_snap, run}
use Rattle.hy_rules.proofs.Backward.{next_state, run_keeps, run_on}
use Rattle.hy_rules.specs.Sessions.{IsSessionOrdered, begins, snapshot_of}
use Rattle.hy_serial_laws.specs.SerialLaws.{SessionsAreOrdered}
use Rattle.hy_serial_laws.proofs.Snapshots.{IsSnap, boards_after, snaps_opening}

-- ---- what changes at a place

-- a number of a client's session, or 0 where there is none
abbrev measured : (Session → ℕ) → List Session → ℕ → ℕ
measured m xs c = option_map_or m (nth xs c) 0

same_measure : (m : Session → ℕ) (f : Session → Session) (o : Option Session) → ((x : Session) → o ≡ Some x → m (f x) ≡ m x) → option_map_or m (option_map f o) 0 ≡ option_map_or m o 0
same_measure m f None same = refl
same_measure m f (Some x) same = same x refl

measured_change : (m : Session → ℕ) (f : Session → Session) (xs : List Session) (n c : ℕ) → ((x : Session) → nth xs n ≡ Some x → m (f x) ≡ m x) → measured m (change_nth f xs n) c ≡ measured m xs c
measured_change m f xs n c same = by (c == n) refl
  where
    by : (b : Bool) → (c == n) ≡ b → measured m (change_nth f xs n) c ≡ measured m xs c
    by true e = let at : c ≡ n = eqb-true c n e in subst (λ k. measured m (change_nth f xs n) k ≡ measured m xs k) (sym at) (ap (λ o. option_map_or m o 0) (change_here f xs n) ∙ same_measure m f (nth xs n) same)
    by false e = ap (λ o. option_map_or m o 0) (change_elsewhere f xs n c (eqb-false c n e))

measured_map : (m : Session → ℕ) (f : Session → Session) (xs : List Session) (c : ℕ) → ((x : Session) → m (f x) ≡ m x) → measured m (map f xs) c ≡ measured m xs c
measured_map m f xs c same = ap (λ o. option_map_or m o 0) (nth_in_map f xs c) ∙ same_measure m f (nth xs c) (λ x at. same x)

-- after a stop the sessions are abandoned
measured_stop : (m : Session → ℕ) (w : Setting) (s : State) (o : Option ArmedStop) (c : ℕ) → ((x : Session) → m (abandoned x) ≡ m x) → measured m (option_map_or (λ stop. restarted w s) o s).sessions c ≡ measured m s.sessions c
measured_stop m w s None c same = refl
measured_stop m w s (Some stop) c same = measured_map m abandoned s.sessions c same

-- ---- entries of a client

started_last : (start : Start) (x : Session) → (started start x).last ≡ x.last
started_last (On snap) x = refl
started_last (Past from) x = refl
started_last (NotYet board) x = refl

abbrev last_of : Session → ℕ
last_of x = x.last

abandoned_last : (x : Session) → last_of (abandoned x) ≡ last_of x
abandoned_last x = by (is_begun x.phase)
  where
    by : (b : Bool) → last_of (if b then at_next_program x else x) ≡ last_of x
    by true = refl
    by false = refl

-- the position of an entry of a client is at most that noted of its last
abbrev AreNoted : ℕ → List EntryKind → List Session → Type 0
AreNoted base log sessions = (pos : ℕ) (i : Intention) → base < pos → nth log pos ≡ Some (Txn i) → pos ≤ measured last_of sessions i.client

noted_by : (base : ℕ) (log : List EntryKind) (xs ys : List Session) → ((c : ℕ) → measured last_of ys c ≡ measured last_of xs c) → AreNoted base log xs → AreNoted base log ys
noted_by base log xs ys same all pos i past at = let h = all pos i past at in let e = same i.client in omega (arith, h, e)

either_list : (xs ys : List EntryKind) (k : ℕ) (e : EntryKind) → slice_get (xs ++ ys) k ≡ Some e → (slice_get xs k ≡ Some e × (k < length xs)) ⊎ ((j : ℕ) × (k ≡ length xs + j) × (slice_get ys j ≡ Some e))
either_list [] ys k e at = inr (k, omega arith, at)
either_list (x ∷ xs) ys zero e at = inl (at, omega arith)
either_list (x ∷ xs) ys (suc k) e at = ⊎_elim (λ h. inl (h.0, let le = h.1 in omega (arith, le))) (λ h. inr (h.0, let same = h.1 in omega (arith, same), h.2)) (either_list xs ys k e at)

no_filler : (n server j : ℕ) (i : Intention) → slice_get (replicate n (Filler server)) j ≡ Some (Txn i) → ⊥
no_filler zero server j i at = cc at
no_filler (suc n) server zero i at = cc at
no_filler (suc n) server (suc j) i at = no_filler n server j i at

padded : (base n server : ℕ) (log : List EntryKind) (xs : List Session) → AreNoted base log xs → AreNoted base (log ++ replicate n (Filler server)) xs
padded base n server log xs all zero i past at = absurd (cc at)
padded base n server log xs all (suc k) i past at = ⊎_elim (λ h. all (suc k) i past h.0) (λ h. absurd (no_filler n server h.0 i h.2)) (either_list log (replicate n (Filler server)) k (Txn i) at)

-- what an append adds is one entry, of its client
own_only : (n client server snap : ℕ) (o : Option Effects) (j : ℕ) (i : Intention) → slice_get (take n (option_to_list (option_map (λ effects. Txn (intention server client snap effects)) o))) j ≡ Some (Txn i) → (j ≡ 0) × (i.client ≡ client)
own_only zero client server snap o j i at = absurd (cc at)
own_only (suc n) client server snap None j i at = absurd (cc at)
own_only (suc n) client server snap (Some effects) zero i at = (refl, let same : Some (Txn (intention server client snap effects)) ≡ Some (Txn i) = at in let own : intention server client snap effects ≡ i = cc same in sym (ap (λ (x : Intention). x.client) own))
own_only (suc zero) client server snap (Some effects) (suc j) i at = absurd (cc at)
own_only (suc (suc n)) client server snap (Some effects) (suc j) i at = absurd (cc at)

appended_measure : (more : List EntryKind) (len : ℕ) (o : Option Session) (pos : ℕ) → pos ≤ len → pos ≤ option_map_or last_of o 0 → pos ≤ option_map_or last_of (option_map (appended more len) o) 0
appended_measure more len None pos within h = h
appended_measure [] len (Some x) pos within h = h
appended_measure (e ∷ es) len (Some x) pos within h = omega (arith, within)

appended_keeps : (more : List EntryKind) (len : ℕ) (xs : List Session) (n c pos : ℕ) → pos ≤ len → pos ≤ measured last_of xs c → pos ≤ measured last_of (change_nth (appended more len) xs n) c
appended_keeps more len xs n c pos within h = by (c == n) refl
  where
    by : (b : Bool) → (c == n) ≡ b → pos ≤ measured last_of (change_nth (appended more len) xs n) c
    by true e =
        let at : c ≡ n = eqb-true c n e in
        subst (λ k. pos ≤ measured last_of (change_nth (appended more len) xs n) k) (sym at)
        (subst (λ o. pos ≤ option_map_or last_of o 0) (sym (change_here (appended more len) xs n)) (appended_measure more len (nth xs n) pos within (subst (λ k. pos ≤ measured last_of xs k) at h)))
    by false e = subst (λ o. pos ≤ option_map_or last_of o 0) (sym (change_elsewhere (appended more len) xs n c (eqb-false c n e))) h

-- a client that appends has a session, where the entry is noted
new_measure : (more : List EntryKind) (e : EntryKind) (len : ℕ) (o : Option Session) (test : Session → Bool) → slice_get more 0 ≡ Some e → option_map_or test o false ≡ true → option_map_or last_of (option_map (appended more len) o) 0 ≡ len + 1
new_measure more e len None test some is = absurd (true≢false (sym is))
new_measure [] e len (Some x) test some is = absurd (cc some)
new_measure (f ∷ es) e len (Some x) test some is = refl

session_there : (home : Option Home) (o : Option Session) (test : Home → Session → Bool) → option_map_or (λ h. option_map_or (test h) o false) home false ≡ true → (x : Session) × (o ≡ Some x)
session_there None o test is = absurd (true≢false (sym is))
session_there (Some h) None test is = absurd (true≢false (sym is))
session_there (Some h) (Some x) test is = (x, refl)

module _ (script : Workload) (base : ℕ) where
  abbrev w : Setting
  w = setting_of script

  abbrev Noted : State → Type 0
  Noted s = AreNoted base s.log s.sessions

  noted_append : (s : State) (client : ℕ) (more : List EntryKind) → client_passes w s client (λ home session. is_begun session.phase) ≡ true → ((j : ℕ) (i : Intention) → slice_get more j ≡ Some (Txn i) → (j ≡ 0) × (i.client ≡ client))
      → Noted s → AreNoted base (s.log ++ more) (change_nth (appended more (length s.log)) s.sessions client)
  noted_append s client more may own all zero i past at = absurd (cc at)
  noted_append s client more may own all (suc k) i past at = ⊎_elim
      (λ h. appended_keeps more (length s.log) s.sessions client i.client (suc k) (let le = h.1 in omega (arith, le)) (all (suc k) i past h.0))
      (λ h. let mine = own h.0 i h.2 in
      let there = session_there (nth w.homes client) (nth s.sessions client) (λ home session. is_begun session.phase) may in
      let first : slice_get more 0 ≡ Some (Txn i) = subst (λ j. slice_get more j ≡ Some (Txn i)) mine.0 h.2 in
      let noted : measured last_of (change_nth (appended more (length s.log)) s.sessions client) client ≡ length s.log + 1 = ap (λ o. option_map_or last_of o 0) (change_here (appended more (length s.log)) s.sessions client)
      ∙ new_measure more (Txn i) (length s.log) (nth s.sessions client) (λ x. true) first (ap (λ o. option_map_or (λ x. true) o false) there.1) in
      let last : measured last_of (change_nth (appended more (length s.log)) s.sessions client) i.client ≡ length s.log + 1 = ap (measured last_of (change_nth (appended more (length s.log)) s.sessions client)) mine.1 ∙ noted in
      let at_end : k ≡ length s.log + h.0 = h.1 in
      let none : h.0 ≡ 0 = mine.0 in
      omega (arith, last, at_end, none))
      (either_list s.log more k (Txn i) at)

  noted_stop : (s : State) (o : Option ArmedStop) → Noted s → Noted (option_map_or (λ stop. restarted w s) o s)
  noted_stop s None all = all
  noted_stop s (Some stop) all = noted_by base s.log s.sessions (map abandoned s.sessions) (λ c. measured_map last_of abandoned s.sessions c abandoned_last) all

  noted_next : (s : State) (event : Event) → enabled w s event ≡ true → Noted s → Noted (next_state script s event)
  noted_next s (Begin client) may all = noted_by base s.log s.sessions (change_nth (started (start_of w s client)) s.sessions client) (λ c. measured_change last_of (started (start_of w s client)) s.sessions client c (λ x at. started_last (start_of w s client) x)) all
  noted_next s (Append client) may all =
      noted_stop (record s { log = s.log ++ added script s (Append client); sessions = change_nth (appended (added script s (Append client)) (length s.log)) s.sessions client }) s.armed
      (noted_append s client (added script s (Append client)) (and_parts (client_passes w s client (λ home session. is_begun session.phase)) _ may).0 (λ j i at. own_only (surviving s.armed 1) client (home_server w client) (begun_snap s client) (pending script s client) j i at) all)
  noted_next s (End client) may all = noted_by base s.log s.sessions (change_nth at_next_program s.sessions client) (λ c. measured_change last_of at_next_program s.sessions client c (λ x at. refl)) all
  noted_next s (Refuse client) may all = noted_by base s.log s.sessions (change_nth at_next_program s.sessions client) (λ c. measured_change last_of at_next_program s.sessions client c (λ x at. refl)) all
  noted_next s (Pad server) may all = noted_stop (record s { log = s.log ++ added script s (Pad server) }) s.armed (padded base (surviving s.armed (missing w (length s.log))) server s.log s.sessions all)
  noted_next s (Publish server upto) may all = all
  noted_next s (Stop call pattern) may all = all

  -- ---- boards

  raised : (bs : List ℕ) (d c q : ℕ) → unwrap_or (nth bs d) 0 < q → unwrap_or (nth bs c) 0 ≤ unwrap_or (nth (change_nth (λ old. q) bs d) c) 0
  raised bs d c q less = by (c == d) refl (nth bs d) refl
    where
      by : (b : Bool) → (c == d) ≡ b → (o : Option ℕ) → nth bs d ≡ o → unwrap_or (nth bs c) 0 ≤ unwrap_or (nth (change_nth (λ old. q) bs d) c) 0
      by true e None at = let same : c ≡ d = eqb-true c d e in subst (λ k. unwrap_or (nth bs k) 0 ≤ unwrap_or (nth (change_nth (λ old. q) bs d) k) 0) (sym same) (subst (λ o. unwrap_or o 0 ≤ unwrap_or (nth (change_nth (λ old. q) bs d) d) 0) (sym at) (omega arith))
      by true e (Some b) at =
          let same : c ≡ d = eqb-true c d e in
          let new : unwrap_or (nth (change_nth (λ old. q) bs d) d) 0 ≡ q = ap (λ o. unwrap_or o 0) (change_here (λ old. q) bs d ∙ ap (option_map (λ old. q)) at) in
          subst (λ k. unwrap_or (nth bs k) 0 ≤ unwrap_or (nth (change_nth (λ old. q) bs d) k) 0) (sym same) (omega (arith, new, less))
      by false e o at = let same : unwrap_or (nth (change_nth (λ old. q) bs d) c) 0 ≡ unwrap_or (nth bs c) 0 = ap (λ o. unwrap_or o 0) (change_elsewhere (λ old. q) bs d c (eqb-false c d e)) in omega (arith, same)

abbrev g_of : Workload → ℕ
g_of script = script.shape.group

-- the board of a server on a log that has grown, after a stop or none
stop_rises : (script : Workload) (u : State) (len b k : ℕ) (o : Option ArmedStop) → 1 ≤ g_of script → len ≤ length u.log → AllByRecursion (IsSnap (g_of script) len) u.boards → b ≤ board_of u k → b ≤ board_of (option_map_or (λ stop. restarted (setting_of script) u) o u) k
stop_rises script u len b k None some longer snaps le = le
stop_rises script u len b k (Some stop) some longer snaps le = by (nth u.boards k) refl
  where
    by : (x : Option ℕ) → nth u.boards k ≡ x → b ≤ unwrap_or (nth (map (λ board. whole_groups script.shape (length u.log)) u.boards) k) 0
    by None at = let zero_here : board_of u k ≡ 0 = ap (λ o. unwrap_or o 0) at in omega (arith, le, zero_here)
    by (Some board) at =
        let here : board_of u k ≡ board = ap (λ o. unwrap_or o 0) at in
        let new : unwrap_or (nth (map (λ board. whole_groups script.shape (length u.log)) u.boards) k) 0 ≡ whole_groups script.shape (length u.log) = ap (λ o. unwrap_or o 0) (nth_in_map (λ board. whole_groups script.shape (length u.log)) u.boards k ∙ ap (option_map (λ board. whole_groups script.shape (length u.log))) at) in
        let snap : IsSnap (g_of script) len board = all_nth (IsSnap (g_of script) len) u.boards k board snaps at in
        let low = whole_below (g_of script) board (length u.log) some snap.whole (let within = snap.within in omega (arith, within, longer)) in
        omega (arith, le, here, new, low)

-- no event takes a server back
rises : (script : Workload) (b k : ℕ) → 1 ≤ g_of script → (s : State) (event : Event) → enabled (setting_of script) s event ≡ true → AllByRecursion (IsSnap (g_of script) (length s.log)) s.boards → b ≤ board_of s k → b ≤ board_of (next_state script s event) k
rises script b k some s (Begin client) may snaps le = le
rises script b k some s (Append client) may snaps le =
    stop_rises script (record s { log = s.log ++ added script s (Append client); sessions = change_nth (appended (added script s (Append client)) (length s.log)) s.sessions client }) (length s.log) b k s.armed some
    (omega (arith, length-append s.log (added script s (Append client)))) snaps le
rises script b k some s (End client) may snaps le = le
rises script b k some s (Refuse client) may snaps le = le
rises script b k some s (Pad server) may snaps le =
    stop_rises script (record s { log = s.log ++ added script s (Pad server) }) (length s.log) b k s.armed some (omega (arith, length-append s.log (added script s (Pad server)))) snaps le
rises script b k some s (Publish server upto) may snaps le =
    let rest = (and_parts (is_whole script.shape upto) _ (and_parts (is_declared (setting_of script) server) _ may).1).1 in
    let more : board_of s server < upto = ltb-true (board_of s server) upto (and_parts (nat_lt (board_of s server) upto) _ rest).0 in
    let up = raised script 0 s.boards server k upto more in
    omega (arith, le, up)
rises script b k some s (Stop call pattern) may snaps le = le

record IsAtLeast (script : Workload) (b k : ℕ) (s : State) : Type 0 where
  snaps : AllByRecursion (IsSnap (g_of script) (length s.log)) s.boards
  least : b ≤ board_of s k

at_least_next : (script : Workload) (b k : ℕ) → 1 ≤ g_of script → (s : State) (event : Event) → enabled (setting_of script) s event ≡ true → IsAtLeast script b k s → IsAtLeast script b k (next_state script s event)
at_least_next script b k some s event may h = record { snaps = boards_after (setting_of script) s event (added script s event) may h.snaps; least = rises script b k some s event may h.snaps h.least }

boards_run : (script : Workload) (found : List EntryKind) (first : List Event) (s : State) → run script (opening_of script found) first ≡ Some s → AllByRecursion (IsSnap (g_of script) (length s.log)) s.boards
boards_run script found first s led =
    run_keeps script (λ u. AllByRecursion (IsSnap (g_of script) (length u.log)) u.boards) (λ u event may h. boards_after (setting_of script) u event (added script u event) may h) (opening_of script found) s first led (snaps_opening (setting_of script) found).boards

-- ---- the programs of a client

abbrev begun_one : Session → ℕ
begun_one x = one_if (is_begun x.phase)

-- how many programs were begun before its next, and one
abbrev steps_of : Session → ℕ
steps_of x = x.next + begun_one x

ended_steps : (x : Session) → is_begun x.phase ≡ true → suc x.next + 0 ≡ steps_of x
ended_steps x is = let one : begun_one x ≡ 1 = ap one_if is in omega (arith, one)

abandoned_steps : (x : Session) → steps_of (abandoned x) ≡ steps_of x
abandoned_steps x = by (is_begun x.phase) refl
  where
    by : (b : Bool) → is_begun x.phase ≡ b → steps_of (if is_begun x.phase then at_next_program x else x) ≡ steps_of x
    by true e = ap (λ b. steps_of (if b then at_next_program x else x)) e ∙ ended_steps x e
    by false e = ap (λ b. steps_of (if b then at_next_program x else x)) e

appended_steps : (more : List EntryKind) (len : ℕ) (x : Session) → is_begun x.phase ≡ true → steps_of (appended more len x) ≡ steps_of x
appended_steps [] len x is = ended_steps x is
appended_steps (e ∷ es) len x is = ended_steps x is

passed : (home : Option Home) (o : Option Session) (x : Session) (test : Home → Session → Bool) → option_map_or (λ h. option_map_or (test h) o false) home false ≡ true → o ≡ Some x → (h : Home) × (test h x ≡ true)
passed None o x test is at = absurd (true≢false (sym is))
passed (Some h) o x test is at = (h, ap (λ p. option_map_or (test h) p false) (sym at) ∙ is)

pub was_begun : (w : Setting) (s : State) (client : ℕ) → client_passes w s client (λ home session. is_begun session.phase) ≡ true → (x : Session) → nth s.sessions client ≡ Some x → is_begun x.phase ≡ true
was_begun w s client may x at = (passed (nth w.homes client) (nth s.sessions client) x (λ home session. is_begun session.phase) may at).1

was_idle : (w : Setting) (s : State) (client : ℕ) → client_passes w s client (may_begin s) ≡ true → (x : Session) → nth s.sessions client ≡ Some x → is_begun x.phase ≡ false
was_idle w s client may x at = not-true (is_begun x.phase) (and_parts (not (is_begun x.phase)) _ (passed (nth w.homes client) (nth s.sessions client) x (may_begin s) may at).1).0

started_steps : (start : Start) (x : Session) → is_begun x.phase ≡ false → steps_of (started start x) ≡ x.next + 1
started_steps (On snap) x idle = refl
started_steps (Past from) x idle = omega arith
started_steps (NotYet board) x idle = omega arith

begin_steps : (start : Start) (xs : List Session) (n c : ℕ) → ((x : Session) → nth xs n ≡ Some x → is_begun x.phase ≡ false) → (x : Session) → nth xs n ≡ Some x → measured steps_of (change_nth (started start) xs n) c ≡ measured steps_of xs c + one_if (n == c)
begin_steps start xs n c idle x at = by (n == c) refl
  where
    by : (b : Bool) → (n == c) ≡ b → measured steps_of (change_nth (started start) xs n) c ≡ measured steps_of xs c + one_if (n == c)
    by true e =
        let same : n ≡ c = eqb-true n c e in
        let none : begun_one x ≡ 0 = ap one_if (idle x at) in
        let was : measured steps_of xs n ≡ steps_of x = ap (λ o. option_map_or steps_of o 0) at in
        let now : measured steps_of (change_nth (started start) xs n) n ≡ x.next + 1 = ap (λ o. option_map_or steps_of o 0) (change_here (started start) xs n ∙ ap (option_map (started start)) at) ∙ started_steps start x (idle x at) in
        let one : one_if (n == c) ≡ 1 = ap one_if e in
        subst (λ k. measured steps_of (change_nth (started start) xs n) k ≡ measured steps_of xs k + one_if (n == c)) same (omega (arith, none, was, now, one))
    by false e =
        let one : one_if (n == c) ≡ 0 = ap one_if e in
        let same : measured steps_of (change_nth (started start) xs n) c ≡ measured steps_of xs c = ap (λ o. option_map_or steps_of o 0) (change_elsewhere (started start) xs n c (λ is. eqb-false n c e (sym is))) in
        omega (arith, one, same)

plus_none : (a b : ℕ) → a ≡ b → a ≡ b + 0
plus_none a b same = omega (arith, same)

steps_next : (script : Workload) (c : ℕ) (s : State) (event : Event) → enabled (setting_of script) s event ≡ true → measured steps_of (next_state script s event).sessions c ≡ measured steps_of s.sessions c + one_if (begins c event)
steps_next script c s (Begin client) may =
    let w = setting_of script in
    let there = session_there (nth w.homes client) (nth s.sessions client) (may_begin s) may in
    begin_steps (start_of w s client) s.sessions client c (was_idle w s client may) there.0 there.1
steps_next script c s (Append client) may =
    let w = setting_of script in
    let more = added script s (Append client) in
    let begun = was_begun w s client (and_parts (client_passes w s client (λ home session. is_begun session.phase)) _ may).0 in
    plus_none _ _ (measured_stop steps_of w (record s { log = s.log ++ more; sessions = change_nth (appended more (length s.log)) s.sessions client }) s.armed c abandoned_steps ∙ measured_change steps_of (appended more (length s.log)) s.sessions client c (λ x at. appended_steps more (length s.log) x (begun x at)))
steps_next script c s (End client) may =
    let begun = was_begun (setting_of script) s client may in
    plus_none _ _ (measured_change steps_of at_next_program s.sessions client c (λ x at. ended_steps x (begun x at)))
steps_next script c s (Refuse client) may =
    let begun = was_begun (setting_of script) s client (and_parts (client_passes (setting_of script) s client (λ home session. is_begun session.phase)) _ may).0 in
    plus_none _ _ (measured_change steps_of at_next_program s.sessions client c (λ x at. ended_steps x (begun x at)))
steps_next script c s (Pad server) may = plus_none _ _ (measured_stop steps_of (setting_of script) (record s { log = s.log ++ added script s (Pad server) }) s.armed c abandoned_steps)
steps_next script c s (Publish server upto) may = omega arith
steps_next script c s (Stop call pattern) may = omega arith

abbrev step_if : Workload → State → Event → Bool → Option State
step_if script s event b = if b then Some (next_state script s event) else None

counted_by : (script : Workload) (c : ℕ) (event : Event) (events : List Event) (s t : State) → ((u : State) → run script u events ≡ Some t → measured steps_of t.sessions c ≡ measured steps_of u.sessions c + count_by (begins c) events)
    → (b : Bool) → may_happen script s event ≡ b → option_and_then (λ next. run script next events) (step_if script s event b) ≡ Some t → measured steps_of t.sessions c ≡ measured steps_of s.sessions c + count_by (begins c) (event ∷ events)
counted_by script c event events s t on true may led =
    let rest : measured steps_of t.sessions c ≡ measured steps_of (next_state script s event).sessions c + count_by (begins c) events = on (next_state script s event) led in
    let one : measured steps_of (next_state script s event).sessions c ≡ measured steps_of s.sessions c + one_if (begins c event) = steps_next script c s event (and_parts (enabled (setting_of script) s event) _ may).0 in
    let counts : count_by (begins c) (event ∷ events) ≡ one_if (begins c event) + count_by (begins c) events = sum_by-cons (λ x. one_if (begins c x)) event events in
    omega (arith, rest, one, counts)
counted_by script c event events s t on false may led = absurd (cc led)

counted : (script : Workload) (c : ℕ) (events : List Event) (s t : State) → run script s events ≡ Some t → measured steps_of t.sessions c ≡ measured steps_of s.sessions c + count_by (begins c) events
counted script c [] s t led = let same : s ≡ t = cc led in let e : measured steps_of s.sessions c ≡ measured steps_of t.sessions c = ap (λ (x : State). measured steps_of x.sessions c) same in omega (arith, e)
counted script c (event ∷ events) s t led = counted_by script c event events s t (λ u. counted script c events u t) (may_happen script s event) refl led

-- the event that comes next may happen
next_enabled : (script : Workload) (event : Event) (rest : List Event) (s end : State) → run script s (event ∷ rest) ≡ Some end → enabled (setting_of script) s event ≡ true
next_enabled script event rest s end led = by (may_happen script s event) refl led
  where
    by : (b : Bool) → may_happen script s event ≡ b → option_and_then (λ next. run script next rest) (step_if script s event b) ≡ Some end → enabled (setting_of script) s event ≡ true
    by true may led = (and_parts (enabled (setting_of script) s event) _ may).0
    by false may led = absurd (cc led)

fresh_measure : (m : Session → ℕ) (homes : List Home) (c : ℕ) (h : Home) → nth homes c ≡ Some h → measured m (map (λ home. fresh_session) homes) c ≡ m fresh_session
fresh_measure m homes c h at = ap (λ o. option_map_or m o 0) (nth_in_map (λ home. fresh_session) homes c ∙ ap (option_map (λ home. fresh_session)) at)

some_home : (home : Option Home) (o : Option Session) (test : Home → Session → Bool) → option_map_or (λ h. option_map_or (test h) o false) home false ≡ true → (h : Home) × (home ≡ Some h)
some_home None o test is = absurd (true≢false (sym is))
some_home (Some h) o test is = (h, refl)

none_noted : (base : ℕ) (log : List EntryKind) (xs : List Session) → length log ≤ base → AreNoted base log xs
none_noted base log xs short zero i past at = absurd (cc at)
none_noted base log xs short (suc k) i past at = absurd (beyond log k i (omega (arith, short, past)) at)
  where
    beyond : (log : List EntryKind) (k : ℕ) (i : Intention) → length log ≤ k → slice_get log k ≡ Some (Txn i) → ⊥
    beyond [] k i le at = cc at
    beyond (x ∷ xs) zero i le at = omega (arith, le)
    beyond (x ∷ xs) (suc k) i le at = beyond xs k i (omega (arith, le)) at

on_same : (a b : ℕ) → On a ≡ On b → b ≡ a
on_same a b e = cc

-- where a program begins that asks for a position
pub starts_at : (least board pos snap : ℕ) → start_at least board (Some pos) ≡ On snap → snap ≡ pos
starts_at least board pos snap on = by (nat_lt pos least) (nat_lt board pos) on
  where
    by : (a b : Bool) → (if a then Past least else if b then NotYet board else On pos) ≡ On snap → snap ≡ pos
    by true b e = absurd (cc)
    by false true e = absurd (cc)
    by false false e = on_same pos snap e

module _ (script : Workload) (found : List EntryKind) (events : List Event) (end : State) (some : 1 ≤ g_of script) (leads : run script (opening_of script found) events ≡ Some end) where
  abbrev ws : Setting
  ws = setting_of script

  begin_may : (client : ℕ) (first rest : List Event) (s : State) → events ≡ first ++ Begin client ∷ rest → run script (opening_of script found) first ≡ Some s → client_passes ws s client (may_begin s) ≡ true
  begin_may client first rest s is led = next_enabled script (Begin client) rest s end (sym (run_on script first (Begin client ∷ rest) (opening_of script found) s led) ∙ (ap (run script (opening_of script found)) (sym is) ∙ leads))

  order : (client : ℕ) (first rest : List Event) (s : State) (x : Session) → events ≡ first ++ Begin client ∷ rest → run script (opening_of script found) first ≡ Some s → nth s.sessions client ≡ Some x → x.next ≡ count_by (begins client) first + 1
  order client first rest s x is led at =
      let may = begin_may client first rest s is led in
      let count = counted script client first (opening_of script found) s led in
      let home = some_home (nth ws.homes client) (nth s.sessions client) (may_begin s) may in
      let fresh : measured steps_of (opening_of script found).sessions client ≡ 1 = fresh_measure steps_of ws.homes client home.0 home.1 in
      let here : measured steps_of s.sessions client ≡ steps_of x = ap (λ o. option_map_or steps_of o 0) at in
      let none : begun_one x ≡ 0 = ap one_if (was_idle ws s client may x at) in
      omega (arith, count, fresh, here, none)

  own : (client : ℕ) (first rest : List Event) (s : State) → events ≡ first ++ Begin client ∷ rest → run script (opening_of script found) first ≡ Some s → (pos : ℕ) (i : Intention) → length found < pos → nth s.log pos ≡ Some (Txn i) → i.client ≡ client → pos ≤ snapshot_of script s client
  own client first rest s is led pos i past at mine =
      let may = begin_may client first rest s is led in
      let there = session_there (nth ws.homes client) (nth s.sessions client) (may_begin s) may in
      let noted = run_keeps script (Noted script (length found)) (noted_next script (length found)) (opening_of script found) s first led (none_noted (length found) found (opening_of script found).sessions (omega arith)) in
      let last : pos ≤ measured last_of s.sessions i.client = noted pos i past at in
      let here : measured last_of s.sessions i.client ≡ there.0.last = ap (measured last_of s.sessions) mine ∙ ap (λ o. option_map_or last_of o 0) there.1 in
      let low = below (nth ws.homes client) (nth s.sessions client) there.0 refl may there.1 in
      omega (arith, last, here, low)
    where
      below : (home : Option Home) (o : Option Session) (x : Session) → nth ws.homes client ≡ home → option_map_or (λ h. option_map_or (may_begin s h) o false) home false ≡ true → o ≡ Some x → x.last ≤ snapshot_of script s client
      below None o x e may at = absurd (true≢false (sym may))
      below (Some h) None x e may at = absurd (true≢false (sym may))
      below (Some h) (Some y) x e may at =
          let same : y ≡ x = cc at in
          let le : y.last ≤ board_of s h.server = leb-true y.last (board_of s h.server) (and_parts (nat_le y.next (length h.programs)) _ (and_parts (not (is_begun y.phase)) _ may).1).1 in
          let server : home_server ws client ≡ h.server = ap (λ o. option_map_or (λ home. home.server) o 0) e in
          subst (λ k. x.last ≤ board_of s k) (sym server) (subst (λ (z : Session). z.last ≤ board_of s h.server) same le)

  back : (server : ℕ) (first middle : List Event) (s u : State) → run script (opening_of script found) first ≡ Some s → run script s middle ≡ Some u → board_of s server ≤ board_of u server
  back server first middle s u led on =
      let snaps = boards_run script found first s led in
      (run_keeps script (IsAtLeast script (board_of s server) server) (at_least_next script (board_of s server) server some) s u middle on (record { snaps = snaps; least = omega arith })).least

  pub in_order_all : IsSessionOrdered script found events
  in_order_all = record { in_order = order; own_writes = own; plain = λ client first rest s is led none. ap (start_at (least_kept s (home_server ws client)) (board_of s (home_server ws client))) none; as_of = λ client pos first rest s snap is led asked on. starts_at _ _ _ _ (sym (ap (start_at (least_kept s (home_server ws client)) (board_of s (home_server ws client))) asked) ∙ on); never_back = back }

pub sessions_are_ordered : SessionsAreOrdered
sessions_are_ordered script found events end some leads = in_order_all script found events end some leads
