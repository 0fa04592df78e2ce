-- In a run that found the log as far as the end of a group, each program is begun at or past it.
use Rattle.std.proofs.Common.{◌≡◌, ◌∙◌, ℕ, zero, suc, ◌+◌, ◌%◌, ◌<◌, ◌≤◌, Bool, true, false, cond, List, [], ◌∷◌, ◌++◌, length, map, refl, sym, ap, subst, arith, length-append}
use mathlib.Core.Bool.{true≢false}
use Rattle.std.proofs.lemmas.Bool.{and_parts, leb-true, ltb-true, ltb-false}
use Rattle.std.proofs.lemmas.List.{length-map, length-replicate}
use Rattle.std.specs.Prelude.{◌-◌, Option, Some, None, ⊤, is_some, option_map, option_to_list, find, replicate, take, unwrap_or, nat_lt, nat_le, not, ◌&&◌, ◌==◌, if◌then◌else◌}
use Rattle.std.specs.Option.{option_map_or}
use Rattle.std.specs.List.{AllByRecursion, cons_option, enumerate_from, filter_map, last_or}
use Rattle.hy_base.specs.declared.record.EntryKind.{EntryKind}
use Rattle.hy_base.specs.declared.workload.ArmedStop.{ArmedStop}
use Rattle.hy_base.specs.declared.workload.Client.{Client}
use Rattle.hy_base.specs.declared.workload.Event.{Event}
use Rattle.hy_base.specs.declared.workload.Event.TheVariants.{Begin, Append, End, Refuse, Pad, Publish, Stop}
use Rattle.hy_base.specs.declared.workload.Home.{Home}
use Rattle.hy_base.specs.declared.workload.Phase.{Phase}
use Rattle.hy_base.specs.declared.workload.Phase.TheVariants.{Idle, Begun}
use Rattle.hy_base.specs.declared.workload.Session.{Session}
use Rattle.hy_base.specs.Lists.{nth, change_nth}
use Rattle.hy_base.specs.Script.{Workload, IsScript, IsClient, home_of}
use Rattle.hy_base.specs.Shape.{IsWithin, is_within, whole_groups}
use Rattle.hy_base.proofs.GroupLemmas.{whole_below}
use Rattle.hy_base.proofs.ListLemmas.{all_append}
use Rattle.hy_base.proofs.NthLemmas.{All-nth, all_nth, length_change, nth_in_map, nth_some}
use Rattle.hy_rules.specs.Moves.{Setting, State, fresh_session, is_begun, is_declared, is_kept, is_whole, enabled, client_passes, may_begin, Start, On, Past, NotYet, start_at, start_of, asked_position, started, at_next_program, appended, abandoned, restarted, board_of, earlier_of, least_kept, home_server, keeping, opening, after}
use Rattle.hy_rules.specs.Runs.{setting_of, opening_of, added, begun_snap, run, snap_of, suits, Ending, ByReading, ByEntryAt, ByFull, ByStop, ByPast, ByNotYet, Ended, ended, ended_by, ended_by_append, ended_by_start, ended_in, lost_by_stop}
use Rattle.hy_rules.specs.Serial.{is_entry_at}
use Rattle.hy_rules.proofs.Backward.{run_back, run_keeps}

abbrev PhasePast : ℕ → Phase → Type 0
PhasePast base Idle = ⊤
PhasePast base (Begun snap) = base ≤ snap

-- boards and begun programs at or past a base
record ArePast (base : ℕ) (w : Setting) (s : State) : Type 0 where
  pub longer : base ≤ length s.log
  pub count : length s.boards ≡ w.servers
  pub boards : AllByRecursion (λ board. base ≤ board) s.boards
  pub earlier : AllByRecursion (λ older. AllByRecursion (λ board. base ≤ board) older) s.earlier
  pub sessions : AllByRecursion (λ x. PhasePast base x.phase) s.sessions

-- what stays the same for the run: the base is the end of a group, and each client belongs to a server
record IsBase (base : ℕ) (w : Setting) : Type 0 where
  pub group : 1 ≤ w.shape.group
  pub whole : base % w.shape.group ≡ 0
  pub homes : (client : ℕ) (home : Home) → nth w.homes client ≡ Some home → IsWithin 1 w.servers home.server

-- ---- lists

all_changed : {X : Type 0} (P : X → Type 0) (f : X → X) → ((x : X) → P (f x)) → (xs : List X) (n : ℕ) → AllByRecursion P xs → AllByRecursion P (change_nth f xs n)
all_changed P f h [] n a = tt
all_changed P f h (x ∷ xs) zero a = a
all_changed P f h (x ∷ xs) (suc zero) a = (h x, a.1)
all_changed P f h (x ∷ xs) (suc (suc n)) a = (a.0, all_changed P f h xs (suc n) a.1)

all_mapped : {X Y : Type 0} (P : X → Type 0) (Q : Y → Type 0) (f : X → Y) → ((x : X) → P x → Q (f x)) → (xs : List X) → AllByRecursion P xs → AllByRecursion Q (map f xs)
all_mapped P Q f h [] a = tt
all_mapped P Q f h (x ∷ xs) a = (h x a.0, all_mapped P Q f h xs a.1)

any_mapped : {X Y : Type 0} (Q : Y → Type 0) (f : X → Y) → ((x : X) → Q (f x)) → (xs : List X) → AllByRecursion Q (map f xs)
any_mapped Q f h [] = tt
any_mapped Q f h (x ∷ xs) = (h x, any_mapped Q f h xs)

replicated : {X : Type 0} (P : X → Type 0) (x : X) (n : ℕ) → P x → AllByRecursion P (replicate n x)
replicated P x zero h = tt
replicated P x (suc n) h = (h, replicated P x n h)

all_taken : {X : Type 0} (P : X → Type 0) (n : ℕ) (xs : List X) → AllByRecursion P xs → AllByRecursion P (take n xs)
all_taken P zero xs a = tt
all_taken P (suc n) [] a = tt
all_taken P (suc n) (x ∷ xs) a = (a.0, all_taken P n xs a.1)

-- a change that keeps a property keeps it in a list
all_kept : {X : Type 0} (P : X → Type 0) (f : X → X) → ((x : X) → P x → P (f x)) → (xs : List X) (n : ℕ) → AllByRecursion P xs → AllByRecursion P (change_nth f xs n)
all_kept P f h [] n a = tt
all_kept P f h (x ∷ xs) zero a = a
all_kept P f h (x ∷ xs) (suc zero) a = (h x a.0, a.1)
all_kept P f h (x ∷ xs) (suc (suc n)) a = (a.0, all_kept P f h xs (suc n) a.1)

-- the last of a list, or a value beside it
last_past : (base d : ℕ) (o : Option ℕ) (xs : List ℕ) → base ≤ unwrap_or o d → AllByRecursion (λ board. base ≤ board) xs → base ≤ unwrap_or (last_or o xs) d
last_past base d o [] own a = own
last_past base d o (x ∷ xs) own a = last_past base d (Some x) xs a.0 a.1

-- ---- a state

within_test : (low high n : ℕ) → is_within low high n ≡ true → IsWithin low high n
within_test low high n e = let parts = and_parts (nat_le low n) (nat_le n high) e in record { at_least = leb-true low n parts.0; at_most = leb-true n high parts.1 }

board_past : (base : ℕ) (w : Setting) (s : State) (server : ℕ) → ArePast base w s → IsWithin 1 w.servers server → base ≤ board_of s server
board_past base w s server h within =
    let there = nth_some s.boards server (subst (λ n. IsWithin 1 n server) (sym h.count) within) in
    let past : base ≤ there.0 = all_nth (λ board. base ≤ board) s.boards server there.0 h.boards there.1 in
    let same : board_of s server ≡ there.0 = ap (λ (o : Option ℕ). unwrap_or o 0) there.1 in
    omega (arith, past, same)

earlier_case : (base : ℕ) (o : Option (List ℕ)) (xss : List (List ℕ)) (server : ℕ) → nth xss server ≡ o → AllByRecursion (λ older. AllByRecursion (λ board. base ≤ board) older) xss → AllByRecursion (λ board. base ≤ board) (unwrap_or o [])
earlier_case base None xss server at h = tt
earlier_case base (Some older) xss server at h = all_nth (λ (xs : List ℕ). AllByRecursion (λ board. base ≤ board) xs) xss server older h at

least_past : (base : ℕ) (w : Setting) (s : State) (server : ℕ) → ArePast base w s → IsWithin 1 w.servers server → base ≤ least_kept s server
least_past base w s server h within =
    last_past base (board_of s server) None (earlier_of s server) (board_past base w s server h within) (earlier_case base (nth s.earlier server) s.earlier server refl h.earlier)

-- a program begins on a board or between those that are kept
start_past : (base least board : ℕ) (asked : Option ℕ) (x : Session) → base ≤ least → base ≤ board → PhasePast base (started (start_at least board asked) x).phase
start_past base least board None x low high = high
start_past base least board (Some pos) x low high = by (nat_lt pos least) (nat_lt board pos) refl
  where
    by : (a b : Bool) → nat_lt pos least ≡ a → PhasePast base (started (if a then Past least else if b then NotYet board else On pos) x).phase
    by true b e = tt
    by false true e = tt
    by false false e = let above : least ≤ pos = ltb-false pos least e in omega (arith, above, low)

-- the server of a client that passes a test
home_case : (servers : ℕ) (o : Option Home) (test : Home → Bool) → option_map_or test o false ≡ true → ((home : Home) → o ≡ Some home → IsWithin 1 servers home.server) → IsWithin 1 servers (option_map_or (λ home. home.server) o 0)
home_case servers None test e h = absurd (true≢false (sym e))
home_case servers (Some home) test e h = h home refl

home_within : (base : ℕ) (w : Setting) (s : State) (client : ℕ) (test : Home → Session → Bool) → IsBase base w → client_passes w s client test ≡ true → IsWithin 1 w.servers (home_server w client)
home_within base w s client test is e = home_case w.servers (nth w.homes client) (λ home. option_map_or (test home) (nth s.sessions client) false) e (is.homes client)

-- ---- events

abandoned_phase : (base : ℕ) (x : Session) (b : Bool) → PhasePast base x.phase → PhasePast base (if b then at_next_program x else x).phase
abandoned_phase base x true h = tt
abandoned_phase base x false h = h

appended_phase : (base n : ℕ) (more : List EntryKind) (x : Session) → PhasePast base (appended more n x).phase
appended_phase base n [] x = tt
appended_phase base n (e ∷ es) x = tt

past_stop : (base : ℕ) (w : Setting) (s : State) (o : Option ArmedStop) → IsBase base w → ArePast base w s → ArePast base w (option_map_or (λ stop. restarted w s) o s)
past_stop base w s None is h = h
past_stop base w s (Some stop) is h = record {
  longer = h.longer;
  count = length-map s.boards (λ board. whole_groups w.shape (length s.log)) ∙ h.count;
  boards = any_mapped (λ board. base ≤ board) (λ board. whole_groups w.shape (length s.log)) (λ board. whole_below w.shape.group base (length s.log) is.group is.whole h.longer) s.boards;
  earlier = any_mapped (λ (older : List ℕ). AllByRecursion (λ board. base ≤ board) older) (λ older. []) (λ older. tt) s.earlier;
  sessions = all_mapped (λ x. PhasePast base x.phase) (λ x. PhasePast base x.phase) abandoned (λ x p. abandoned_phase base x (is_begun x.phase) p) s.sessions h.sessions;
}

past_longer : (base : ℕ) (w : Setting) (s : State) (more : List EntryKind) → ArePast base w s → ArePast base w (record s { log = s.log ++ more })
past_longer base w s more h = record { longer = omega (arith, h.longer, length-append s.log more); count = h.count; boards = h.boards; earlier = h.earlier; sessions = h.sessions }

past_sessions : (base : ℕ) (w : Setting) (s : State) (f : Session → Session) (client : ℕ) → ((x : Session) → PhasePast base (f x).phase) → ArePast base w s → ArePast base w (record s { sessions = change_nth f s.sessions client })
past_sessions base w s f client k h = record { longer = h.longer; count = h.count; boards = h.boards; earlier = h.earlier; sessions = all_changed (λ x. PhasePast base x.phase) f k s.sessions client h.sessions }

past_after : (base : ℕ) (w : Setting) (s : State) (event : Event) (more : List EntryKind) → IsBase base w → enabled w s event ≡ true → ArePast base w s → ArePast base w (after w s event more)
past_after base w s (Begin client) more is e h =
    let home : IsWithin 1 w.servers (home_server w client) = home_within base w s client (may_begin s) is e in
    past_sessions base w s (started (start_of w s client)) client
    (λ x. start_past base (least_kept s (home_server w client)) (board_of s (home_server w client)) (asked_position w s client) x (least_past base w s (home_server w client) h home) (board_past base w s (home_server w client) h home)) h
past_after base w s (Append client) more is e h =
    past_stop base w _ s.armed is (past_sessions base w (record s { log = s.log ++ more }) (appended more (length s.log)) client (λ x. appended_phase base (length s.log) more x) (past_longer base w s more h))
past_after base w s (End client) more is e h = past_sessions base w s at_next_program client (λ x. tt) h
past_after base w s (Refuse client) more is e h = past_sessions base w s at_next_program client (λ x. tt) h
past_after base w s (Pad server) more is e h = past_stop base w _ s.armed is (past_longer base w s more h)
past_after base w s (Publish server upto) more is e h =
    let parts = and_parts (is_declared w server) _ e in
    let rest = and_parts (is_whole w.shape upto) _ parts.1 in
    let further : board_of s server < upto = ltb-true (board_of s server) upto (and_parts (nat_lt (board_of s server) upto) _ rest.1).0 in
    let old : base ≤ board_of s server = board_past base w s server h (within_test 1 w.servers server parts.0) in
    record {
      longer = h.longer;
      count = length_change (λ board. upto) s.boards server ∙ h.count;
      boards = all_changed (λ board. base ≤ board) (λ board. upto) (λ board. omega (arith, old, further)) s.boards server h.boards;
      earlier = all_kept (λ (older : List ℕ). AllByRecursion (λ board. base ≤ board) older) (keeping w.keeps (board_of s server)) (λ older all. all_taken (λ board. base ≤ board) (w.keeps - 1) (board_of s server ∷ older) (old, all)) s.earlier server h.earlier;
      sessions = h.sessions;
    }
past_after base w s (Stop call pattern) more is e h = record { longer = h.longer; count = h.count; boards = h.boards; earlier = h.earlier; sessions = h.sessions }

past_opening : (base : ℕ) (w : Setting) (log : List EntryKind) → IsBase base w → base ≤ length log → ArePast base w (opening w log)
past_opening base w log is within = record {
  longer = within;
  count = length-replicate w.servers (whole_groups w.shape (length log));
  boards = replicated (λ board. base ≤ board) (whole_groups w.shape (length log)) w.servers (whole_below w.shape.group base (length log) is.group is.whole within);
  earlier = replicated (λ (older : List ℕ). AllByRecursion (λ board. base ≤ board) older) [] w.servers tt;
  sessions = any_mapped (λ x. PhasePast base x.phase) (λ home. fresh_session) (λ home. tt) w.homes;
}

-- ---- the programs that are ended

-- a program that left an entry was begun at or past the base
abbrev EndingPast : ℕ → ℕ → Ending → Type 0
EndingPast base snap ByReading = ⊤
EndingPast base snap (ByEntryAt pos) = base ≤ snap
EndingPast base snap ByFull = ⊤
EndingPast base snap ByStop = ⊤
EndingPast base snap (ByPast from) = ⊤
EndingPast base snap (ByNotYet board) = ⊤

abbrev EndPast : ℕ → List Ended → Type 0
EndPast base done = AllByRecursion (λ e. EndingPast base e.snap e.ending) done

either_past : (base : ℕ) (b : Bool) (e : Ended) (done : List Ended) → EndingPast base e.snap e.ending → EndPast base done → EndPast base (cons_option (if b then Some e else None) done)
either_past base true e done h all = (h, all)
either_past base false e done h all = all

lost_from_past : (base : ℕ) (s : State) (kept n : ℕ) (xs : List Session)
    → EndPast base (filter_map (λ p. if is_begun p.1.phase && not (p.0 == kept) then Some (record { client = p.0; number = p.1.next; snap = begun_snap s p.0; ending = ByStop }) else None) (enumerate_from n xs))
lost_from_past base s kept n [] = tt
lost_from_past base s kept n (x ∷ xs) = either_past base (is_begun x.phase && not (n == kept)) (record { client = n; number = x.next; snap = begun_snap s n; ending = ByStop }) _ tt (lost_from_past base s kept (n + 1) xs)

lost_past : (base : ℕ) (s : State) (kept : ℕ) → EndPast base (lost_by_stop s kept)
lost_past base s kept = lost_from_past base s kept 1 s.sessions

ended_case : (base : ℕ) (s : State) (client : ℕ) (ending : Ending) (o : Option Session) → EndingPast base (begun_snap s client) ending → EndPast base (option_to_list (option_map (λ session. record { client = client; number = session.next; snap = begun_snap s client; ending = ending }) o))
ended_case base s client ending None h = tt
ended_case base s client ending (Some x) h = (h, tt)

ended_past : (base : ℕ) (s : State) (client : ℕ) (ending : Ending) → EndingPast base (begun_snap s client) ending → EndPast base (ended s client ending)
ended_past base s client ending h = ended_case base s client ending (nth s.sessions client) h

-- the snapshot of a client whose program is begun
phase_past : (base : ℕ) (phase : Phase) → is_begun phase ≡ true → PhasePast base phase → base ≤ unwrap_or (snap_of phase) 0
phase_past base Idle e h = absurd (true≢false (sym e))
phase_past base (Begun snap) e h = h

session_case : (base : ℕ) (s : State) (client : ℕ) (o : Option Session) (home : Home) → nth s.sessions client ≡ o → option_map_or (λ session. is_begun session.phase) o false ≡ true → AllByRecursion (λ x. PhasePast base x.phase) s.sessions → base ≤ begun_snap s client
session_case base s client None home at e h = absurd (true≢false (sym e))
session_case base s client (Some x) home at e h =
    let past : base ≤ unwrap_or (snap_of x.phase) 0 = phase_past base x.phase e (all_nth (λ y. PhasePast base y.phase) s.sessions client x h at) in
    let same : begun_snap s client ≡ unwrap_or (snap_of x.phase) 0 = rw at refl in
    omega (arith, past, same)

passing_case : (base : ℕ) (s : State) (client : ℕ) (o : Option Home) → option_map_or (λ home. option_map_or (λ session. is_begun session.phase) (nth s.sessions client) false) o false ≡ true → AllByRecursion (λ x. PhasePast base x.phase) s.sessions → base ≤ begun_snap s client
passing_case base s client None e h = absurd (true≢false (sym e))
passing_case base s client (Some home) e h = session_case base s client (nth s.sessions client) home refl e h

kept_past : (base : ℕ) (s : State) (client : ℕ) (kept : Bool) → base ≤ begun_snap s client → EndPast base (if kept then ended s client (ByEntryAt (length s.log + 1)) ++ lost_by_stop s client else lost_by_stop s 0)
kept_past base s client true past =
    all_append (λ e. EndingPast base e.snap e.ending) (ended s client (ByEntryAt (length s.log + 1))) (lost_by_stop s client) (ended_past base s client (ByEntryAt (length s.log + 1)) past) (lost_past base s client)
kept_past base s client false past = lost_past base s 0

append_past : (base : ℕ) (s : State) (client : ℕ) (o : Option ArmedStop) → base ≤ begun_snap s client → EndPast base (ended_by_append o s client)
append_past base s client None past = ended_past base s client (ByEntryAt (length s.log + 1)) past
append_past base s client (Some stop) past = kept_past base s client (is_kept stop) past

pad_past : (base : ℕ) (s : State) (o : Option ArmedStop) → EndPast base (if is_some o then lost_by_stop s 0 else [])
pad_past base s None = tt
pad_past base s (Some stop) = lost_past base s 0

start_ended : (base : ℕ) (s : State) (client : ℕ) (start : Start) → EndPast base (ended_by_start start s client)
start_ended base s client (On snap) = tt
start_ended base s client (Past from) = ended_past base s client (ByPast from) tt
start_ended base s client (NotYet board) = ended_past base s client (ByNotYet board) tt

step_past : (base : ℕ) (w : Setting) (s : State) (event : Event) → enabled w s event ≡ true → ArePast base w s → EndPast base (ended_by w s event)
step_past base w s (Begin client) e h = start_ended base s client (start_of w s client)
step_past base w s (Append client) e h =
    append_past base s client s.armed (passing_case base s client (nth w.homes client) (and_parts (client_passes w s client (λ home session. is_begun session.phase)) _ e).0 h.sessions)
step_past base w s (End client) e h = ended_past base s client ByReading tt
step_past base w s (Refuse client) e h = ended_past base s client ByFull tt
step_past base w s (Pad server) e h = pad_past base s s.armed
step_past base w s (Publish server upto) e h = tt
step_past base w s (Stop call pattern) e h = tt

run_past : (base : ℕ) (script : Workload) (s t : State) (events : List Event) → IsBase base (setting_of script) → run script s events ≡ Some t → ArePast base (setting_of script) s → EndPast base (ended_in script s events)
run_past base script s t events is h =
    run_back script t (λ u done. ArePast base (setting_of script) u → EndPast base done) (λ past. tt)
    (λ u event done may rest past.
    let parts = and_parts (enabled (setting_of script) u event) (suits script u event) may in
    all_append (λ e. EndingPast base e.snap e.ending) (ended_by (setting_of script) u event) done (step_past base (setting_of script) u event parts.0 past)
    (rest (past_after base (setting_of script) u event (added script u event) is parts.0 past))) s events h

-- ---- of a script

client_case : (script : Workload) (home : Home) (o : Option Client) → ((c : Client) → o ≡ Some c → IsClient script.servers c) → option_map home_of o ≡ Some home → IsWithin 1 script.servers home.server
client_case script home None h e = absurd (cc)
client_case script home (Some c) h e = let same : home_of c ≡ home = cc in subst (λ (x : Home). IsWithin 1 script.servers x.server) same (h c refl).server

base_of : (script : Workload) (base : ℕ) → IsScript script → base % script.shape.group ≡ 0 → IsBase base (setting_of script)
base_of script base is whole = record {
  group = is.shape.group.at_least;
  whole = whole;
  homes = λ client home at.
      client_case script home (nth script.clients client) (λ c there. All-nth (IsClient script.servers) script.clients client c there is.clients) (sym (nth_in_map home_of script.clients client) ∙ at);
}

found_case : (base pos : ℕ) (d x : Ended) (xs : List Ended) (b : Bool) → is_entry_at pos x.ending ≡ b → cond b (Some x) (find (λ e. is_entry_at pos e.ending) xs) ≡ Some d → EndingPast base x.snap x.ending
    → (find (λ e. is_entry_at pos e.ending) xs ≡ Some d → base ≤ d.snap) → base ≤ d.snap
found_case base pos d x xs true e h own rest = let same : x ≡ d = cc in subst (λ (y : Ended). base ≤ y.snap) same (of_ending x.ending e own)
  where
    of_ending : (ending : Ending) → is_entry_at pos ending ≡ true → EndingPast base x.snap ending → base ≤ x.snap
    of_ending ByReading at past = absurd (true≢false (sym at))
    of_ending (ByEntryAt place) at past = past
    of_ending ByFull at past = absurd (true≢false (sym at))
    of_ending ByStop at past = absurd (true≢false (sym at))
    of_ending (ByPast from) at past = absurd (true≢false (sym at))
    of_ending (ByNotYet board) at past = absurd (true≢false (sym at))
found_case base pos d x xs false e h own rest = rest h

found_past : (base pos : ℕ) (d : Ended) (xs : List Ended) → EndPast base xs → find (λ e. is_entry_at pos e.ending) xs ≡ Some d → base ≤ d.snap
found_past base pos d [] all h = absurd (cc)
found_past base pos d (x ∷ xs) all h = found_case base pos d x xs (is_entry_at pos x.ending) refl h all.0 (found_past base pos d xs all.1)

-- the program that left the entry of a position was begun at or past the base
pub begun_past : (script : Workload) (found : List EntryKind) (events : List Event) (t : State) (base pos : ℕ) (d : Ended) → IsScript script → run script (opening_of script found) events ≡ Some t → base % script.shape.group ≡ 0 → base ≤ length found
    → find (λ e. is_entry_at pos e.ending) (ended_in script (opening_of script found) events) ≡ Some d → base ≤ d.snap
begun_past script found events t base pos d is leads whole within at =
    let base_is : IsBase base (setting_of script) = base_of script base is whole in
    found_past base pos d (ended_in script (opening_of script found) events) (run_past base script (opening_of script found) t events base_is leads (past_opening base (setting_of script) found base_is within)) at

-- the log doesn't get shorter
pub found_stays : (script : Workload) (found : List EntryKind) (events : List Event) (t : State) (base : ℕ) → IsScript script → run script (opening_of script found) events ≡ Some t → base % script.shape.group ≡ 0 → base ≤ length found → base ≤ length t.log
found_stays script found events t base is leads whole within =
    let base_is : IsBase base (setting_of script) = base_of script base is whole in
    (run_keeps script (ArePast base (setting_of script)) (λ s event e h. past_after base (setting_of script) s event (added script s event) base_is e h) (opening_of script found) t events leads
    (past_opening base (setting_of script) found base_is within)).longer
