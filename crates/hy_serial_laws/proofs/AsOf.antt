-- Programs that ask for a position end as of it.
use Rattle.std.proofs.Common.{◌≡◌, ◌∙◌, ℕ, ◌+◌, ◌<◌, Bool, true, false, List, [], ◌∷◌, ◌++◌, length, map, refl, sym, ap, subst, arith}
use Rattle.std.proofs.lemmas.Bool.{and_parts, eqb-true, eqb-false, ltb-true}
use Rattle.std.proofs.lemmas.Option.{same_Some}
use mathlib.Core.Bool.{true≢false}
use Rattle.std.specs.Prelude.{Option, Some, None, ◌==◌, ◌&&◌, not, is_some, nat_lt, option_map, option_and_then, option_to_list, unwrap_or, if◌then◌else◌}
use Rattle.std.specs.Option.{option_map_or}
use Rattle.std.specs.List.{AllByRecursion, cons_option, enumerate_from, filter_map}
use Rattle.hy_base.specs.declared.record.EntryKind.{EntryKind}
use Rattle.hy_base.specs.declared.workload.ArmedStop.{ArmedStop}
use Rattle.hy_base.specs.declared.workload.Client.{Client}
use Rattle.hy_base.specs.declared.workload.Event.{Event}
use Rattle.hy_base.specs.declared.workload.Event.TheVariants.{Begin, Append, End, Refuse, Pad, Publish, Stop}
use Rattle.hy_base.specs.declared.workload.Home.{Home}
use Rattle.hy_base.specs.declared.workload.Phase.{Phase}
use Rattle.hy_base.specs.declared.workload.Phase.TheVariants.{Idle, Begun}
use Rattle.hy_base.specs.declared.workload.Program.{Program}
use Rattle.hy_base.specs.declared.workload.Mode.{Mode}
use Rattle.hy_base.specs.declared.workload.Session.{Session}
use Rattle.hy_base.specs.Lists.{nth, change_nth}
use Rattle.hy_base.specs.Script.{Workload, mode_of, home_of}
use Rattle.hy_base.proofs.NthLemmas.{change_here, change_elsewhere, nth_in_map, nth_map}
use Rattle.hy_rules.specs.Moves.{Setting, State, Start, On, Past, NotYet, is_begun, is_kept, client_passes, enabled, fresh_session, at_next_program, started, start_at, start_of, least_kept, appended, abandoned, restarted, board_of, home_server, asked_by, asked_position}
use Rattle.hy_rules.specs.Runs.{program_of, setting_of, opening_of, added, snap_of, begun_snap, run, suits, Ended, Ending, ByReading, ByEntryAt, ByFull, ByStop, ByPast, ByNotYet, ended, ended_by_append, ended_by_start, ended_by, ended_in, lost_by_stop}
use Rattle.hy_rules.proofs.Backward.{next_state, run_back}
use Rattle.hy_rules.specs.AsOf.{asks_for, EndsAsAsked, IsAsAsked}
use Rattle.hy_serial_laws.specs.AsOfLaws.{AsOfIsRead}
use Rattle.hy_serial_laws.proofs.InOrder.{was_begun, starts_at}

-- ---- what the next program asks for

client_there : (o : Option Client) (number : ℕ) (p : Program) → option_and_then (λ (c : Client). nth c.programs number) o ≡ Some p → (c : Client) × (o ≡ Some c) × (nth c.programs number ≡ Some p)
client_there None number p e = absurd (cc e)
client_there (Some c) number p e = (c, refl, e)

program_asks : (o : Option Program) (pos : ℕ) → option_and_then (λ (p : Program). p.as_of) o ≡ Some pos → (p : Program) × (o ≡ Some p) × (p.as_of ≡ Some pos)
program_asks None pos e = absurd (cc e)
program_asks (Some p) pos e = (p, refl, e)

asked_there : (script : Workload) (s : State) (client pos : ℕ) (x : Session) → nth s.sessions client ≡ Some x → asks_for script client x.next ≡ Some pos → asked_position (setting_of script) s client ≡ Some pos
asked_there script s client pos x at asks =
    let p = program_asks (program_of script client x.next) pos asks in
    let c = client_there (nth script.clients client) x.next p.0 p.1 in
    let home : nth (setting_of script).homes client ≡ Some (home_of c.0) = nth_map home_of script.clients client c.0 c.1 in
    let own : nth (map mode_of c.0.programs) x.next ≡ Some (mode_of p.0) = nth_map mode_of c.0.programs x.next p.0 c.2 in
    ap (option_and_then (λ (h : Home). option_and_then (asked_by h) (nth s.sessions client))) home
    ∙ (ap (option_and_then (asked_by (home_of c.0))) at
    ∙ (ap (option_and_then (λ (m : Mode). m.as_of)) own ∙ p.2))

-- ---- where a program isn't begun

past_from : (a b : ℕ) → Past a ≡ Past b → a ≡ b
past_from a b e = cc

late_board : (a b : ℕ) → NotYet a ≡ NotYet b → a ≡ b
late_board a b e = cc

starts_below : (least board pos from : ℕ) → start_at least board (Some pos) ≡ Past from → pos < from
starts_below least board pos from past = by (nat_lt pos least) (nat_lt board pos) refl past
  where
    by : (a b : Bool) → nat_lt pos least ≡ a → (if a then Past least else if b then NotYet board else On pos) ≡ Past from → pos < from
    by true b low e = let same = past_from least from e in let below = ltb-true pos least low in omega (arith, same, below)
    by false true low e = absurd (cc)
    by false false low e = absurd (cc)

starts_above : (least board pos upto : ℕ) → start_at least board (Some pos) ≡ NotYet upto → upto < pos
starts_above least board pos upto late = by (nat_lt pos least) (nat_lt board pos) refl late
  where
    by : (a b : Bool) → nat_lt board pos ≡ b → (if a then Past least else if b then NotYet board else On pos) ≡ NotYet upto → upto < pos
    by true b high e = absurd (cc)
    by false true high e = let same = late_board board upto e in let above = ltb-true board pos high in omega (arith, same, above)
    by false false high e = absurd (cc)

-- ---- begun programs

same_snap : (a b : ℕ) → Begun a ≡ Begun b → a ≡ b
same_snap a b e = cc

module _ (script : Workload) where
  -- the begun programs that ask for a position are begun there
  abbrev AreThere : List Session → Type 0
  AreThere xs = (c : ℕ) (x : Session) (pos snap : ℕ) → nth xs c ≡ Some x → asks_for script c x.next ≡ Some pos → x.phase ≡ Begun snap → snap ≡ pos

  idle_mapped : (f : Session → Session) → ((x : Session) → (f x).phase ≡ Idle) → (o : Option Session) (y : Session) → option_map f o ≡ Some y → y.phase ≡ Idle
  idle_mapped f idle None y e = absurd (cc e)
  idle_mapped f idle (Some x) y e = ap (λ (z : Session). z.phase) (sym (same_Some (f x) y e)) ∙ idle x

  -- where a client's program ends
  changed_idle : (f : Session → Session) → ((x : Session) → (f x).phase ≡ Idle) → (xs : List Session) (n : ℕ) → AreThere xs → AreThere (change_nth f xs n)
  changed_idle f idle xs n are c y pos snap at asks begun = by (c == n) refl
    where
      by : (b : Bool) → (c == n) ≡ b → snap ≡ pos
      by true e =
          let here : option_map f (nth xs c) ≡ Some y = sym (change_here f xs c) ∙ (ap (λ k. nth (change_nth f xs k) c) (eqb-true c n e) ∙ at) in
          let rests : y.phase ≡ Idle = idle_mapped f idle (nth xs c) y here in
          absurd (let both : Idle ≡ Begun snap = sym rests ∙ begun in cc both)
      by false e = are c y pos snap (sym (change_elsewhere f xs n c (eqb-false c n e)) ∙ at) asks begun

  -- no program is begun after a stop
  abandoned_idle : (x : Session) (snap : ℕ) → (abandoned x).phase ≡ Begun snap → ⊥
  abandoned_idle x snap e = by (is_begun x.phase) refl e
    where
      by : (b : Bool) → is_begun x.phase ≡ b → (if b then at_next_program x else x).phase ≡ Begun snap → ⊥
      by true is h = cc h
      by false is h = true≢false (sym (ap is_begun h) ∙ is)

  all_abandoned : (xs : List Session) → AreThere (map abandoned xs)
  all_abandoned xs c y pos snap at asks begun = by (nth xs c) (sym (nth_in_map abandoned xs c) ∙ at)
    where
      by : (o : Option Session) → option_map abandoned o ≡ Some y → snap ≡ pos
      by None e = absurd (cc e)
      by (Some x) e = absurd (abandoned_idle x snap (ap (λ (z : Session). z.phase) (same_Some (abandoned x) y e) ∙ begun))

  after_stop : (w : Setting) (s : State) (o : Option ArmedStop) → AreThere s.sessions → AreThere (option_map_or (λ stop. restarted w s) o s).sessions
  after_stop w s None are = are
  after_stop w s (Some stop) are = all_abandoned s.sessions

  -- where a program starts
  begun_there : (s : State) (client : ℕ) → AreThere s.sessions → AreThere (change_nth (started (start_of (setting_of script) s client)) s.sessions client)
  begun_there s client are c y pos snap at asks begun = by (c == client) refl
    where
      w : Setting
      w = setting_of script

      start : (x : Session) (start : Start) → start_of w s c ≡ start → nth s.sessions c ≡ Some x → started start x ≡ y → snap ≡ pos
      start x (On from) is own e =
          let same : from ≡ snap = same_snap from snap (ap (λ (z : Session). z.phase) e ∙ begun) in
          let asks_x : asks_for script c x.next ≡ Some pos = subst (λ k. asks_for script c k ≡ Some pos) (sym (ap (λ (z : Session). z.next) e)) asks in
          let asked = asked_there script s c pos x own asks_x in
          let there : from ≡ pos = starts_at (least_kept s (home_server w c)) (board_of s (home_server w c)) pos from (sym (ap (start_at (least_kept s (home_server w c)) (board_of s (home_server w c))) asked) ∙ is) in
          sym same ∙ there
      start x (Past from) is own e = absurd (let both : Idle ≡ Begun snap = ap (λ (z : Session). z.phase) e ∙ begun in cc both)
      start x (NotYet board) is own e = absurd (let both : Idle ≡ Begun snap = ap (λ (z : Session). z.phase) e ∙ begun in cc both)

      there : (o : Option Session) → nth s.sessions c ≡ o → option_map (started (start_of w s c)) o ≡ Some y → snap ≡ pos
      there None own e = absurd (cc e)
      there (Some x) own e = start x (start_of w s c) refl own (same_Some (started (start_of w s c) x) y e)

      by : (b : Bool) → (c == client) ≡ b → snap ≡ pos
      by true e =
          let same : c ≡ client = eqb-true c client e in
          there (nth s.sessions c) refl (sym (change_here (started (start_of w s c)) s.sessions c) ∙ (ap (λ k. nth (change_nth (started (start_of w s k)) s.sessions k) c) same ∙ at))
      by false e = are c y pos snap (sym (change_elsewhere (started (start_of w s client)) s.sessions client c (eqb-false c client e)) ∙ at) asks begun

  appended_idle : (more : List EntryKind) (len : ℕ) (x : Session) → (appended more len x).phase ≡ Idle
  appended_idle [] len x = refl
  appended_idle (e ∷ es) len x = refl

  stay_there : (s : State) (event : Event) → AreThere s.sessions → AreThere (next_state script s event).sessions
  stay_there s (Begin client) are = begun_there s client are
  stay_there s (Append client) are =
      let more = added script s (Append client) in
      after_stop (setting_of script) (record s { log = s.log ++ more; sessions = change_nth (appended more (length s.log)) s.sessions client }) s.armed (changed_idle (appended more (length s.log)) (appended_idle more (length s.log)) s.sessions client are)
  stay_there s (End client) are = changed_idle at_next_program (λ x. refl) s.sessions client are
  stay_there s (Refuse client) are = changed_idle at_next_program (λ x. refl) s.sessions client are
  stay_there s (Pad server) are = after_stop (setting_of script) (record s { log = s.log ++ added script s (Pad server) }) s.armed are
  stay_there s (Publish server upto) are = are
  stay_there s (Stop call pattern) are = are

  -- ---- the programs that end

  abbrev AllAsked : List Ended → Type 0
  AllAsked = AllByRecursion (IsAsAsked script)

  both : (xs ys : List Ended) → AllAsked xs → AllAsked ys → AllAsked (xs ++ ys)
  both [] ys a b = b
  both (x ∷ xs) ys a b = (a.0, both xs ys a.1 b)

  -- a client's program ends so
  ended_case : (client : ℕ) (ending : Ending) (snap : ℕ) (o : Option Session) → ((x : Session) → o ≡ Some x → (pos : ℕ) → asks_for script client x.next ≡ Some pos → EndsAsAsked pos snap ending)
      → AllAsked (option_to_list (option_map (λ session. record { client = client; number = session.next; snap = snap; ending = ending }) o))
  ended_case client ending snap None h = tt
  ended_case client ending snap (Some x) h = (λ pos asks. h x refl pos asks, tt)

  lost_one : (b : Bool) (e : Ended) (done : List Ended) → IsAsAsked script e → AllAsked done → AllAsked (cons_option (if b then Some e else None) done)
  lost_one true e done h all = (h, all)
  lost_one false e done h all = all

  lost_from : (s : State) (kept n : ℕ) (xs : List Session)
      → AllAsked (filter_map (λ p. if is_begun p.1.phase && not (p.0 == kept) then Some (record { client = p.0; number = p.1.next; snap = begun_snap s p.0; ending = ByStop }) else None) (enumerate_from n xs))
  lost_from s kept n [] = tt
  lost_from s kept n (x ∷ xs) = lost_one (is_begun x.phase && not (n == kept)) (record { client = n; number = x.next; snap = begun_snap s n; ending = ByStop }) _ (λ pos asks. tt) (lost_from s kept (n + 1) xs)

  lost : (s : State) (kept : ℕ) → AllAsked (lost_by_stop s kept)
  lost s kept = lost_from s kept 1 s.sessions

  by_entry : (s : State) (client at : ℕ) → AllAsked (ended s client (ByEntryAt at))
  by_entry s client at = ended_case client (ByEntryAt at) (begun_snap s client) (nth s.sessions client) (λ x own pos asks. tt)

  either : (b : Bool) (s : State) (client at : ℕ) → AllAsked (if b then ended s client (ByEntryAt at) ++ lost_by_stop s client else lost_by_stop s 0)
  either true s client at = both (ended s client (ByEntryAt at)) (lost_by_stop s client) (by_entry s client at) (lost s client)
  either false s client at = lost s 0

  append_ends : (o : Option ArmedStop) (s : State) (client : ℕ) → AllAsked (ended_by_append o s client)
  append_ends None s client = by_entry s client (length s.log + 1)
  append_ends (Some stop) s client = either (is_kept stop) s client (length s.log + 1)

  pad_ends : (o : Option ArmedStop) (s : State) → AllAsked (if is_some o then lost_by_stop s 0 else [])
  pad_ends None s = tt
  pad_ends (Some stop) s = lost s 0

  start_ends : (s : State) (client : ℕ) (start : Start) → start_of (setting_of script) s client ≡ start → AllAsked (ended_by_start start s client)
  start_ends s client (On snap) is = tt
  start_ends s client (Past from) is = ended_case client (ByPast from) (begun_snap s client) (nth s.sessions client) (λ x own pos asks.
      let w = setting_of script in
      starts_below (least_kept s (home_server w client)) (board_of s (home_server w client)) pos from (sym (ap (start_at (least_kept s (home_server w client)) (board_of s (home_server w client))) (asked_there script s client pos x own asks)) ∙ is))
  start_ends s client (NotYet board) is = ended_case client (ByNotYet board) (begun_snap s client) (nth s.sessions client) (λ x own pos asks.
      let w = setting_of script in
      starts_above (least_kept s (home_server w client)) (board_of s (home_server w client)) pos board (sym (ap (start_at (least_kept s (home_server w client)) (board_of s (home_server w client))) (asked_there script s client pos x own asks)) ∙ is))

  snap_there : (phase : Phase) → is_begun phase ≡ true → phase ≡ Begun (unwrap_or (snap_of phase) 0)
  snap_there Idle is = absurd (true≢false (sym is))
  snap_there (Begun snap) is = refl

  reading_ends : (s : State) (client : ℕ) → client_passes (setting_of script) s client (λ home session. is_begun session.phase) ≡ true → AreThere s.sessions → AllAsked (ended s client ByReading)
  reading_ends s client may are = ended_case client ByReading (begun_snap s client) (nth s.sessions client) (λ x own pos asks.
      let at : begun_snap s client ≡ unwrap_or (snap_of x.phase) 0 = ap (λ (o : Option Session). unwrap_or (option_and_then (λ (y : Session). snap_of y.phase) o) 0) own in
      at ∙ are client x pos (unwrap_or (snap_of x.phase) 0) own asks (snap_there x.phase (was_begun (setting_of script) s client may x own)))

  event_ends : (s : State) (event : Event) → enabled (setting_of script) s event ≡ true → AreThere s.sessions → AllAsked (ended_by (setting_of script) s event)
  event_ends s (Begin client) may are = start_ends s client (start_of (setting_of script) s client) refl
  event_ends s (Append client) may are = append_ends s.armed s client
  event_ends s (End client) may are = reading_ends s client may are
  event_ends s (Refuse client) may are = ended_case client ByFull (begun_snap s client) (nth s.sessions client) (λ x own pos asks. tt)
  event_ends s (Pad server) may are = pad_ends s.armed s
  event_ends s (Publish server upto) may are = tt
  event_ends s (Stop call pattern) may are = tt

  all_fresh : (homes : List Home) → AreThere (map (λ home. fresh_session) homes)
  all_fresh homes c y pos snap at asks begun = by (nth homes c) (sym (nth_in_map (λ (home : Home). fresh_session) homes c) ∙ at)
    where
      by : (o : Option Home) → option_map (λ (home : Home). fresh_session) o ≡ Some y → snap ≡ pos
      by None e = absurd (cc e)
      by (Some h) e = absurd (let both : Idle ≡ Begun snap = ap (λ (z : Session). z.phase) (same_Some fresh_session y e) ∙ begun in cc both)

  ends_asked : (s end : State) (events : List Event) → run script s events ≡ Some end → AreThere s.sessions → AllAsked (ended_in script s events)
  ends_asked s end events led =
      run_back script end (λ u done. AreThere u.sessions → AllAsked done) (λ are. tt)
      (λ u event done may rest are.
      let can = (and_parts (enabled (setting_of script) u event) (suits script u event) may).0 in
      both (ended_by (setting_of script) u event) done (event_ends u event can are) (rest (stay_there u event are))) s events led

pub as_of_is_read : AsOfIsRead
as_of_is_read script found events end led = ends_asked script (opening_of script found) end events led (all_fresh script (setting_of script).homes)
