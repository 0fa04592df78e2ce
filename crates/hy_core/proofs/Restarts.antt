-- What is kept after a stop has happened, and all have restarted.
use Rattle.std.proofs.Common.{◌≡◌, ℕ, zero, suc, ◌+◌, ◌<◌, ◌≤◌, Bool, true, false, List, [], ◌∷◌, ◌++◌, length, map, replicate, take, refl, ap, sym, ◌∙◌, subst, arith, add-one, append_assoc}
use Rattle.std.proofs.lemmas.List.{append-nil, map-append, length-map}
use Rattle.std.specs.Prelude.{Option, Some, None, is_some, option_map, option_and_then, option_to_list, unwrap_or, filter_map, ◌&&◌, ◌==◌, not, if◌then◌else◌}
use Rattle.std.specs.Option.{option_map_or}
use Rattle.std.specs.List.{AllByRecursion, enumerate_from}
use Rattle.hy_base.specs.declared.record.EntryKind.{EntryKind}
use Rattle.hy_base.specs.declared.record.EntryKind.TheVariants.{Filler}
use Rattle.hy_base.specs.declared.workload.Event.TheVariants.{Append, Pad}
use Rattle.hy_base.proofs.NthLemmas.{nth_map, nth_within}
use Rattle.hy_base.proofs.ListLemmas.{all_push, all_append}
use Rattle.hy_formats.specs.EntryFormat.{spelling}
use Rattle.hy_memlog.specs.Pages.{Pages, with_body}
use Rattle.hy_base.specs.declared.workload.Client.{Client}
use Rattle.hy_base.specs.declared.workload.Session.{Session}
use Rattle.hy_base.specs.declared.workload.ArmedStop.{ArmedStop}
use Rattle.hy_base.specs.declared.workload.Phase.{Phase}
use Rattle.hy_base.specs.declared.workload.Phase.TheVariants.{Idle, Begun}
use Rattle.hy_base.specs.Shape.{whole_groups}
use Rattle.hy_base.specs.Log.{IsLawful}
use Rattle.hy_base.specs.Lists.{nth, change_nth}
use Rattle.hy_base.specs.Script.{Workload, IsScript}
use Rattle.hy_base.specs.Limits.{most_clients}
use Rattle.hy_roll_laws.specs.Rolling.{Roll, rolled_upto}
use Rattle.hy_rules.specs.Moves.{Setting, State, appended, is_kept, surviving, missing, after, is_begun, abandoned, at_next_program, restarted}
use Rattle.hy_rules.specs.Runs.{Ended, ByStop, ByEntryAt, added, own_entry, ended, ended_by_append, setting_of, snap_of, begun_snap, lost_by_stop}
use Rattle.hy_core.specs.declared.running.Running.{Running}
use Rattle.hy_core.specs.declared.parts.ClientState.{ClientState}
use Rattle.hy_core.specs.declared.parts.EndedProgram.{EndedProgram}
use Rattle.hy_roller.specs.declared.ended.ProgramEnd.TheVariants.{EntryAt}
use Rattle.hy_core.specs.CoreParts.{Holding, ClientStateFits, IsHolding, IsOnDevice, BegunClientState, StepsTo, leaving, told_in_course, IsClientState, IsStepAnswered, AreClientStates, AreRestarted, abandoned_client_state, abandoned_told, all_abandoned, departed, kept_by, pages_with, IsServerBoard, state_in_course, done_of, ended_in_course}
use Rattle.hy_core.specs.Replies.{HasFewPrograms}
use Rattle.hy_core.proofs.Leaving.{left_client_state, still_whole, begun_of, told_is, done_is, ended_is, sessions_are}
use Rattle.hy_core.proofs.ClientStateLemmas.{client_state_changes}
use Rattle.hy_core.proofs.Begun.{IsBegun}
use Rattle.hy_core.proofs.LogGrowth.{client_states_grow, told_grow, stored_after}
use Rattle.hy_core.proofs.TailRule.{as_many}
use Rattle.hy_core.proofs.Kept.{all_cleared, cleared}
use Rattle.hy_core.proofs.Telling.{few_at}

-- ---- the client states

abandoned_by : (phase : Phase) (b : Bool) (x : ClientState) → is_begun phase ≡ b → x.session.phase ≡ phase → (abandoned_client_state x).session ≡ abandoned x.session
abandoned_by Idle b x is phase = rw phase refl
abandoned_by (Begun snap) b x is phase = rw phase (λ i. record { next = add-one x.session.next i; phase = Idle; last = x.session.last })

abandoned_session : (x : ClientState) → (abandoned_client_state x).session ≡ abandoned x.session
abandoned_session x = abandoned_by x.session.phase (is_begun x.session.phase) x refl refl

pub abandoned_sessions : (xs : List ClientState) → map (λ (x : ClientState). x.session) (map abandoned_client_state xs) ≡ map abandoned (map (λ (x : ClientState). x.session) xs)
abandoned_sessions [] = refl
abandoned_sessions (x ∷ xs) = λ i. abandoned_session x i ∷ abandoned_sessions xs i

abandoned_is : (script : Workload) (log : List EntryKind) (number : ℕ) (c : Client) (x : ClientState) (phase : Phase) → x.session.phase ≡ phase → IsClientState script log number c x → IsClientState script log number c (abandoned_client_state x)
abandoned_is script log number c x Idle phase is =
    subst (IsClientState script log number c) (ap (λ (p : Phase). if is_begun p then departed x.session.next x.session.last else x) (sym phase)) is
abandoned_is script log number c x (Begun snap) phase is =
    subst (IsClientState script log number c) (ap (λ (p : Phase). if is_begun p then departed x.session.next x.session.last else x) (sym phase))
    (left_client_state script log number x.session.next x.session.last c is.first (is.begun snap phase).left)

pub abandoned_client_states : (script : Workload) (log : List EntryKind) (number : ℕ) (cs : List Client) (xs : List ClientState) → AreClientStates script log number cs xs → AreClientStates script log number cs (map abandoned_client_state xs)
abandoned_client_states script log number [] [] are = tt
abandoned_client_states script log number [] (x ∷ xs) are = are
abandoned_client_states script log number (c ∷ cs) [] are = are
abandoned_client_states script log number (c ∷ cs) (x ∷ xs) are = (abandoned_is script log number c x x.session.phase refl are.0, abandoned_client_states script log (number + 1) cs xs are.1)

-- ---- what is told

told_one : (script : Workload) (log : List EntryKind) (number : ℕ) (c : Client) (x : ClientState) (phase : Phase) → x.session.phase ≡ phase → IsClientState script log number c x → AllByRecursion (IsStepAnswered script log) (abandoned_told number x)
told_one script log number c x Idle phase is = rw phase tt
told_one script log number c x (Begun snap) phase is = rw phase (record { within = (is.begun snap phase).within; answers = refl }, tt)

told_all : (script : Workload) (log : List EntryKind) (number : ℕ) (cs : List Client) (xs : List ClientState) → AreClientStates script log number cs xs → AllByRecursion (IsStepAnswered script log) (all_abandoned number xs)
told_all script log number [] [] are = tt
told_all script log number [] (x ∷ xs) are = absurd are
told_all script log number (c ∷ cs) [] are = absurd are
told_all script log number (c ∷ cs) (x ∷ xs) are =
    all_append (IsStepAnswered script log) (abandoned_told number x) (all_abandoned (number + 1) xs) (told_one script log number c x x.session.phase refl are.0) (told_all script log (number + 1) cs xs are.1)

-- ---- the programs that the stop ends

-- of a session with a number, by the snapshot that is looked up
abbrev lost_of : State → ℕ → ℕ × Session → Option Ended
lost_of s kept p = if is_begun p.1.phase && not (p.0 == kept) then Some (record { client = p.0; number = p.1.next; snap = begun_snap s p.0; ending = ByStop }) else None

lost_one : (s : State) (kept number : ℕ) (x : ClientState) (phase : Phase) → (number == kept) ≡ false → x.session.phase ≡ phase → nth s.sessions number ≡ Some x.session → option_to_list (lost_of s kept (number, x.session)) ≡ map ended_in_course (abandoned_told number x)
lost_one s kept number x Idle other phase here = rw phase refl
lost_one s kept number x (Begun snap) other phase here =
    let at : begun_snap s number ≡ snap = (λ i. unwrap_or (option_and_then (λ (y : Session). snap_of y.phase) (here i)) 0) ∙ ap (λ p. unwrap_or (snap_of p) 0) phase in
    (λ i. option_to_list (if is_begun (phase i) && not (other i) then Some (record { client = number; number = x.session.next; snap = at i; ending = ByStop }) else None))
    ∙ sym (λ i. map ended_in_course (option_to_list (option_map (λ k. let t : EndedProgram = record { client = number; number = x.session.next; snap = k; end = None; answers = [] } in t) (snap_of (phase i)))))

filter_one : {X Y : Type 0} (f : X → Option Y) (x : X) (xs : List X) → filter_map f (x ∷ xs) ≡ option_to_list (f x) ++ filter_map f xs
filter_one f x xs = by_option (f x) refl
  where
    by_option : (o : Option _) → f x ≡ o → filter_map f (x ∷ xs) ≡ option_to_list (f x) ++ filter_map f xs
    by_option None is = rw is refl
    by_option (Some y) is = rw is refl

-- the session at each place from a number on
abbrev SessionsFrom : State → ℕ → List ClientState → Type 0
SessionsFrom s number xs = (k : ℕ) (x : ClientState) → nth xs (suc k) ≡ Some x → nth s.sessions (number + k) ≡ Some x.session

lost_from : (s : State) (number : ℕ) (xs : List ClientState) → 1 ≤ number → SessionsFrom s number xs → filter_map (lost_of s 0) (enumerate_from number (map (λ (x : ClientState). x.session) xs)) ≡ map ended_in_course (all_abandoned number xs)
lost_from s number [] some are = refl
lost_from s number (x ∷ xs) some are =
    let here : nth s.sessions number ≡ Some x.session = let e : number ≡ number + 0 = omega arith in ap (nth s.sessions) e ∙ are 0 x refl in
    let later : SessionsFrom s (number + 1) xs = λ k y is. let e : number + 1 + k ≡ number + suc k = omega arith in ap (nth s.sessions) e ∙ are (suc k) y is in
    filter_one (lost_of s 0) (number, x.session) (enumerate_from (number + 1) (map (λ (y : ClientState). y.session) xs))
    ∙ (λ i. lost_one s 0 number x x.session.phase (grind (arith, some)) refl here i ++ lost_from s (number + 1) xs (omega arith) later i)
    ∙ sym (map-append ended_in_course (abandoned_told number x) (all_abandoned (number + 1) xs))

pub lost_is : (h : Holding) → map ended_in_course (h.told ++ all_abandoned 1 h.client_states) ≡ done_of h ++ lost_by_stop (state_in_course h) 0
lost_is h =
    map-append ended_in_course h.told (all_abandoned 1 h.client_states)
    ∙ ap (λ es. done_of h ++ es) (sym (lost_from (state_in_course h) 1 h.client_states (omega arith) (λ k x is. let e : 1 + k ≡ suc k = omega arith in ap (nth (state_in_course h).sessions) e ∙ nth_map (λ (y : ClientState). y.session) h.client_states (suc k) x is)))

-- ---- the boards

constant : {X : Type 0} (n : ℕ) (xs : List X) → map (λ x. n) xs ≡ replicate (length xs) n
constant n [] = refl
constant n (x ∷ xs) = ap (λ l. n ∷ l) (constant n xs)

-- ---- all of it

-- the parts after a stop in which these entries were kept
abbrev pub restarting : Holding → List EntryKind → Pages → List Roll → Holding
restarting h kept pages rs = record { log = h.log ++ kept; pages = pages; rollers = rs; earlier = map (λ older. []) h.earlier; client_states = map abandoned_client_state h.client_states; told = h.told ++ all_abandoned 1 h.client_states; armed = None }

pub restarts : (script : Workload) (h : Holding) (e : EntryKind) (stop : ArmedStop) (rs : List Roll) → IsHolding script h → IsLawful script.shape (h.log ++ kept_by stop e) → AreRestarted script (h.log ++ kept_by stop e) rs
    → IsHolding script (restarting h (kept_by stop e) (pages_with (Some stop) 1 e h.pages) rs)
restarts script h e stop rs is lawful boards =
    let more : List EntryKind = kept_by stop e in
    record {
      stored = stored_after script h.log h.pages (Some stop) 1 e is.stored;
      armed = tt;
      lawful = lawful;
      servers = boards.count;
      boards = boards.boards;
      lists = length-map h.earlier (λ (older : List Roll). let none : List Roll = [] in none) ∙ is.lists;
      earlier = all_cleared (IsServerBoard script (h.log ++ more)) h.earlier;
      client_states = abandoned_client_states script (h.log ++ more) 1 script.clients h.client_states (client_states_grow script h.log more 1 script.clients h.client_states is.client_states);
      told = all_append (IsStepAnswered script (h.log ++ more)) h.told (all_abandoned 1 h.client_states) (told_grow script h.log more h.told is.told)
          (told_all script (h.log ++ more) 1 script.clients h.client_states (client_states_grow script h.log more 1 script.clients h.client_states is.client_states));
    }

-- the state is the one that the rules restart
pub restarted_is : (script : Workload) (h : Holding) (kept : List EntryKind) (pages : Pages) (rs : List Roll) → IsHolding script h → AreRestarted script (h.log ++ kept) rs
    → state_in_course (restarting h kept pages rs) ≡ restarted (setting_of script) (record (state_in_course h) { log = h.log ++ kept })
restarted_is script h kept pages rs is boards =
    let end : ℕ = whole_groups script.shape (length (h.log ++ kept)) in
    let count : length (state_in_course h).boards ≡ script.servers = length-map h.rollers rolled_upto ∙ is.servers in
    (λ i. record { log = h.log ++ kept; boards = (boards.at ∙ (ap (λ n. replicate n end) (sym count) ∙ sym (constant end (state_in_course h).boards))) i; earlier = cleared h.earlier i; sessions = abandoned_sessions h.client_states i; armed = None })

-- a pad in which a stop happens
pub pad_restarts : (script : Workload) (h : Holding) (server : ℕ) (stop : ArmedStop) (rs : List Roll) → IsHolding script h → h.armed ≡ Some stop
    → IsLawful script.shape (h.log ++ kept_by stop (Filler server)) → AreRestarted script (h.log ++ kept_by stop (Filler server)) rs
    → StepsTo script h (restarting h (kept_by stop (Filler server)) (pages_with (Some stop) 1 (Filler server) h.pages) rs) (Pad server)
pad_restarts script h server stop rs is armed lawful boards =
    let own : EntryKind = Filler server in
    let w : Setting = setting_of script in
    let s : State = state_in_course h in
    record {
      holding = restarts script h own stop rs is lawful boards;
      leads = restarted_is script h (kept_by stop own) (pages_with (Some stop) 1 own h.pages) rs is boards
          ∙ ap (λ (a : Option ArmedStop). option_map_or (λ k. restarted w (record s { log = h.log ++ replicate (surviving a (missing w (length h.log))) own })) a (record s { log = h.log ++ replicate (surviving a (missing w (length h.log))) own })) (sym armed);
      ends = lost_is h ∙ ap (λ (a : Option ArmedStop). done_of h ++ (if is_some a then lost_by_stop s 0 else [])) (sym armed);
      whole = still_whole (with_body (Some stop) 1 (spelling h.pages.shape.version own)) h.pages.bodies;
    }

-- ---- an append in which a stop happens

idle_next : (y : Session) → abandoned (at_next_program y) ≡ at_next_program y
idle_next y = refl

next_or_lost : (b : Bool) (y : Session) → is_begun y.phase ≡ b → b ≡ true → abandoned y ≡ abandoned (at_next_program y)
next_or_lost b y is begun = ap (λ (c : Bool). if c then at_next_program y else y) (is ∙ begun)

-- a begun session that goes on to its next program is abandoned all the same
next_abandoned : (ys : List Session) (n : ℕ) → ((y : Session) → nth ys n ≡ Some y → is_begun y.phase ≡ true) → map abandoned ys ≡ map abandoned (change_nth at_next_program ys n)
next_abandoned [] n begun = refl
next_abandoned (y ∷ ys) zero begun = refl
next_abandoned (y ∷ ys) (suc zero) begun = ap (λ z. z ∷ map abandoned ys) (next_or_lost (is_begun y.phase) y refl (begun y refl))
next_abandoned (y ∷ ys) (suc (suc n)) begun = ap (λ zs. abandoned y ∷ zs) (next_abandoned ys (suc n) begun)

-- An append in which a stop happens that drops the entry.
pub append_lost : (script : Workload) (h : Holding) (client : ℕ) (x : ClientState) (e : EntryKind) (stop : ArmedStop) (rs : List Roll) → IsHolding script h → h.armed ≡ Some stop → is_kept stop ≡ false
    → nth h.client_states client ≡ Some x → is_begun x.session.phase ≡ true → IsLawful script.shape (h.log ++ kept_by stop e) → AreRestarted script (h.log ++ kept_by stop e) rs
    → StepsTo script h (restarting h (kept_by stop e) (pages_with (Some stop) 1 e h.pages) rs) (Append client)
append_lost script h client x e stop rs is armed drops own begun lawful boards =
    let w : Setting = setting_of script in
    let s : State = state_in_course h in
    let none : kept_by stop e ≡ [] = ap (λ (b : Bool). replicate (if b then 1 else 0) e) drops in
    let no_entry : added script s (Append client) ≡ [] = (λ i. take (surviving (armed i) 1) (own_entry script s client)) ∙ ap (λ (b : Bool). take (if b then 1 else 0) (own_entry script s client)) drops in
    let session : nth s.sessions client ≡ Some x.session = nth_map (λ (y : ClientState). y.session) h.client_states client x own in
    let lost : map abandoned s.sessions ≡ map abandoned (change_nth at_next_program s.sessions client) =
    next_abandoned s.sessions client (λ y here. let f : Some x.session ≡ Some y = sym session ∙ here in let same : x.session ≡ y = ap (λ o. unwrap_or o x.session) f in subst (λ (z : Session). is_begun z.phase ≡ true) same begun) in
    record {
      holding = restarts script h e stop rs is lawful boards;
      leads = restarted_is script h (kept_by stop e) (pages_with (Some stop) 1 e h.pages) rs is boards
          ∙ ((λ i. record { log = h.log ++ none i; boards = map (λ board. whole_groups script.shape (length (h.log ++ none i))) s.boards; earlier = map (λ older. []) s.earlier; sessions = lost i; armed = None })
          ∙ (ap (λ (a : Option ArmedStop). option_map_or (λ k. restarted w (record s { log = h.log ++ []; sessions = change_nth at_next_program s.sessions client })) a (record s { log = h.log ++ []; sessions = change_nth at_next_program s.sessions client })) (sym armed)
          ∙ ap (after w s (Append client)) (sym no_entry)));
      ends = lost_is h ∙ (ap (λ (b : Bool). done_of h ++ (if b then ended s client (ByEntryAt (length h.log + 1)) ++ lost_by_stop s client else lost_by_stop s 0)) (sym drops) ∙ ap (λ (a : Option ArmedStop). done_of h ++ ended_by_append a s client) (sym armed));
      whole = still_whole (with_body (Some stop) 1 (spelling h.pages.shape.version e)) h.pages.bodies;
    }

-- where the session with a number is kept
is_kept_one : (s : State) (kept number : ℕ) (x y : ClientState) → (number == kept) ≡ true → y.session.phase ≡ Idle → option_to_list (lost_of s kept (number, x.session)) ≡ map ended_in_course (abandoned_told number y)
is_kept_one s kept number x y same idle =
    (λ i. option_to_list (if is_begun x.session.phase && not (same i) then Some (record { client = number; number = x.session.next; snap = begun_snap s number; ending = ByStop }) else None))
    ∙ (never (is_begun x.session.phase) (record { client = number; number = x.session.next; snap = begun_snap s number; ending = ByStop })
    ∙ sym (λ i. map ended_in_course (option_to_list (option_map (λ k. let t : EndedProgram = record { client = number; number = y.session.next; snap = k; end = None; answers = [] } in t) (snap_of (idle i))))))
  where
    never : (b : Bool) (e : Ended) → option_to_list (if b && false then Some e else None) ≡ []
    never true e = refl
    never false e = refl

-- the changed place is the kept one, or lies before
abbrev IsChangedPlace : ℕ → ℕ → ℕ → Type 0
IsChangedPlace kept number zero = kept < number
IsChangedPlace kept number (suc n) = kept ≡ number + n

lost_changed : (s : State) (kept number : ℕ) (xs : List ClientState) (n : ℕ) (y : ClientState) → y.session.phase ≡ Idle → SessionsFrom s number xs → IsChangedPlace kept number n
    → filter_map (lost_of s kept) (enumerate_from number (map (λ (x : ClientState). x.session) xs)) ≡ map ended_in_course (all_abandoned number (change_nth (λ _. y) xs n))
lost_changed s kept number [] n y idle are place = refl
lost_changed s kept number (x ∷ xs) zero y idle are place =
    let here : nth s.sessions number ≡ Some x.session = let e : number ≡ number + 0 = omega arith in ap (nth s.sessions) e ∙ are 0 x refl in
    let later : SessionsFrom s (number + 1) xs = λ k z is. let e : number + 1 + k ≡ number + suc k = omega arith in ap (nth s.sessions) e ∙ are (suc k) z is in
    filter_one (lost_of s kept) (number, x.session) (enumerate_from (number + 1) (map (λ (z : ClientState). z.session) xs))
    ∙ (λ i. lost_one s kept number x x.session.phase (grind (arith, place)) refl here i ++ (lost_changed s kept (number + 1) xs zero y idle later (omega (arith, place)) ∙ ap (λ zs. map ended_in_course (all_abandoned (number + 1) zs)) (unchanged y xs)) i)
    ∙ sym (map-append ended_in_course (abandoned_told number x) (all_abandoned (number + 1) xs))
  where
    unchanged : (z : ClientState) (zs : List ClientState) → change_nth (λ _. z) zs zero ≡ zs
    unchanged z [] = refl
    unchanged z (w ∷ zs) = refl
lost_changed s kept number (x ∷ xs) (suc zero) y idle are place =
    let later : SessionsFrom s (number + 1) xs = λ k z is. let e : number + 1 + k ≡ number + suc k = omega arith in ap (nth s.sessions) e ∙ are (suc k) z is in
    filter_one (lost_of s kept) (number, x.session) (enumerate_from (number + 1) (map (λ (z : ClientState). z.session) xs))
    ∙ (λ i. is_kept_one s kept number x y (grind (arith, place)) idle i ++ (lost_changed s kept (number + 1) xs zero y idle later (omega (arith, place)) ∙ ap (λ zs. map ended_in_course (all_abandoned (number + 1) zs)) (unchanged y xs)) i)
    ∙ sym (map-append ended_in_course (abandoned_told number y) (all_abandoned (number + 1) xs))
  where
    unchanged : (z : ClientState) (zs : List ClientState) → change_nth (λ _. z) zs zero ≡ zs
    unchanged z [] = refl
    unchanged z (w ∷ zs) = refl
lost_changed s kept number (x ∷ xs) (suc (suc n)) y idle are place =
    let here : nth s.sessions number ≡ Some x.session = let e : number ≡ number + 0 = omega arith in ap (nth s.sessions) e ∙ are 0 x refl in
    let later : SessionsFrom s (number + 1) xs = λ k z is. let e : number + 1 + k ≡ number + suc k = omega arith in ap (nth s.sessions) e ∙ are (suc k) z is in
    filter_one (lost_of s kept) (number, x.session) (enumerate_from (number + 1) (map (λ (z : ClientState). z.session) xs))
    ∙ (λ i. lost_one s kept number x x.session.phase (grind (arith, place)) refl here i ++ lost_changed s kept (number + 1) xs (suc n) y idle later (omega (arith, place)) i)
    ∙ sym (map-append ended_in_course (abandoned_told number x) (all_abandoned (number + 1) (change_nth (λ _. y) xs (suc n))))

-- an append in which a stop happens that keeps the entry
pub append_kept : (script : Workload) (h : Holding) (client pos snap : ℕ) (x : ClientState) (run : Running) (e : EntryKind) (stop : ArmedStop) (rs : List Roll) → IsScript script → IsHolding script h → h.armed ≡ Some stop → is_kept stop ≡ true → pos ≡ length h.log + 1
    → BegunClientState h client snap x run → own_entry script (state_in_course h) client ≡ e ∷ [] → IsLawful script.shape (h.log ++ kept_by stop e) → AreRestarted script (h.log ++ kept_by stop e) rs
    → StepsTo script h (restarting (leaving (record h { pages = pages_with (Some stop) 1 e h.pages }) client pos snap x run e) [] (pages_with (Some stop) 1 e h.pages) rs) (Append client)
append_kept script h client pos snap x run e stop rs script_is is armed keeps at_end b own lawful boards =
    let w : Setting = setting_of script in
    let s : State = state_in_course h in
    let one : kept_by stop e ≡ e ∷ [] = ap (λ (c : Bool). replicate (if c then 1 else 0) e) keeps in
    let log : List EntryKind = h.log ++ e ∷ [] in
    let y : ClientState = departed x.session.next pos in
    let t : EndedProgram = told_in_course client snap x run (EntryAt pos) in
    let xs : List ClientState = change_nth (λ _. y) h.client_states client in
    let g : IsBegun script h client x = begun_of script h client snap x run is b in
    let client_state : IsClientState script log client g.kept_client.own y = left_client_state script log client x.session.next pos g.kept_client.own g.kept_client.client_state.first g.running.left in
    let client_states : AreClientStates script log 1 script.clients xs = client_state_changes script log script.clients h.client_states client g.kept_client.own y (client_states_grow script h.log (e ∷ []) 1 script.clients h.client_states is.client_states) g.kept_client.is_own client_state in
    let adds : added script s (Append client) ≡ e ∷ [] = (λ i. take (surviving (armed i) 1) (own i)) ∙ ap (λ (c : Bool). take (if c then 1 else 0) (e ∷ [])) keeps in
    let next : y.session ≡ appended (e ∷ []) (length h.log) x.session = (λ j. record { next = add-one x.session.next j; phase = Idle; last = at_end j }) in
    let same_log : log ++ [] ≡ log = append-nil log in
    let restart : AreRestarted script log rs = subst (λ (l : List EntryKind). AreRestarted script (h.log ++ l) rs) one boards in
    let end : ℕ = whole_groups script.shape (length log) in
    let count : length s.boards ≡ script.servers = length-map h.rollers rolled_upto ∙ is.servers in
    let stored : IsOnDevice script log (pages_with (Some stop) 1 e h.pages) = subst (λ (l : List EntryKind). IsOnDevice script (h.log ++ l) (pages_with (Some stop) 1 e h.pages)) one (stored_after script h.log h.pages (Some stop) 1 e is.stored) in
    let holding : IsHolding script (record { log = log; pages = pages_with (Some stop) 1 e h.pages; rollers = rs; earlier = map (λ older. []) h.earlier; client_states = map abandoned_client_state xs; told = (h.told ++ t ∷ []) ++ all_abandoned 1 xs; armed = None }) = record {
      stored = stored;
      armed = tt;
      lawful = subst (λ (l : List EntryKind). IsLawful script.shape (h.log ++ l)) one lawful;
      servers = restart.count;
      boards = restart.boards;
      lists = length-map h.earlier (λ (older : List Roll). let none : List Roll = [] in none) ∙ is.lists;
      earlier = all_cleared (IsServerBoard script log) h.earlier;
      client_states = abandoned_client_states script log 1 script.clients xs client_states;
      told = all_append (IsStepAnswered script log) (h.told ++ t ∷ []) (all_abandoned 1 xs)
          (told_grow script h.log (e ∷ []) (h.told ++ t ∷ []) (all_push (IsStepAnswered script h.log) h.told t is.told (told_is script h client snap x run (EntryAt pos) tt is b)))
          (told_all script log 1 script.clients xs client_states);
    } in
    let steps : StepsTo script h (record { log = log; pages = pages_with (Some stop) 1 e h.pages; rollers = rs; earlier = map (λ older. []) h.earlier; client_states = map abandoned_client_state xs; told = (h.told ++ t ∷ []) ++ all_abandoned 1 xs; armed = None }) (Append client) = record {
      holding = holding;
      leads = (λ i. record { log = log; boards = (restart.at ∙ (ap (λ n. replicate n end) (sym count) ∙ sym (constant end s.boards))) i; earlier = cleared h.earlier i; sessions = (abandoned_sessions xs ∙ ap (map abandoned) (sessions_are (appended (e ∷ []) (length h.log)) h client x y b.is next)) i; armed = None })
          ∙ (ap (λ (a : Option ArmedStop). option_map_or (λ k. restarted w (record s { log = log; sessions = change_nth (appended (e ∷ []) (length h.log)) s.sessions client })) a (record s { log = log; sessions = change_nth (appended (e ∷ []) (length h.log)) s.sessions client })) (sym armed)
          ∙ ap (after w s (Append client)) (sym adds));
      ends = map-append ended_in_course (h.told ++ t ∷ []) (all_abandoned 1 xs)
          ∙ ((λ i. done_is h t i ++ lost_is_kept i)
          ∙ (append_assoc (done_of h) (ended_in_course t ∷ []) (lost_by_stop s client)
          ∙ (ap (λ es. done_of h ++ (es ++ lost_by_stop s client)) (sym (ended_is h client snap x run (EntryAt pos) b) ∙ ap (λ n. ended s client (ByEntryAt n)) at_end)
          ∙ (ap (λ (c : Bool). done_of h ++ (if c then ended s client (ByEntryAt (length h.log + 1)) ++ lost_by_stop s client else lost_by_stop s 0)) (sym keeps) ∙ ap (λ (a : Option ArmedStop). done_of h ++ ended_by_append a s client) (sym armed)))));
      whole = still_whole (with_body (Some stop) 1 (spelling h.pages.shape.version e)) h.pages.bodies;
    } in
    subst (λ (l : List EntryKind). StepsTo script h (record { log = l; pages = pages_with (Some stop) 1 e h.pages; rollers = rs; earlier = map (λ older. []) h.earlier; client_states = map abandoned_client_state xs; told = (h.told ++ t ∷ []) ++ all_abandoned 1 xs; armed = None }) (Append client)) (sym same_log) steps
  where
    place_is : (n : ℕ) → 1 ≤ n → IsChangedPlace n 1 n
    place_is zero some = absurd (omega (arith, some))
    place_is (suc n) some = omega arith

    lost_is_kept : map ended_in_course (all_abandoned 1 (change_nth (λ _. departed x.session.next pos) h.client_states client)) ≡ lost_by_stop (state_in_course h) client
    lost_is_kept =
        sym (lost_changed (state_in_course h) client 1 h.client_states client (departed x.session.next pos) refl
        (λ k z here. let e1 : 1 + k ≡ suc k = omega arith in ap (nth (state_in_course h).sessions) e1 ∙ nth_map (λ (z : ClientState). z.session) h.client_states (suc k) z here)
        (place_is client (nth_within h.client_states client x b.is).at_least))

-- ---- what a restart asks of the client states

client_states_fit_by : (script : Workload) (log : List EntryKind) (number : ℕ) (cs : List Client) (xs : List ClientState) → AreClientStates script log number cs xs → AllByRecursion HasFewPrograms cs → AllByRecursion ClientStateFits xs
client_states_fit_by script log number [] [] are few = tt
client_states_fit_by script log number [] (x ∷ xs) are few = absurd are
client_states_fit_by script log number (c ∷ cs) [] are few = tt
client_states_fit_by script log number (c ∷ cs) (x ∷ xs) are few = (omega (arith, are.0.most, few.0), client_states_fit_by script log (number + 1) cs xs are.1 few.1)

pub client_states_fit : (script : Workload) (h : Holding) → IsScript script → IsHolding script h → AllByRecursion ClientStateFits h.client_states
client_states_fit script h script_is is = client_states_fit_by script h.log 1 script.clients h.client_states is.client_states (few_at script.servers script.clients script_is.clients)

pub client_states_few : (script : Workload) (h : Holding) → length script.clients ≤ most_clients → IsHolding script h → length h.client_states ≤ most_clients
client_states_few script h few is = omega (arith, few, as_many script h.log 1 script.clients h.client_states is.client_states)
