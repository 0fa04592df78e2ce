-- What the core keeps of a run, and how it stands for a state.
use Rattle.std.specs.Prelude.{◌≡◌, ℕ, ◌+◌, ◌-◌, ◌%◌, ◌^◌, ◌<◌, ◌≤◌, List, [], ◌∷◌, ◌++◌, map, length, take, drop, Option, None}
use Rattle.std.specs.Prelude.{Some, is_none, is_some, IfSome, true, option_map, option_to_list, option_and_then, unwrap_or}
use Rattle.std.specs.Prelude.{find, Result, Ok, Err, replicate, Bool, ◌&&◌, not, nat_le, nat_lt, if◌then◌else◌, ⊤}
use Rattle.std.specs.List.{AllByRecursion}
use Rattle.hy_base.specs.declared.record.EntryKind.{EntryKind}
use Rattle.hy_base.specs.declared.record.EntryKind.TheVariants.{Txn}
use Rattle.hy_base.specs.declared.workload.Program.{Program}
use Rattle.hy_base.specs.declared.workload.Client.{Client}
use Rattle.hy_base.specs.declared.workload.Home.{Home}
use Rattle.hy_base.specs.declared.workload.Session.{Session}
use Rattle.hy_base.specs.declared.workload.ArmedStop.{ArmedStop}
use Rattle.hy_base.specs.declared.workload.Phase.TheVariants.{Idle, Begun}
use Rattle.hy_base.specs.declared.workload.Event.{Event}
use Rattle.hy_base.specs.Lists.{nth, change_nth}
use Rattle.hy_base.specs.Entry.{FitsVersion}
use Rattle.hy_base.specs.Log.{IsLawful}
use Rattle.hy_base.specs.Script.{Workload, home_of}
use Rattle.hy_rules.specs.Validation.{live}
use Rattle.hy_rules.specs.Exec.{Effects, exec, intention}
use Rattle.hy_roll_laws.specs.Rolling.{Roll, rolled_upto, Stands}
use Rattle.hy_base.specs.Shape.{is_within, whole_groups}
use Rattle.hy_rules.specs.Moves.{State, Start, On, Past, NotYet, surviving, client_passes, is_begun, fresh_session, after}
use Rattle.hy_rules.specs.Runs.{snap_of, Ending, ByStop, Ended, answers_to, setting_of, leaves_write, added, ended_by, is_done}
use Rattle.hy_formats.specs.EntryFormat.{spelling}
use Rattle.hy_memlog.specs.Pages.{Pages, IsStop, with_body, broken_log}
use Rattle.hy_exec.specs.Executing.{notes_write}
use Rattle.hy_core.specs.declared.running.Running.{Running}
use Rattle.hy_core.specs.declared.parts.Parts.{Parts}
use Rattle.hy_core.specs.declared.parts.ClientState.{ClientState}
use Rattle.hy_core.specs.declared.parts.EndedProgram.{EndedProgram}
use Rattle.hy_roller.specs.declared.ended.ProgramEnd.{ProgramEnd}
use Rattle.hy_roller.specs.declared.ended.ProgramEnd.TheVariants.{EntryAt, Past as TooEarly, NotYet as TooLate}
use Rattle.hy_roller.specs.Telling.{ending_of}
use Rattle.hy_core.specs.Course.{Course, IsReached}

-- What the core keeps: of each server the roller of its board, and those of the boards before it, the newest first.
pub record Holding : Type 0 where
  pub log : List EntryKind
  pub pages : Pages
  pub rollers : List Roll
  pub earlier : List (List Roll)
  pub client_states : List ClientState
  pub told : List EndedProgram
  pub armed : Option ArmedStop

abbrev pub log_held : Parts → Holding
log_held p = record {
  log = p.log.items;
  pages = p.pages;
  rollers = p.rollers.items;
  earlier = p.earlier.items;
  client_states = p.client_states.items;
  told = p.told.items;
  armed = p.armed;
}

abbrev pub state_in_course : Holding → State
state_in_course h = record {
  log = h.log;
  boards = map rolled_upto h.rollers;
  earlier = map (map rolled_upto) h.earlier;
  sessions = map (λ x. x.session) h.client_states;
  armed = h.armed;
}

-- how a program ended, or none where a stop ended it
abbrev pub ending_in_course : Option ProgramEnd → Ending
ending_in_course None = ByStop
ending_in_course (Some end) = ending_of end

abbrev pub ended_in_course : EndedProgram → Ended
ended_in_course t = record { client = t.client; number = t.number; snap = t.snap; ending = ending_in_course t.end }

abbrev pub done_of : Holding → List Ended
done_of h = map ended_in_course h.told

abbrev pub course_of : Workload → Holding → Course
course_of script h = record { script = script; state = state_in_course h; ended = done_of h; broken = is_none h.pages.bodies }

-- the entry of a program that wrote
abbrev pub entry_left : ℕ → ℕ → ℕ → Effects → Option EntryKind
entry_left server client snap effects = if notes_write effects then Some (Txn (intention server client snap effects)) else None

-- a begun client keeps what its program was answered and what it leaves
pub record IsRunning (script : Workload) (log : List EntryKind) (number : ℕ) (c : Client) (next snap : ℕ)
    (running : Option Running) : Type 0 where
  pub left : next ≤ length c.programs
  pub within : snap ≤ length log
  pub whole : snap % script.shape.group ≡ 0
  pub program : Program
  pub is_program : nth c.programs next ≡ Some program
  pub run : Running
  pub has : running ≡ Some run
  pub answers : run.answers ≡ (exec program (live script.shape log snap)).0
  pub leaves : run.entry ≡ entry_left c.server number snap (exec program (live script.shape log snap)).1

-- a client's state: its next program, and what it keeps where it is begun
pub record IsClientState (script : Workload) (log : List EntryKind) (number : ℕ) (c : Client) (x : ClientState) : Type 0 where
  pub first : 1 ≤ x.session.next
  pub most : x.session.next ≤ length c.programs + 1
  pub begun : (snap : ℕ) → x.session.phase ≡ Begun snap → IsRunning script log number c x.session.next snap x.running

abbrev pub fresh_client_state : ClientState
fresh_client_state = record { session = fresh_session; running = None }

-- the client states of clients, the first of which has this number
abbrev pub AreClientStates : Workload → List EntryKind → ℕ → List Client → List ClientState → Type 0
AreClientStates script log number [] [] = ⊤
AreClientStates script log number [] (x ∷ xs) = ⊥
AreClientStates script log number (c ∷ cs) [] = ⊥
AreClientStates script log number (c ∷ cs) (x ∷ xs) =
    IsClientState script log number c x
    × AreClientStates script log (number + 1) cs xs

-- a server's board, or one before it: a roller that stands for the log up to there
pub record IsServerBoard (script : Workload) (log : List EntryKind) (r : Roll) : Type 0 where
  pub shape : r.shape ≡ script.shape
  pub from_first : r.from ≡ 0
  pub within : rolled_upto r ≤ length log
  pub stands : Stands (take (rolled_upto r) log) r

-- a board that has gone on to a position
pub record RolledBoard (script : Workload) (log : List EntryKind) (rolled : Roll) (upto : ℕ) : Type 0 where
  pub board : IsServerBoard script log rolled
  pub at : rolled_upto rolled ≡ upto

-- a program that ended, with the answers that it was given
pub record IsStepAnswered (script : Workload) (log : List EntryKind) (t : EndedProgram) : Type 0 where
  pub within : t.snap ≤ length log
  pub answers : t.answers ≡ answers_to script log (ended_in_course t)

-- the device holds the entries' spellings, unless its log is broken
pub record IsOnDevice (script : Workload) (log : List EntryKind) (pages : Pages) : Type 0 where
  pub shape : pages.shape ≡ script.shape
  pub bodies : IfSome pages.bodies (λ bodies. bodies ≡ map (spelling script.shape.version) log)

pub record IsHolding (script : Workload) (h : Holding) : Type 0 where
  pub stored : IsOnDevice script h.log h.pages
  pub armed : IfSome h.armed IsStop
  pub lawful : IsLawful script.shape h.log
  pub servers : length h.rollers ≡ script.servers
  pub boards : AllByRecursion (IsServerBoard script h.log) h.rollers
  pub lists : length h.earlier ≡ script.servers
  pub earlier : AllByRecursion (AllByRecursion (IsServerBoard script h.log)) h.earlier
  pub client_states : AreClientStates script h.log 1 script.clients h.client_states
  pub told : AllByRecursion (IsStepAnswered script h.log) h.told

-- and a run has led there
pub record IsCore (script : Workload) (h : Holding) : Type 0 where
  pub holding : IsHolding script h
  pub reached : IsReached (course_of script h)

-- one event further
pub record StepsTo (script : Workload) (old new : Holding) (event : Event) : Type 0 where
  pub holding : IsHolding script new
  pub leads :
      state_in_course new ≡ after (setting_of script) (state_in_course old) event (added script (state_in_course old) event)
  pub ends : done_of new ≡ done_of old ++ ended_by (setting_of script) (state_in_course old) event
  pub whole : is_none new.pages.bodies ≡ is_none old.pages.bodies

-- whether a client's program is begun, and then whether it wrote
abbrev pub begun_wrote : Workload → State → ℕ → Option Bool
begun_wrote script s client =
    if client_passes (setting_of script) s client (λ home session. is_begun session.phase)
    then Some (leaves_write script s client)
    else None

-- an idle client with a program left, whose last entry is published
abbrev pub is_ready : Session → ℕ → ℕ → Bool
is_ready session programs board = not (is_begun session.phase) && (nat_le session.next programs && nat_le session.last board)

-- a client's state once the program of this number has ended
abbrev pub departed : ℕ → ℕ → ClientState
departed number last = record { session = record { next = number + 1; phase = Idle; last = last }; running = None }

-- a client's state, begun at a snapshot
pub record BegunClientState (h : Holding) (client snap : ℕ) (x : ClientState) (run : Running) : Type 0 where
  pub is : nth h.client_states client ≡ Some x
  pub phase : x.session.phase ≡ Begun snap
  pub running : x.running ≡ Some run

-- the client is begun
abbrev pub IsBegunAt : Holding → ℕ → Type 0
IsBegunAt h client = (snap : ℕ) × (x : ClientState) × (run : Running) × BegunClientState h client snap x run

-- the number after the client's next program is one of 32 bits
abbrev pub NextFits : Holding → ℕ → Type 0
NextFits h client = (x : ClientState) → nth h.client_states client ≡ Some x → x.session.next + 1 < 2 ^ 32

-- what the client's program leaves is an entry, which the log can hold
abbrev pub LeavesEntry : Holding → ℕ → Type 0
LeavesEntry h client =
    (x : ClientState) (run : Running) → nth h.client_states client ≡ Some x → x.running ≡ Some run
    → (e : EntryKind) × (run.entry ≡ Some e) × FitsVersion h.pages.shape.version e

-- what is told of a begun program that ends so
abbrev pub told_in_course : ℕ → ℕ → ClientState → Running → ProgramEnd → EndedProgram
told_in_course client snap x run end =
    record { client = client; number = x.session.next; snap = snap; end = Some end; answers = run.answers }

-- a begun client's program ends: it is told, and the client's state is at the next program
abbrev pub finishing : Holding → ℕ → ℕ → ClientState → Running → ProgramEnd → Holding
finishing h client snap x run end = record h {
  client_states = change_nth (λ _. departed x.session.next x.session.last) h.client_states client;
  told = h.told ++ told_in_course client snap x run end ∷ [];
}

abbrev pub Finishes : Holding → Holding → ℕ → ProgramEnd → Type 0
Finishes old new client end =
    (snap : ℕ) (x : ClientState) (run : Running) → BegunClientState old client snap x run
    → new ≡ finishing old client snap x run end

-- the pages with a body more, so many times, where a stop may happen in the first append
abbrev pub pages_with : Option ArmedStop → ℕ → EntryKind → Pages → Pages
pages_with stop count e pages =
    record pages { bodies = option_map (with_body stop count (spelling pages.shape.version e)) pages.bodies }

-- and its entry is appended
abbrev pub appending_in : Holding → ℕ → ℕ → ℕ → ClientState → Running → EntryKind → Holding
appending_in h client pos snap x run e = record h {
  log = h.log ++ e ∷ [];
  pages = pages_with None 1 e h.pages;
  client_states = change_nth (λ _. departed x.session.next pos) h.client_states client;
  told = h.told ++ told_in_course client snap x run (EntryAt pos) ∷ [];
}

abbrev pub Appends : Holding → Holding → ℕ → ℕ → Type 0
Appends old new client pos =
    (snap : ℕ) (x : ClientState) (run : Running) (e : EntryKind) → BegunClientState old client snap x run → run.entry ≡ Some e
    → new ≡ appending_in old client pos snap x run e

-- the first of these clients, the first of which has this number, that is begun or has a program left
abbrev pub first_unfinished : ℕ → List Client → List ClientState → Option (ℕ × (Home × Session))
first_unfinished number [] xs = None
first_unfinished number (c ∷ cs) [] = None
first_unfinished number (c ∷ cs) (x ∷ xs) =
    if not (is_done (home_of c) x.session) then Some (number, (home_of c, x.session)) else first_unfinished (number + 1) cs xs

-- the client with this number is the first
pub record IsUnfinished (clients : List Client) (client_states : List ClientState) (number : ℕ) : Type 0 where
  pub own : Client
  pub is_own : nth clients number ≡ Some own
  pub client_state : ClientState
  pub is_client_state : nth client_states number ≡ Some client_state
  pub first : first_unfinished 1 clients client_states ≡ Some (number, (home_of own, client_state.session))

-- and this is its session, and its server
pub record IsUnfinishedAt (clients : List Client) (client_states : List ClientState) (number : ℕ) (session : Session)
    (server : ℕ) : Type 0 where
  pub is : IsUnfinished clients client_states number
  pub session_is : is.client_state.session ≡ session
  pub server_is : is.own.server ≡ server

-- how a program begins: on a snapshot, or it has ended so
abbrev pub snap_or_end : Start → Result ℕ ProgramEnd
snap_or_end (On snap) = Ok snap
snap_or_end (Past from) = Err (TooEarly from)
snap_or_end (NotYet board) = Err (TooLate board)

-- a client's next program ends before it is begun: it is told without answers, and the client's state is at
-- the program after it
abbrev pub turning_away : Holding → ℕ → ClientState → ProgramEnd → Holding
turning_away h client x end = record h {
  client_states = change_nth (λ _. departed x.session.next x.session.last) h.client_states client;
  told = h.told ++ record { client = client; number = x.session.next; snap = 0; end = Some end; answers = [] } ∷ [];
}

abbrev pub TurnsAway : Holding → Holding → ℕ → ProgramEnd → Type 0
TurnsAway old new client end = (x : ClientState) → nth old.client_states client ≡ Some x → new ≡ turning_away old client x end

-- the newest of these rollers that hasn't passed a position
abbrev pub newest_upto : ℕ → List Roll → Option Roll
newest_upto pos rs = find (λ r. nat_le (rolled_upto r) pos) rs

-- the rollers that a server keeps, the newest first
abbrev pub kept_rollers : Holding → ℕ → List Roll
kept_rollers h server = option_to_list (nth h.rollers server) ++ unwrap_or (nth h.earlier server) []

-- A server that keeps so many boards moves on: the board before is the first of the earlier ones.
abbrev pub keeping_rolls : ℕ → Roll → List Roll → List Roll
keeping_rolls keeps board older = take (keeps - 1) (board ∷ older)

-- its board is this roller then
abbrev pub moving_on : Holding → ℕ → ℕ → Roll → Roll → Holding
moving_on h server keeps own rolled = record h {
  rollers = change_nth (λ _. rolled) h.rollers server;
  earlier = change_nth (keeping_rolls keeps own) h.earlier server;
}

abbrev pub MovesOn : Holding → Holding → ℕ → ℕ → Roll → Type 0
MovesOn old new server keeps rolled =
    (own : Roll) → nth old.rollers server ≡ Some own
    → new ≡ moving_on old server keeps own rolled

-- of a roller and of these, the furthest that hasn't passed a position
abbrev pub furthest : ℕ → Roll → List Roll → Roll
furthest upto best [] = best
furthest upto best (r ∷ rs) =
    furthest upto (if nat_lt (rolled_upto best) (rolled_upto r) && nat_le (rolled_upto r) upto then r else best) rs

-- the first of these servers, the first of which has this number, whose board is below the log's length
abbrev pub first_behind : ℕ → ℕ → List Roll → Option ℕ
first_behind number len [] = None
first_behind number len (r ∷ rs) = if nat_lt (rolled_upto r) len then Some number else first_behind (number + 1) len rs

-- the entries past a position, up to another
abbrev pub entries_between : List EntryKind → ℕ → ℕ → List EntryKind
entries_between log from upto = take (upto - from) (drop from log)

-- whether a stop may be ordered
abbrev pub may_stop : Option ArmedStop → ℕ → ℕ → Bool
may_stop armed call pattern = is_none armed && (is_within 1 4 call && nat_le pattern 2)

-- what the client's begun program leaves
abbrev pub left_entry : List ClientState → ℕ → Option EntryKind
left_entry client_states client =
    option_and_then (λ x. option_and_then (λ (r : Running). r.entry) x.running) (nth client_states client)

-- A roller for each server, at the end of the last whole group, stands for the log.
pub record AreRestarted (script : Workload) (log : List EntryKind) (rs : List Roll) : Type 0 where
  pub count : length rs ≡ script.servers
  pub boards : AllByRecursion (IsServerBoard script log) rs
  pub at : map rolled_upto rs ≡ replicate script.servers (whole_groups script.shape (length log))

-- the entry that a stop keeps
abbrev pub kept_by : ArmedStop → EntryKind → List EntryKind
kept_by stop e = replicate (surviving (Some stop) 1) e

-- a stop has happened in an append: its entry is on the device, or not
abbrev pub stopped_in : ArmedStop → EntryKind → Holding → Holding
stopped_in stop e h = record h { pages = pages_with (Some stop) 1 e h.pages }

-- the log on the device is broken in it
abbrev pub broken : Holding → Holding
broken h = record h { pages = broken_log h.pages }

-- the pages have places for so many bodies more, unless they are broken
abbrev pub HasPlaces : Pages → ℕ → Type 0
HasPlaces pages count = IfSome pages.bodies (λ bodies. length bodies + count ≤ pages.shape.cap)

-- a begun client's program ends by its entry, which is on the device
abbrev pub leaving : Holding → ℕ → ℕ → ℕ → ClientState → Running → EntryKind → Holding
leaving h client pos snap x run e = record (appending_in h client pos snap x run e) { pages = h.pages }

abbrev pub Leaves : Holding → Holding → ℕ → ℕ → Type 0
Leaves old new client pos =
    (snap : ℕ) (x : ClientState) (run : Running) (e : EntryKind) → BegunClientState old client snap x run → run.entry ≡ Some e
    → new ≡ leaving old client pos snap x run e

-- the log on the device is broken in a restart
pub record Breaking (old new : Holding) : Type 0 where
  pub is : new ≡ broken old
  pub armed : is_some old.armed ≡ true

-- the number after a client state's next program is one of 32 bits
abbrev pub ClientStateFits : ClientState → Type 0
ClientStateFits x = x.session.next + 1 < 2 ^ 32

-- a client state whose program is lost where it was begun
abbrev pub abandoned_client_state : ClientState → ClientState
abandoned_client_state x = if is_begun x.session.phase then departed x.session.next x.session.last else x

-- what is told of it
abbrev pub abandoned_told : ℕ → ClientState → List EndedProgram
abandoned_told client x =
    option_to_list (option_map
    (λ snap. record { client = client; number = x.session.next; snap = snap; end = None; answers = [] })
    (snap_of x.session.phase))

-- of these clients, the first of which has this number
abbrev pub all_abandoned : ℕ → List ClientState → List EndedProgram
all_abandoned number [] = []
all_abandoned number (x ∷ xs) = abandoned_told number x ++ all_abandoned (number + 1) xs

-- servers and clients restart
pub record HasRestarted (old new : Holding) (rs : List Roll) : Type 0 where
  pub is : new ≡ record old {
    rollers = rs;
    earlier = map (λ older. []) old.earlier;
    client_states = map abandoned_client_state old.client_states;
    told = old.told ++ all_abandoned 1 old.client_states;
    armed = None;
  }
