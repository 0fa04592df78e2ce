-- The store's state: the log, what each server has published, where each client stands, and how a program begins and ends.
use Rattle.std.specs.Prelude.{ℕ, ◌-◌, ◌%◌, Bool, false, ◌&&◌, not, List, [], map, length, replicate}
use Rattle.std.specs.Prelude.{filter_map, Option, Some, None, is_some, option_map, option_and_then, option_to_list, unwrap_or}
use Rattle.std.specs.Prelude.{nat_lt, nat_le, ◌==◌, if◌then◌else◌}
use Rattle.std.specs.Option.{option_map_or}
use Rattle.std.specs.List.{enumerate_from, last_or}
use Rattle.hy_base.specs.declared.layout.Shape.{Shape}
use Rattle.hy_base.specs.declared.record.Isolation.{Isolation}
use Rattle.hy_base.specs.declared.record.EntryKind.{EntryKind}
use Rattle.hy_base.specs.declared.workload.Home.{Home}
use Rattle.hy_base.specs.declared.workload.Session.{Session}
use Rattle.hy_base.specs.declared.workload.ArmedStop.{ArmedStop}
use Rattle.hy_base.specs.declared.workload.Phase.{Phase}
use Rattle.hy_base.specs.declared.workload.Phase.TheVariants.{Idle, Begun}
use Rattle.hy_base.specs.Shape.{is_within, whole_groups}
use Rattle.hy_base.specs.Lists.{nth}

-- What stays the same for a whole run. Each server keeps so many of its last boards.
pub record Setting : Type 0 where
  pub shape : Shape
  pub servers : ℕ
  pub keeps : ℕ
  pub homes : List Home

-- the log, each server's board (the position up to which it has published) and the boards before it that it keeps (the newest
-- first), each client's session, and an armed stop
pub record State : Type 0 where
  pub log : List EntryKind
  pub boards : List ℕ
  pub earlier : List (List ℕ)
  pub sessions : List Session
  pub armed : Option ArmedStop

abbrev pub fresh_session : Session
fresh_session = record { next = 1; phase = Idle; last = 0 }

-- a run starts on the log as it is found
abbrev pub opening : Setting → List EntryKind → State
opening w log = record {
  log = log;
  boards = replicate w.servers (whole_groups w.shape (length log));
  earlier = replicate w.servers [];
  sessions = map (λ home. fresh_session) w.homes;
  armed = None;
}

abbrev pub board_of : State → ℕ → ℕ
board_of s server = unwrap_or (nth s.boards server) 0

-- the boards that a server keeps besides, and the least position that it keeps
abbrev pub earlier_of : State → ℕ → List ℕ
earlier_of s server = unwrap_or (nth s.earlier server) []

abbrev pub least_kept : State → ℕ → ℕ
least_kept s server = unwrap_or (last_or None (earlier_of s server)) (board_of s server)

-- the snapshot of a begun program
abbrev pub snap_of : Phase → Option ℕ
snap_of Idle = None
snap_of (Begun snap) = Some snap

abbrev pub is_begun : Phase → Bool
is_begun phase = is_some (snap_of phase)

abbrev pub is_begun_at : ℕ → Phase → Bool
is_begun_at snap Idle = false
is_begun_at snap (Begun at) = at == snap

abbrev pub begun_snap : State → ℕ → ℕ
begun_snap s client = unwrap_or (option_and_then (λ session. snap_of session.phase) (nth s.sessions client)) 0

-- a client passes a test of its home and its session. One that isn't declared passes none
abbrev pub client_passes : Setting → State → ℕ → (Home → Session → Bool) → Bool
client_passes w s client test =
    option_map_or (λ home. option_map_or (test home) (nth s.sessions client) false) (nth w.homes client) false

abbrev pub is_declared : Setting → ℕ → Bool
is_declared w server = is_within 1 w.servers server

abbrev pub is_whole : Shape → ℕ → Bool
is_whole shape pos = pos % shape.group == 0

-- how many positions the last group lacks
abbrev pub missing : Setting → ℕ → ℕ
missing w pos = (w.shape.group - pos % w.shape.group) % w.shape.group

-- an idle client with a program left, whose server has published the client's last entry
abbrev pub may_begin : State → Home → Session → Bool
may_begin s home session =
    not (is_begun session.phase) && (nat_le session.next (length home.programs) && nat_le session.last (board_of s home.server))

-- How a program begins: on a snapshot; or not at all, since it asks for a position below the least one that its server keeps,
-- or above the board. Then it has ended.
pub data Start : Type 0 where
  On : (snap : ℕ) → Start
  Past : (from : ℕ) → Start
  NotYet : (board : ℕ) → Start

-- a program that asks for no position begins on the board
abbrev pub start_at : ℕ → ℕ → Option ℕ → Start
start_at least board None = On board
start_at least board (Some pos) = if nat_lt pos least then Past least else if nat_lt board pos then NotYet board else On pos

-- the position and the isolation that a client's program asks for, which is begun or comes next
abbrev pub asked_by : Home → Session → Option ℕ
asked_by home session = option_and_then (λ m. m.as_of) (nth home.programs session.next)

abbrev pub isolation_by : Home → Session → Option Isolation
isolation_by home session = option_map (λ m. m.isolation) (nth home.programs session.next)

-- the same of a client by its number; none where it has no program left
abbrev pub asked_position : Setting → State → ℕ → Option ℕ
asked_position w s client =
    option_and_then (λ home. option_and_then (asked_by home) (nth s.sessions client)) (nth w.homes client)

abbrev pub program_isolation : Setting → State → ℕ → Option Isolation
program_isolation w s client =
    option_and_then (λ home. option_and_then (isolation_by home) (nth s.sessions client)) (nth w.homes client)

abbrev pub home_server : Setting → ℕ → ℕ
home_server w client = option_map_or (λ home. home.server) (nth w.homes client) 0

-- how the client's next program begins
abbrev pub start_of : Setting → State → ℕ → Start
start_of w s client =
    start_at (least_kept s (home_server w client)) (board_of s (home_server w client)) (asked_position w s client)

-- How a program ended: it read only, its entry stands at a position, the log was full, a stop came first, or it was not begun,
-- since its position lay below the least one kept, or above the board.
pub data Ending : Type 0 where
  ByReading : Ending
  ByEntryAt : (pos : ℕ) → Ending
  ByFull : Ending
  ByStop : Ending
  ByPast : (from : ℕ) → Ending
  ByNotYet : (board : ℕ) → Ending

pub record Ended : Type 0 where
  pub client : ℕ
  pub number : ℕ
  pub snap : ℕ
  pub ending : Ending

-- a client's program, as ended so
abbrev pub ended : State → ℕ → Ending → List Ended
ended s client ending =
    option_to_list (option_map
    (λ session. record { client = client; number = session.next; snap = begun_snap s client; ending = ending })
    (nth s.sessions client))

-- the programs that a stop ends, but for the client whose entry it kept
abbrev pub lost_by_stop : State → ℕ → List Ended
lost_by_stop s kept =
    filter_map (λ p. if is_begun p.1.phase && not (p.0 == kept) then Some (record {
      client = p.0;
      number = p.1.next;
      snap = begun_snap s p.0;
      ending = ByStop;
    })
    else None)
    (enumerate_from 1 s.sessions)
