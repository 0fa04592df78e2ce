-- The state of a load's run before a round, and between the begins and the ends of one.
use Rattle.std.proofs.Common.{◌≡◌, ◌∙◌, ℕ, zero, suc, ◌+◌, ◌-◌, ◌*◌, ◌/◌, ◌%◌, ◌<◌, ◌≤◌, Bool, false, List, [], ◌∷◌, length, map, refl, ap, arith, Some, None}
use Rattle.std.specs.Option.{option_map_or}
use Rattle.std.specs.Prelude.{◌⊎◌, option_and_then, unwrap_or, min, replicate, slice_get}
use Rattle.std.specs.List.{range_with_len}
use Rattle.std.proofs.lemmas.List.{length-map}
use Rattle.std.proofs.lemmas.List.FromFn.{length-map-range_with_len}
use Rattle.hy_base.specs.declared.record.EntryKind.{EntryKind}
use Rattle.hy_base.specs.declared.workload.Home.{Home}
use Rattle.hy_base.specs.declared.workload.Phase.TheVariants.{Idle, Begun}
use Rattle.hy_base.specs.declared.workload.Session.{Session}
use Rattle.hy_base.specs.declared.workload.Mode.{Mode}
use Rattle.hy_base.specs.Lists.{nth, change_nth}
use Rattle.hy_base.specs.Script.{mode_of}
use Rattle.hy_rules.specs.Moves.{State, On, asked_by, asked_position, board_of, client_passes, home_server, keeping, least_kept, start_at, start_of}
use Rattle.hy_rules.specs.Runs.{setting_of, program_of}
use Rattle.hy_gen.specs.Load.{client_of, program_count, program_numbered, programs_of, script_of}
use Rattle.hy_gen.specs.Rounds.{home, log_len, period}
use Rattle.hy_gen.proofs.Spots.{get_ranged}
use Rattle.hy_gen.proofs.Turns.{start}

-- ---- the script

-- what holds of each of the eight clients
each_of_eight : (P : ℕ → Type 0) → P 1 → P 2 → P 3 → P 4 → P 5 → P 6 → P 7 → P 8 → (n : ℕ) → 1 ≤ n → n ≤ 8 → P n
each_of_eight P a b c d e f g h zero least most = absurd (omega (arith, least))
each_of_eight P a b c d e f g h (suc zero) least most = a
each_of_eight P a b c d e f g h (suc (suc zero)) least most = b
each_of_eight P a b c d e f g h (suc (suc (suc zero))) least most = c
each_of_eight P a b c d e f g h (suc (suc (suc (suc zero)))) least most = d
each_of_eight P a b c d e f g h (suc (suc (suc (suc (suc zero))))) least most = e
each_of_eight P a b c d e f g h (suc (suc (suc (suc (suc (suc zero)))))) least most = f
each_of_eight P a b c d e f g h (suc (suc (suc (suc (suc (suc (suc zero))))))) least most = g
each_of_eight P a b c d e f g h (suc (suc (suc (suc (suc (suc (suc (suc zero)))))))) least most = h
each_of_eight P a b c d e f g h (suc (suc (suc (suc (suc (suc (suc (suc (suc n))))))))) least most = absurd (omega (arith, most))

abbrev pub load_home : ℕ → ℕ → ℕ → Home
load_home seed size client = record { server = home client; programs = map mode_of (programs_of seed size client) }

program_total : (seed size client : ℕ) → length (programs_of seed size client) ≡ program_count size client
program_total seed size client = length-map-range_with_len (λ turn. program_numbered seed (8 * turn + (client - 1))) 0 (program_count size client)

pub home_total : (seed size client : ℕ) → length (load_home seed size client).programs ≡ program_count size client
home_total seed size client = length-map (programs_of seed size client) mode_of ∙ program_total seed size client

pub home_is : (seed size client : ℕ) → 1 ≤ client → client ≤ 8 → nth (setting_of (script_of seed size)).homes client ≡ Some (load_home seed size client)
home_is seed size client least most = each_of_eight (λ n. nth (setting_of (script_of seed size)).homes n ≡ Some (load_home seed size n)) refl refl refl refl refl refl refl refl client least most

client_is : (seed size client : ℕ) → 1 ≤ client → client ≤ 8 → nth (script_of seed size).clients client ≡ Some (client_of seed size client)
client_is seed size client least most = each_of_eight (λ n. nth (script_of seed size).clients n ≡ Some (client_of seed size n)) refl refl refl refl refl refl refl refl client least most

-- the program of a client's turn, from 0
pub program_is : (seed size client turn : ℕ) → 1 ≤ client → client ≤ 8 → turn < program_count size client
    → program_of (script_of seed size) client (suc turn) ≡ Some (program_numbered seed (8 * turn + (client - 1)))
program_is seed size client turn least most below =
    ap (option_and_then (λ c. nth c.programs (suc turn))) (client_is seed size client least most)
    ∙ (get_ranged (λ n. program_numbered seed (8 * n + (client - 1))) 0 (program_count size client) turn below ∙ (let at : 0 + turn ≡ turn = omega arith in ap (λ n. Some (program_numbered seed (8 * n + (client - 1)))) at))

-- ---- the state

abbrev pub calm_state : List EntryKind → List ℕ → List Session → State
calm_state log boards sessions = record { log = log; boards = boards; earlier = replicate 4 []; sessions = sessions; armed = None }

-- a client's test
pub passes : (seed size client : ℕ) (log : List EntryKind) (boards : List ℕ) (sessions : List Session) (x : Session) (test : Home → Session → Bool) → 1 ≤ client → client ≤ 8
    → nth sessions client ≡ Some x → client_passes (setting_of (script_of seed size)) (calm_state log boards sessions) client test ≡ test (load_home seed size client) x
passes seed size client log boards sessions x test least most is =
    ap (λ o. option_map_or (λ h. option_map_or (test h) (nth sessions client) false) o false) (home_is seed size client least most) ∙ ap (λ o. option_map_or (test (load_home seed size client)) o false) is

each_of_four : (P : ℕ → Type 0) → P 1 → P 2 → P 3 → P 4 → (n : ℕ) → 1 ≤ n → n ≤ 4 → P n
each_of_four P a b c d zero least most = absurd (omega (arith, least))
each_of_four P a b c d (suc zero) least most = a
each_of_four P a b c d (suc (suc zero)) least most = b
each_of_four P a b c d (suc (suc (suc zero))) least most = c
each_of_four P a b c d (suc (suc (suc (suc zero)))) least most = d
each_of_four P a b c d (suc (suc (suc (suc (suc n))))) least most = absurd (omega (arith, most))

-- a server keeps no board besides
pub none_kept : (board server : ℕ) → 1 ≤ server → server ≤ 4 → change_nth (keeping 1 board) (replicate 4 []) server ≡ replicate 4 []
none_kept board server least most = each_of_four (λ n. change_nth (keeping 1 board) (replicate 4 []) n ≡ replicate 4 []) refl refl refl refl server least most

-- no program asks for a position
none_asks : (seed client : ℕ) (turns : List ℕ) (k : ℕ) → option_and_then (λ (m : Mode). m.as_of) (slice_get (map mode_of (map (λ turn. program_numbered seed (8 * turn + (client - 1))) turns)) k) ≡ None
none_asks seed client [] k = refl
none_asks seed client (turn ∷ turns) zero = refl
none_asks seed client (turn ∷ turns) (suc k) = none_asks seed client turns k

unasked : (seed size client : ℕ) (next : ℕ) → option_and_then (λ (m : Mode). m.as_of) (nth (load_home seed size client).programs next) ≡ None
unasked seed size client zero = refl
unasked seed size client (suc k) = none_asks seed client (range_with_len 0 (program_count size client)) k

-- so each begins on its server's board
pub starts_on_board : (seed size client : ℕ) (log : List EntryKind) (boards : List ℕ) (sessions : List Session) (x : Session) → 1 ≤ client → client ≤ 8 → nth sessions client ≡ Some x
    → start_of (setting_of (script_of seed size)) (calm_state log boards sessions) client ≡ On (board_of (calm_state log boards sessions) (home_server (setting_of (script_of seed size)) client))
starts_on_board seed size client log boards sessions x least most is =
    let w = setting_of (script_of seed size) in
    let s : State = calm_state log boards sessions in
    let asked : asked_position w s client ≡ None =
    ap (option_and_then (λ (home : Home). option_and_then (asked_by home) (nth sessions client))) (home_is seed size client least most) ∙ (ap (option_and_then (asked_by (load_home seed size client))) is ∙ unasked seed size client x.next) in
    ap (start_at (least_kept s (home_server w client)) (board_of s (home_server w client))) asked

-- the board of a server before a round
abbrev pub board_before : List Bool → ℕ → ℕ → ℕ
board_before readers t server = log_len readers (start server t)

abbrev pub boards_before : List Bool → ℕ → List ℕ
boards_before readers t = map (board_before readers t) (range_with_len 1 4)

pub board_is : (readers : List Bool) (t server : ℕ) → 1 ≤ server → server ≤ 4 → unwrap_or (nth (boards_before readers t) server) 0 ≡ board_before readers t server
board_is readers t server least most = each_of_four (λ n. unwrap_or (nth (boards_before readers t) n) 0 ≡ board_before readers t n) refl refl refl refl server least most

-- ---- sessions

-- a client's turn in a round, from 0
abbrev pub turn_in : ℕ → ℕ → ℕ
turn_in t client = t / period (home client)

-- idle, with so many programs behind it; begun with such a one
pub record IsIdleBehind (behind : ℕ) (x : Session) : Type 0 where
  pub phase : x.phase ≡ Idle
  pub next : x.next ≡ suc behind

pub record IsBusy (behind count : ℕ) (x : Session) : Type 0 where
  pub snap : ℕ
  pub phase : x.phase ≡ Begun snap
  pub next : x.next ≡ suc behind
  pub left : behind < count

-- a client's session before a round: idle, but in the midst of a program's rounds
pub record IsBeforeRound (readers : List Bool) (t client : ℕ) (x : Session) : Type 0 where
  pub last : x.last ≤ board_before readers t (home client)
  pub does : (IsIdleBehind (min (turn_in t client) (program_count (length readers) client)) x × ((t % period (home client) ≡ 0) ⊎ (program_count (length readers) client ≤ turn_in t client)))
      ⊎ (IsBusy (turn_in t client) (program_count (length readers) client) x × (t % period (home client) ≡ 0 → ⊥))

-- and once programs have begun in the round: idle only where it has no program more
pub record IsAmid (readers : List Bool) (t client : ℕ) (x : Session) : Type 0 where
  pub last : x.last ≤ board_before readers t (home client)
  pub does : (IsIdleBehind (program_count (length readers) client) x × (program_count (length readers) client ≤ turn_in t client)) ⊎ IsBusy (turn_in t client) (program_count (length readers) client) x

-- the sessions of clients from a number on
abbrev pub AreAll : (ℕ → Session → Type 0) → ℕ → List Session → Type 0
AreAll P n [] = Unit {0}
AreAll P n (x ∷ xs) = P n x × AreAll P (n + 1) xs
