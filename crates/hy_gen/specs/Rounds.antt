-- The schedule of a load goes in rounds, from 0. A program on server 1 takes one round, on server 2 two, on server 3 four, and
-- on server 4 eight: it begins in the first of them and ends in the last, and the client's next program begins in the round
-- after that. At the end of each round the last group is completed, and each server for which it is the last round of a
-- program's time, also where it has none left, publishes the log, if that grew since the first of these rounds.
use Rattle.std.specs.Prelude.{ℕ, zero, suc, sum_by, ◌+◌, ◌-◌, ◌*◌, ◌/◌, ◌%◌, ◌^◌, max, Bool, true, false, ◌&&◌, List, [], ◌∷◌}
use Rattle.std.specs.Prelude.{◌++◌, Option, Some, None, slice_get, length, nat_lt, ◌==◌, if◌then◌else◌}
use Rattle.std.specs.List.{range_with_len, flat_map}
use Rattle.hy_base.specs.declared.workload.Event.{Event}
use Rattle.hy_base.specs.declared.workload.Event.TheVariants.{Begin, Append, End, Pad, Publish}
use Rattle.hy_base.specs.Shape.{IsWithin}

-- a client of a load, and one of its servers, by its number
abbrev pub IsLoadClient : ℕ → Type 0
IsLoadClient n = IsWithin 1 8 n

abbrev pub IsLoadServer : ℕ → Type 0
IsLoadServer n = IsWithin 1 4 n

-- more rounds than any load has
abbrev pub round_limit : ℕ
round_limit = 100000

-- how many rounds a program on a server takes
abbrev pub period : ℕ → ℕ
period server = 2 ^ (server - 1)

abbrev pub home : ℕ → ℕ
home client = (client - 1) % 4 + 1

-- the number of the program with which a client is busy in a round, if it has so many
abbrev pub number_in : ℕ → ℕ → ℕ
number_in client round = 8 * (round / period (home client)) + (client - 1)

-- whether a round is the first of a program on this server, or the last
abbrev pub is_first : ℕ → ℕ → Bool
is_first server round = round % period server == 0

abbrev pub is_last : ℕ → ℕ → Bool
is_last server round = (round + 1) % period server == 0

-- whether a client begins a program in a round, of so many
abbrev pub is_beginning : ℕ → ℕ → ℕ → Bool
is_beginning size round client = is_first (home client) round && nat_lt (number_in client round) size

abbrev pub begin_events : ℕ → ℕ → ℕ → List Event
begin_events size round client = if is_beginning size round client then Begin client ∷ [] else []

-- Whether the program that a client ends in a round only reads. The list tells it of each program.
abbrev pub ending : List Bool → ℕ → ℕ → Option Bool
ending readers round client = if is_last (home client) round then slice_get readers (number_in client round) else None

abbrev pub end_events : ℕ → Option Bool → List Event
end_events client None = []
end_events client (Some true) = End client ∷ []
end_events client (Some false) = Append client ∷ []

abbrev pub ends : List Bool → ℕ → ℕ → List Event
ends readers round client = end_events client (ending readers round client)

abbrev pub entry_count : Option Bool → ℕ
entry_count None = 0
entry_count (Some true) = 0
entry_count (Some false) = 1

-- how many entries the clients append in a round
abbrev pub append_count : List Bool → ℕ → ℕ
append_count readers round = sum_by (λ client. entry_count (ending readers round client)) (range_with_len 1 8)

-- the end of the last group of four that so many entries reach
abbrev pub whole : ℕ → ℕ
whole len = (len + 3) / 4 * 4

-- the length of the log before a round
unfoldable pub log_len : List Bool → ℕ → ℕ
log_len readers zero = 0
log_len readers (suc round) = whole (log_len readers round + append_count readers round)

abbrev pub pads : ℕ → List Event
pads len = if len % 4 == 0 then [] else Pad 1 ∷ []

abbrev pub publish_event : ℕ → Option ℕ → List Event
publish_event server None = []
publish_event server (Some upto) = Publish server upto ∷ []

-- A server publishes in the last round of its programs, unless the log is as long as it was before the first of them.
abbrev pub publishes : (ℕ → ℕ) → ℕ → ℕ → List Event
publishes len_before round server =
    if is_last server round && nat_lt (len_before (round + 1 - period server)) (len_before (round + 1))
    then Publish server (len_before (round + 1)) ∷ []
    else []

abbrev pub events_in : List Bool → ℕ → List Event
events_in readers round =
    flat_map (begin_events (length readers) round) (range_with_len 1 8)
    ++ (flat_map (ends readers round) (range_with_len 1 8)
    ++ (pads (log_len readers round + append_count readers round)
    ++ flat_map (publishes (log_len readers) round) (range_with_len 1 4)))

-- The last rounds are those of the last program on some server. Clients 5 to 8 have no more programs than clients 1 to 4.
abbrev pub round_count : ℕ → ℕ
round_count size = max ((size + 7) / 8) (max ((size + 6) / 8 * 2) (max ((size + 5) / 8 * 4) ((size + 4) / 8 * 8)))

abbrev pub schedule : List Bool → List Event
schedule readers = flat_map (events_in readers) (range_with_len 0 (round_count (length readers)))
