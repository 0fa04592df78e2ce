-- The tail rule, by which `sim` finishes a schedule: the least client that isn't done goes on, or else the log and the boards
-- are brought to their end.
use Rattle.std.specs.Prelude.{◌≡◌, ℕ, List, [], ◌∷◌, ◌++◌, length, zip, find, Option, Some, None, option_map, not, nat_lt}
use Rattle.std.specs.Prelude.{nat_le}
use Rattle.std.specs.Prelude.{IsSomeAnd, ◌==◌, if◌then◌else◌}
use Rattle.std.specs.Option.{option_map_or}
use Rattle.std.specs.List.{enumerate_from}
use Rattle.hy_base.specs.declared.layout.Shape.{Shape}
use Rattle.hy_base.specs.declared.record.EntryKind.{EntryKind}
use Rattle.hy_base.specs.declared.workload.Home.{Home}
use Rattle.hy_base.specs.declared.workload.Session.{Session}
use Rattle.hy_base.specs.declared.workload.Event.{Event}
use Rattle.hy_base.specs.declared.workload.Event.TheVariants.{Begin, Append, End, Refuse, Pad, Publish}
use Rattle.hy_base.specs.Script.{Workload}
use Rattle.hy_rules.specs.States.{State, board_of, is_begun, is_whole}
use Rattle.hy_rules.specs.Runs.{setting_of, opening_of, leaves_write, step, run, is_done}

abbrev pub client_event : Workload → State → ℕ → Event
client_event script s client =
    if not (leaves_write script s client) then End client
    else if length s.log == script.shape.cap then Refuse client
    else Append client

-- a server comes to the end of a log of this length: it pads the last group where that isn't whole, and else publishes
abbrev pub catch_up : Shape → ℕ → ℕ → Event
catch_up shape len server = if is_whole shape len then Publish server len else Pad server

-- what a client does next
abbrev pub next_of_client : Workload → State → ℕ → Home × Session → Event
next_of_client script s client p =
    if is_begun p.1.phase then client_event script s client
    else if nat_le p.1.last (board_of s p.0.server) then Begin client
    else catch_up script.shape (length s.log) p.0.server

abbrev pub closing_event : Workload → State → Option Event
closing_event script s =
    if is_whole script.shape (length s.log) then
    option_map (λ p. Publish p.0 (length s.log)) (find (λ p. nat_lt p.1 (length s.log)) (enumerate_from 1 s.boards))
    else Some (Pad 1)

abbrev pub next_event : Workload → State → Option Event
next_event script s =
    option_map_or (λ p. Some (next_of_client script s p.0 p.1))
    (find (λ p. not (is_done p.1.0 p.1.1)) (enumerate_from 1 (zip (setting_of script).homes s.sessions)))
    (closing_event script s)

-- these are the events that the rule gives from a state on, up to its end
abbrev pub IsTail : Workload → State → List Event → Type 0
IsTail script s [] = next_event script s ≡ None
IsTail script s (event ∷ events) =
    (next_event script s ≡ Some event)
    × IsSomeAnd (step script s event) (λ next. IsTail script next events)

-- a schedule, followed by what the rule adds
abbrev pub CompletesSchedule : Workload → List EntryKind → List Event → List Event → Type 0
CompletesSchedule script before schedule events =
    (tail : List Event)
    × (events ≡ schedule ++ tail)
    × IsSomeAnd (run script (opening_of script before) schedule) (λ s. IsTail script s tail)
