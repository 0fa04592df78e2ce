-- The lines of a script and of a schedule: which may stand where, and what each of them makes.
use Rattle.std.specs.Prelude.{ℕ, ◌+◌, ◌%◌, Bool, true, not, ◌&&◌, ◌==◌, List, [], ◌∷◌, ◌++◌, length, nat_lt, nat_le}
use Rattle.std.specs.Prelude.{if◌then◌else◌, Option, Some, None, is_some, Result, is_ok}
use Rattle.hy_base.specs.declared.layout.Shape.{Shape}
use Rattle.hy_base.specs.declared.workload.Command.{Command}
use Rattle.hy_base.specs.declared.workload.Command.TheVariants.{Get, Put, Del, Add, Scan, Row, Unrow, Cell, Find}
use Rattle.hy_base.specs.declared.workload.Client.{Client}
use Rattle.hy_base.specs.declared.workload.Mode.{Mode}
use Rattle.hy_base.specs.declared.workload.Program.{Program}
use Rattle.hy_base.specs.declared.workload.Event.{Event}
use Rattle.hy_base.specs.declared.workload.Event.TheVariants.{Begin, Append, End, Refuse, Pad, Publish, Stop}
use Rattle.hy_base.specs.Script.{Workload, client_count, command_count, counts_as}
use Rattle.hy_base.specs.Tables.{attribute_limit, is_table_key, row_limit, text_limit}
use Rattle.hy_base.specs.Shape.{is_within, shape_fault}
use Rattle.hy_base.specs.declared.record.Isolation.{Isolation}
use Rattle.hy_base.specs.declared.record.Isolation.TheVariants.{Serializable, Snapshot}
use Rattle.hy_base.specs.Entry.{is_told}
use Rattle.hy_base.specs.Value.{is_value}
use Rattle.hy_base.specs.Spelling.{Text}
use Rattle.hy_base.specs.Limits.{most_boards, most_clients_of_server, most_commands, most_found, most_programs, most_servers}
use Rattle.hy_base.specs.Limits.{most_tables}
use Rattle.hy_script.specs.Forms.{Meaning, LineForm, Alone, OneNumber, TwoNumbers, ThreeNumbers, NumberAndText}
use Rattle.hy_script.specs.Forms.{ThreeNumbersAndText, FixedWord, WordAndNumber, OtherFourth, FixedFourth, read_line}
use Rattle.hy_script.specs.declared.why.Why.{Why}
use Rattle.hy_script.specs.declared.why.Why.TheVariants.{Value, Range, Order, Count, Version}

-- Where a reading stands: what was read, by what may come next.
pub data Place : Type 0 where
  -- nothing
  AtStart : Place
  -- the shape
  Shaped : Shape → Place
  -- the servers too, and any number of whole clients and programs
  Listing : Workload → Place
  -- and a program with its commands so far
  Programming : Workload → Program → Place
  -- all, and the number of the line 'schedule'
  Scheduled : Workload → ℕ → Place

-- nothing is asked; or these tests, in the order of their causes
abbrev pub makes : {T : Type 0} → T → Meaning T
makes made = record { tests = []; made = made }

abbrev pub makes_if : {T : Type 0} → List (Bool × Why) → T → Meaning T
makes_if tests made = record { tests = tests; made = made }

-- how many programs the last client has
abbrev pub last_program_count : List Client → ℕ
last_program_count [] = 0
last_program_count (c ∷ []) = length c.programs
last_program_count (c ∷ d ∷ clients) = last_program_count (d ∷ clients)

-- Tables are told before the first client, and once.
abbrev pub may_tell_tables : Workload → Bool
may_tell_tables script = (script.tables == 0) && (length script.clients == 0)

abbrev pub with_tables : ℕ → Workload → Workload
with_tables tables script = record script { tables = tables }

abbrev pub with_client : ℕ → Workload → Workload
with_client server script = record script { clients = script.clients ++ record { server = server; programs = [] } ∷ [] }

-- the last item changed
abbrev pub change_last : {X : Type 0} → (X → X) → List X → List X
change_last f [] = []
change_last f (x ∷ []) = f x ∷ []
change_last f (x ∷ y ∷ xs) = x ∷ change_last f (y ∷ xs)

abbrev pub gains_program : Program → Client → Client
gains_program program c = record c { programs = c.programs ++ program ∷ [] }

-- the last client gains a program
abbrev pub with_program : Program → Workload → Workload
with_program program script = record script { clients = change_last (gains_program program) script.clients }

-- a program without commands
abbrev pub begun : Mode → Program
begun mode = record { isolation = mode.isolation; as_of = mode.as_of; commands = [] }

-- what is asked for by a program without a position, and by one with a position
abbrev pub plain_mode : Isolation → Mode
plain_mode isolation = record { isolation = isolation; as_of = None }

abbrev pub mode_at : ℕ → Mode
mode_at pos = record { isolation = Serializable; as_of = Some pos }

-- a position that a program may ask for is the end of a group, and one that the log may have
abbrev pub is_position : Shape → ℕ → Bool
is_position shape pos = (pos % shape.group == 0) && nat_le pos shape.cap

abbrev pub is_as_of : Shape → Option ℕ → Bool
is_as_of shape None = true
is_as_of shape (Some pos) = is_position shape pos

abbrev pub gains_command : Command → Program → Program
gains_command command program = record program { commands = program.commands ++ command ∷ [] }

-- the shape of these fields, each of which is in its range
abbrev pub shaped : ℕ → ℕ → ℕ → ℕ → Option ℕ → Meaning Place
shaped group window cap version horizon =
    let shape : Shape = record { group = group; window = window; cap = cap; version = version; horizon = horizon } in
    makes_if ((is_ok (shape_fault shape), Range) ∷ []) (Shaped shape)

-- shape G W CAP, of version 1; shape G W CAP V, V not being 3; and shape G W CAP 3 HOR
abbrev pub shape_forms : List (LineForm Place)
shape_forms =
    ThreeNumbers "shape" (λ group window cap. shaped group window cap 1 None)
    ∷ OtherFourth "shape" "3" (λ group window cap version. shaped group window cap version None)
    ∷ FixedFourth "shape" "3" (λ group window cap horizon. shaped group window cap 3 (Some horizon))
    ∷ []

-- so many servers, each of which keeps so many of its last boards
abbrev pub served : Shape → ℕ → ℕ → Meaning Place
served shape servers keeps =
    makes_if ((is_within 1 most_servers servers && is_within 1 most_boards keeps, Range) ∷ [])
    (Listing (record { shape = shape; servers = servers; keeps = keeps; tables = 0; clients = [] }))

-- servers S, with one board each; and servers S K
abbrev pub servers_forms : Shape → List (LineForm Place)
servers_forms shape =
    OneNumber "servers" (λ servers. served shape servers 1)
    ∷ TwoNumbers "servers" (λ servers keeps. served shape servers keeps) ∷ []

-- tables N
abbrev pub tables_form : Workload → LineForm Place
tables_form script =
    OneNumber "tables" (λ tables. makes_if ((is_within 1 most_tables tables, Range) ∷ []) (Listing (with_tables tables script)))

-- client S
abbrev pub client_form : Workload → LineForm Place
client_form script =
    OneNumber "client" (λ server.
    makes_if
    ((is_within 1 script.servers server, Range)
    ∷ (nat_lt (client_count script.clients server) most_clients_of_server, Count) ∷ [])
    (Listing (with_client server script)))

-- a further program of the last client
abbrev pub begins_program : Workload → Mode → Meaning Place
begins_program script mode =
    makes_if
    ((is_as_of script.shape mode.as_of, Range) ∷ (nat_lt (last_program_count script.clients) most_programs, Count)
    ∷ (is_told script.shape.version mode.isolation, Version) ∷ [])
    (Programming script (begun mode))

-- begin, begin snapshot, and begin at Q
abbrev pub begin_forms : Workload → List (LineForm Place)
begin_forms script =
    Alone "begin" (begins_program script (plain_mode Serializable))
    ∷ FixedWord "begin" "snapshot" (begins_program script (plain_mode Snapshot))
    ∷ WordAndNumber "begin" "at" (λ pos. begins_program script (mode_at pos))
    ∷ []

-- end
abbrev pub end_form : Workload → Program → LineForm Place
end_form script program = Alone "end" (makes (Listing (with_program program script)))

-- schedule, on this line
abbrev pub schedule_form : ℕ → Workload → LineForm Place
schedule_form number script = Alone "schedule" (makes (Scheduled script number))

-- a further command of a program, with tests of its own: all of them count as most_commands at most
abbrev pub gains : Workload → Program → Command → List (Bool × Why) → Meaning Place
gains script program command tests =
    makes_if (tests ++ (nat_le (command_count program.commands + counts_as command) most_commands, Count) ∷ [])
    (Programming script (gains_command command program))

-- a row of one of so many tables, and its attribute; and a text that a row may have
abbrev pub is_row : ℕ → ℕ → ℕ → Bool
is_row tables table row = is_within 1 tables table && nat_lt row row_limit

abbrev pub is_row_with : ℕ → ℕ → ℕ → ℕ → Bool
is_row_with tables table row attribute = is_row tables table row && nat_lt attribute attribute_limit

abbrev pub is_row_text : Text → Bool
is_row_text text = is_value text && nat_le (length text) text_limit

-- what may be looked for: an attribute in one of so many tables, and so many rows of it
abbrev pub is_search : ℕ → ℕ → ℕ → ℕ → Bool
is_search tables table attribute n = is_within 1 tables table && (nat_lt attribute attribute_limit && is_within 1 most_found n)

-- get K, scan LO HI N
abbrev pub reading_forms : Workload → Program → List (LineForm Place)
reading_forms script program =
    OneNumber "get" (λ key. gains script program (Get key) []) ∷ ThreeNumbers "scan"
    (λ lo hi n. gains script program (Scan lo hi n) ((is_within 1 most_found n, Range) ∷ (nat_le lo hi, Order) ∷ [])) ∷ []

-- put K V, del K, add K N, where K is no key of a table
abbrev pub writing_forms : Workload → Program → List (LineForm Place)
writing_forms script program =
    NumberAndText "put" (λ key value.
    gains script program (Put key value) ((is_value value, Value) ∷ (not (is_table_key script.tables key), Range) ∷ []))
    ∷ OneNumber "del" (λ key. gains script program (Del key) ((not (is_table_key script.tables key), Range) ∷ []))
    ∷ TwoNumbers "add" (λ key n. gains script program (Add key n) ((not (is_table_key script.tables key), Range) ∷ [])) ∷ []

-- where there are tables: cell T R, find T A N
abbrev pub table_reading_forms : Workload → Program → List (LineForm Place)
table_reading_forms script program =
    TwoNumbers "cell" (λ table row. gains script program (Cell table row) ((is_row script.tables table row, Range) ∷ []))
    ∷ ThreeNumbers "find" (λ table attribute n.
    gains script program (Find table attribute n) ((is_search script.tables table attribute n, Range) ∷ [])) ∷ []

-- and row T R A V, unrow T R
abbrev pub table_writing_forms : Workload → Program → List (LineForm Place)
table_writing_forms script program =
    ThreeNumbersAndText "row" (λ table row attribute text. gains script program (Row table row attribute text)
    ((is_row_text text, Value) ∷ (is_row_with script.tables table row attribute, Range) ∷ []))
    ∷ TwoNumbers "unrow" (λ table row. gains script program (Unrow table row) ((is_row script.tables table row, Range) ∷ []))
    ∷ []

-- the commands that may stand where there are tables or aren't, and where a program only reads or may also write
abbrev pub command_forms : Bool → Bool → Workload → Program → List (LineForm Place)
command_forms has_tables reads script program =
    reading_forms script program
    ++ (if has_tables then table_reading_forms script program else [])
    ++ (if reads then [] else writing_forms script program ++ (if has_tables then table_writing_forms script program else []))

-- The lines that may stand at a place, this being the line with the number that is given. Where there is a simulation a
-- schedule may follow the clients. A program that asks for a position only reads.
abbrev pub forms_at : Bool → Place → ℕ → List (LineForm Place)
forms_at sim AtStart number = shape_forms
forms_at sim (Shaped shape) number = servers_forms shape
forms_at sim (Listing script) number =
    client_form script
    ∷ (if may_tell_tables script then tables_form script ∷ [] else [])
    ++ (if nat_lt 0 (length script.clients) then begin_forms script else [])
    ++ (if sim then schedule_form number script ∷ [] else [])
forms_at sim (Programming script program) number =
    command_forms (nat_lt 0 script.tables) (is_some program.as_of) script program ++ end_form script program ∷ []
forms_at sim (Scheduled script start) number = []

abbrev pub event_of_client : Workload → Event → ℕ → Meaning Event
event_of_client script event client = makes_if ((is_within 1 (length script.clients) client, Range) ∷ []) event

abbrev pub publish : Workload → ℕ → ℕ → Meaning Event
publish script server upto =
    makes_if ((is_within 1 script.servers server && nat_le upto 4294967295, Range) ∷ []) (Publish server upto)

abbrev pub stop : ℕ → ℕ → Meaning Event
stop call pattern = makes_if ((is_within 1 4 call && nat_le pattern 2, Range) ∷ []) (Stop call pattern)

-- b C, a C, e C, f C, p S, r S Q, t K M: client C of the script, server S of it, position Q, a stop in call K with pattern M
abbrev pub event_forms : Workload → List (LineForm Event)
event_forms script =
    OneNumber "b" (λ client. event_of_client script (Begin client) client)
    ∷ OneNumber "a" (λ client. event_of_client script (Append client) client)
    ∷ OneNumber "e" (λ client. event_of_client script (End client) client)
    ∷ OneNumber "f" (λ client. event_of_client script (Refuse client) client)
    ∷ OneNumber "p" (λ server. makes_if ((is_within 1 script.servers server, Range) ∷ []) (Pad server))
    ∷ TwoNumbers "r" (publish script)
    ∷ TwoNumbers "t" stop
    ∷ []

-- the event of a line of these words, or the first cause against it
abbrev pub event_of : Workload → List Text → Result Event Why
event_of script words = read_line (event_forms script) words
