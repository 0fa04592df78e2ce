-- How a script and a schedule are written: each line as the grammar has it, no comments and no empty lines.
use Rattle.std.specs.Prelude.{ℕ, ◌==◌, if◌then◌else◌, List, [], ◌∷◌, ◌++◌, map, flat_map, codes, decimal, Option, Some, None}
use Rattle.hy_base.specs.declared.layout.Shape.{Shape}
use Rattle.hy_base.specs.declared.record.Isolation.{Isolation}
use Rattle.hy_base.specs.declared.record.Isolation.TheVariants.{Serializable, Snapshot}
use Rattle.hy_base.specs.declared.workload.Command.{Command}
use Rattle.hy_base.specs.declared.workload.Command.TheVariants.{Get, Put, Del, Add, Scan, Row, Unrow, Cell, Find}
use Rattle.hy_base.specs.declared.workload.Client.{Client}
use Rattle.hy_base.specs.declared.workload.Program.{Program}
use Rattle.hy_base.specs.declared.workload.Event.{Event}
use Rattle.hy_base.specs.declared.workload.Mode.{Mode}
use Rattle.hy_base.specs.Script.{Workload, mode_of}
use Rattle.hy_base.specs.Spelling.{Text, line, event_words}

abbrev pub command_words : Command → List Text
command_words (Get key) = codes "get" ∷ decimal key ∷ []
command_words (Put key value) = codes "put" ∷ decimal key ∷ value ∷ []
command_words (Del key) = codes "del" ∷ decimal key ∷ []
command_words (Add key n) = codes "add" ∷ decimal key ∷ decimal n ∷ []
command_words (Scan lo hi n) = codes "scan" ∷ decimal lo ∷ decimal hi ∷ decimal n ∷ []
command_words (Row table row attribute text) = codes "row" ∷ decimal table ∷ decimal row ∷ decimal attribute ∷ text ∷ []
command_words (Unrow table row) = codes "unrow" ∷ decimal table ∷ decimal row ∷ []
command_words (Cell table row) = codes "cell" ∷ decimal table ∷ decimal row ∷ []
command_words (Find table attribute n) = codes "find" ∷ decimal table ∷ decimal attribute ∷ decimal n ∷ []

abbrev pub isolation_fields : Isolation → List Text
isolation_fields Serializable = []
isolation_fields Snapshot = codes "snapshot" ∷ []

-- a program that asks for a position asks for no isolation
abbrev pub asked_fields : Isolation → Option ℕ → List Text
asked_fields isolation None = isolation_fields isolation
asked_fields isolation (Some pos) = codes "at" ∷ decimal pos ∷ []

-- the line that a program begins with
abbrev pub begin_words : Mode → List Text
begin_words mode = codes "begin" ∷ asked_fields mode.isolation mode.as_of

abbrev pub horizon_fields : Option ℕ → List Text
horizon_fields None = []
horizon_fields (Some h) = decimal h ∷ []

-- version 1 is told by no word, and a horizon by its number
abbrev pub version_fields : Shape → List Text
version_fields shape = if shape.version == 1 then [] else decimal shape.version ∷ horizon_fields shape.horizon

abbrev pub program_lines : Program → List (List Text)
program_lines program = begin_words (mode_of program) ∷ map command_words program.commands ++ (codes "end" ∷ []) ∷ []

abbrev pub client_lines : Client → List (List Text)
client_lines client = (codes "client" ∷ decimal client.server ∷ []) ∷ flat_map program_lines client.programs

abbrev pub spelled_shape : Shape → List Text
spelled_shape shape = codes "shape" ∷ decimal shape.group ∷ decimal shape.window ∷ decimal shape.cap ∷ version_fields shape

-- a server that keeps one board tells no number for it
abbrev pub keeps_fields : ℕ → List Text
keeps_fields keeps = if keeps == 1 then [] else decimal keeps ∷ []

abbrev pub servers_words : ℕ → ℕ → List Text
servers_words servers keeps = codes "servers" ∷ decimal servers ∷ keeps_fields keeps

-- a script without tables has no line of them
abbrev pub tables_lines : ℕ → List (List Text)
tables_lines tables = if tables == 0 then [] else (codes "tables" ∷ decimal tables ∷ []) ∷ []

-- the lines before the first client
abbrev pub head_lines : Workload → List (List Text)
head_lines script = spelled_shape script.shape ∷ servers_words script.servers script.keeps ∷ tables_lines script.tables

-- the words of a script's lines
abbrev pub script_lines : Workload → List (List Text)
script_lines script = head_lines script ++ flat_map client_lines script.clients

abbrev pub text_of_lines : List (List Text) → Text
text_of_lines lines = flat_map line lines

abbrev pub script_text : Workload → Text
script_text script = text_of_lines (script_lines script)

abbrev pub schedule_text : List Event → Text
schedule_text events = text_of_lines (map event_words events)

-- a script and its schedule
abbrev pub input_text : Workload → List Event → Text
input_text script events = script_text script ++ (text_of_lines ((codes "schedule" ∷ []) ∷ []) ++ schedule_text events)
