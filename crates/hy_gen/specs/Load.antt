-- The script of a load: eight clients on four servers, whose programs add to numbers, look at them, and put values beside them.
use Rattle.std.specs.Prelude.{ℕ, ◌+◌, ◌-◌, ◌*◌, ◌/◌, ◌%◌, List, [], ◌∷◌, map, decimal, ◌==◌, if◌then◌else◌, None}
use Rattle.std.specs.List.{range_with_len}
use Rattle.hy_base.specs.declared.layout.Shape.{Shape}
use Rattle.hy_base.specs.declared.record.Isolation.TheVariants.{Serializable}
use Rattle.hy_base.specs.declared.workload.Command.{Command}
use Rattle.hy_base.specs.declared.workload.Command.TheVariants.{Get, Put, Add, Scan}
use Rattle.hy_base.specs.declared.workload.Program.{Program}
use Rattle.hy_base.specs.declared.workload.Client.{Client}
use Rattle.hy_base.specs.declared.workload.Event.{Event}
use Rattle.hy_base.specs.Script.{Workload}
use Rattle.hy_gen.specs.declared.drawing.Draw.{Draw}
use Rattle.hy_gen.specs.Draws.{draw_of, reads_only}
use Rattle.hy_gen.specs.Rounds.{home, schedule}

-- the letter v, and the number of the program
abbrev pub value_numbered : ℕ → List ℕ
value_numbered number = 118 ∷ decimal number

-- Keys below 500 hold numbers, and the values stand from 500 on.
abbrev pub commands_by : ℕ → ℕ → ℕ → ℕ → List Command
commands_by number kind key other =
    if kind == 0 then Add key 1 ∷ Add other 1 ∷ []
    else if kind == 1 then Get key ∷ Put (500 + other) (value_numbered number) ∷ []
    else if kind == 2 then Scan key (key + 9) 5 ∷ Put (500 + other) (value_numbered number) ∷ []
    else Get (500 + other) ∷ []

abbrev pub commands_of : ℕ → Draw → List Command
commands_of number d = commands_by number (d.kind % 4) (d.first % 500) (d.second % 500)

abbrev pub program_numbered : ℕ → ℕ → Program
program_numbered seed number =
    record { isolation = Serializable; as_of = None; commands = commands_of number (draw_of seed number) }

-- Programs are dealt out to the clients in turn: client 1 has the programs 0, 8, 16 and so on, client 2 those one further.
abbrev pub program_count : ℕ → ℕ → ℕ
program_count size client = (size + 8 - client) / 8

abbrev pub programs_of : ℕ → ℕ → ℕ → List Program
programs_of seed size client =
    map (λ turn. program_numbered seed (8 * turn + (client - 1))) (range_with_len 0 (program_count size client))

abbrev pub client_of : ℕ → ℕ → ℕ → Client
client_of seed size number = record { server = home number; programs = programs_of seed size number }

abbrev pub shape_for : ℕ → Shape
shape_for size = record { group = 4; window = 4; cap = 8 * size; version = 1; horizon = None }

abbrev pub script_of : ℕ → ℕ → Workload
script_of seed size = record {
  shape = shape_for size;
  servers = 4;
  keeps = 1;
  tables = 0;
  clients = map (client_of seed size) (range_with_len 1 8);
}

-- the schedule, for the programs of a seed
abbrev pub schedule_of : ℕ → ℕ → List Event
schedule_of seed size = schedule (map (reads_only seed) (range_with_len 0 size))
