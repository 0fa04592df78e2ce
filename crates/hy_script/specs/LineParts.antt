-- What the line of a place tells, apart from where it leads.
use Rattle.std.specs.Prelude.{◌≡◌, ◌<◌, ◌≤◌, ◌+◌, ℕ, Bool, true, ⊤, length, List, [], is_some, All, Result, Ok, Err}
use Rattle.hy_base.specs.declared.workload.Program.{Program}
use Rattle.hy_base.specs.declared.workload.Client.{Client as ScriptClient}
use Rattle.hy_base.specs.Shape.{IsWithin, IsGoodShape}
use Rattle.hy_base.specs.Entry.{is_told}
use Rattle.hy_base.specs.Script.{Workload, FitsTables, IsAsOf, IsCommand, IsProgram, IsReading, client_count, counts_as}
use Rattle.hy_base.specs.Limits.{most_clients_of_server, most_commands, most_programs, most_tables}
use Rattle.hy_base.specs.declared.layout.Shape.{Shape}
use Rattle.hy_base.specs.declared.record.Isolation.TheVariants.{Serializable}
use Rattle.hy_base.specs.declared.workload.Mode.{Mode}
use Rattle.hy_script.specs.declared.reader.Place.{Place as PlaceCode}
use Rattle.hy_script.specs.declared.reader.Place.TheVariants.{Start as StartCode, Shaped as ShapedCode, Listing as ListingCode}
use Rattle.hy_script.specs.declared.reader.Place.TheVariants.{Programming as ProgrammingCode}
use Rattle.hy_script.specs.declared.reader.Step.{Step}
use Rattle.hy_script.specs.declared.reader.Step.TheVariants.{To, Reaches}
use Rattle.hy_script.specs.Grammar.{Place, AtStart, Shaped, Listing, Programming, Scheduled, with_client, with_program}
use Rattle.hy_script.specs.Grammar.{with_tables, begun, gains_command, last_program_count}
use Rattle.hy_script.specs.declared.why.Why.{Why}
use Rattle.hy_script.specs.declared.script.LineError.{LineError}
use Rattle.hy_script.specs.declared.script.LineError.TheVariants.{Unfit, Memory}
use Rattle.hy_script.specs.declared.script.ListingLine.{ListingLine}
use Rattle.hy_script.specs.declared.script.ListingLine.TheVariants.{Tables, Client, Begin, Schedule}
use Rattle.hy_script.specs.declared.script.ProgramLine.{ProgramLine}
use Rattle.hy_script.specs.declared.script.ProgramLine.TheVariants.{Next, End}

-- the place that a line's reading leads to
abbrev pub leading : {A : Type 0} → (A → Place) → Result A Why → Result Place Why
leading place (Ok a) = Ok (place a)
leading place (Err why) = Err why

-- the same, unless memory ran out
abbrev pub FailsAs : LineError → Result Place Why → Type 0
FailsAs (Unfit why) read = read ≡ Err why
FailsAs Memory read = ⊤

abbrev pub LeadsTo : {A : Type 0} → (A → Place) → Result A LineError → Result Place Why → Type 0
LeadsTo place (Ok a) read = read ≡ Ok (place a)
LeadsTo place (Err e) read = FailsAs e read

abbrev pub after_listing : Workload → ℕ → ListingLine → Place
after_listing script number (Tables tables) = Listing (with_tables tables script)
after_listing script number (Client server) = Listing (with_client server script)
after_listing script number (Begin mode) = Programming script (begun mode)
after_listing script number Schedule = Scheduled script number

abbrev pub after_program_line : Workload → Program → ProgramLine → Place
after_program_line script program (Next command) = Programming script (gains_command command program)
after_program_line script program End = Listing (with_program program script)

-- the place that a program's code has reached, without a schedule
abbrev pub place_of : PlaceCode → Place
place_of StartCode = AtStart
place_of (ShapedCode shape) = Shaped shape
place_of (ListingCode script) = Listing script
place_of (ProgrammingCode script program) = Programming script program

abbrev pub after_step : ℕ → Step → Place
after_step number (To place) = place_of place
after_step number (Reaches script) = Scheduled script number

-- what a place keeps
abbrev pub IsPlace : PlaceCode → Type 0
IsPlace StartCode = ⊤
IsPlace (ShapedCode shape) = IsGoodShape shape
IsPlace (ListingCode script) = ⊤
IsPlace (ProgrammingCode script program) =
    (0 < length script.clients)
    × (last_program_count script.clients < most_programs)
    × (is_told script.shape.version program.isolation ≡ true)
    × IsAsOf script.shape program.as_of
    × IsProgram program
    × All (FitsTables script.tables) program.commands

abbrev pub IsStep : Step → Type 0
IsStep (To place) = IsPlace place
IsStep (Reaches script) = ⊤

-- a program may ask for this, where a log has this shape; one that asks for a position asks for nothing else
abbrev pub IsMode : Shape → Mode → Type 0
IsMode shape mode = IsAsOf shape mode.as_of × (is_some mode.as_of ≡ true → mode.isolation ≡ Serializable)

-- what a line between programs tells, in a script of a shape
abbrev pub IsClientListed : Shape → ℕ → List ScriptClient → ListingLine → Type 0
IsClientListed shape servers clients (Tables tables) = IsWithin 1 most_tables tables × (clients ≡ [])
IsClientListed shape servers clients (Client server) =
    IsWithin 1 servers server × (client_count clients server < most_clients_of_server)
IsClientListed shape servers clients (Begin mode) =
    (0 < length clients)
    × (last_program_count clients < most_programs)
    × (is_told shape.version mode.isolation ≡ true)
    × IsMode shape mode
IsClientListed shape servers clients Schedule = ⊤

-- and a line of a program whose commands count as so many, in a script with so many tables, and that only
-- reads where that is asked
abbrev pub IsNextLine : ℕ → Bool → ℕ → ProgramLine → Type 0
IsNextLine tables reads count (Next command) =
    IsCommand command
    × (reads ≡ true → IsReading command)
    × FitsTables tables command
    × (count + counts_as command ≤ most_commands)
IsNextLine tables reads count End = ⊤
