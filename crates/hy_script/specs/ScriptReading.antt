-- What a source's bytes are: a script, and where its schedule begins; then the schedule's events.
use Rattle.std.specs.Prelude.{ℕ, ◌+◌, Bool, List, [], ◌∷◌, length, Some, None, Result, Ok, Err, nat_lt, if◌then◌else◌}
use Rattle.hy_base.specs.Script.{Workload}
use Rattle.hy_base.specs.Spelling.{Text}
use Rattle.hy_script.specs.Lines.{lines_of, words_of, numbered_lines, offset_after}
use Rattle.hy_script.specs.Forms.{read_line}
use Rattle.hy_script.specs.Grammar.{Place, AtStart, Shaped, Listing, Programming, Scheduled, forms_at, event_of}
use Rattle.hy_script.specs.declared.why.Why.{Why}
use Rattle.hy_script.specs.declared.why.Why.TheVariants.{Missing, Long}
use Rattle.hy_script.specs.declared.refused.Refused.{Refused}
use Rattle.hy_script.specs.declared.refused.EventLine.{EventLine}
use Rattle.hy_script.specs.declared.refused.ScheduleStart.{ScheduleStart}
use Rattle.hy_script.specs.declared.refused.Reading.{Reading}

abbrev pub refused_at : {T : Type 0} → ℕ → Why → Result T Refused
refused_at line why = Err (record { line = line; why = why })

-- the place after a line. The lines after 'schedule' aren't a part of the script
abbrev pub place_after : Bool → Place → ℕ × Text → Result Place Why
place_after sim (Scheduled script start) p = Ok (Scheduled script start)
place_after sim place p = read_line (forms_at sim place p.0) (words_of p.1)

-- the place after all of these lines, or the first that is refused
abbrev pub place_after_all : Bool → Place → List (ℕ × Text) → Result Place Refused
place_after_all sim place [] = Ok place
place_after_all sim place (p ∷ ps) =
    elim (place_after sim place p) [
      | Ok next ↦ place_after_all sim next ps
      | Err why ↦ refused_at p.0 why
    ]

abbrev pub start_after : ℕ → Text → ScheduleStart
start_after number bytes = record { offset = offset_after number bytes; line = number + 1 }

-- the source may end here, or else the line past the last one is missing
abbrev pub script_ended : Text → Place → Result Reading Refused
script_ended bytes AtStart = refused_at (length (lines_of bytes) + 1) Missing
script_ended bytes (Shaped shape) = refused_at (length (lines_of bytes) + 1) Missing
script_ended bytes (Programming script program) = refused_at (length (lines_of bytes) + 1) Missing
script_ended bytes (Listing script) = Ok (record { script = script; schedule = None })
script_ended bytes (Scheduled script start) = Ok (record { script = script; schedule = Some (start_after start bytes) })

-- the script that the bytes spell, or the first line that is refused. With 'sim' a schedule may follow it
abbrev pub read_script : Text → Bool → Result Reading Refused
read_script bytes sim =
    if nat_lt 16777216 (length bytes) then refused_at 0 Long
    else
    elim (place_after_all sim AtStart (numbered_lines 1 bytes)) [
      | Ok place ↦ script_ended bytes place
      | Err fault ↦ Err fault
    ]

-- the events of these lines, each with the number of its line, or the first line that is refused
abbrev pub events_of : Workload → List (ℕ × Text) → Result (List EventLine) Refused
events_of script [] = Ok []
events_of script (p ∷ ps) =
    elim (event_of script (words_of p.1)) [
      | Err why ↦ refused_at p.0 why
      | Ok event ↦ elim (events_of script ps) [
        | Err fault ↦ Err fault
        | Ok events ↦ Ok (record { line = p.0; event = event } ∷ events)
      ]
    ]

-- the schedule that the bytes spell, their first line having this number
abbrev pub read_schedule : Text → ℕ → Workload → Result (List EventLine) Refused
read_schedule bytes first script = events_of script (numbered_lines first bytes)
