-- What a generated load comes to.
use Rattle.std.specs.Prelude.{◌≡◌, ℕ, List, []}
use Rattle.hy_base.specs.declared.workload.Event.{Event}
use Rattle.hy_base.specs.Spelling.{Text}
use Rattle.hy_rules.specs.Moves.{State}
use Rattle.hy_rules.specs.Runs.{opening_of, ended_in}
use Rattle.hy_rules.specs.Summary.{summary_at}
use Rattle.hy_gen.specs.Load.{script_of, schedule_of}
use Rattle.hy_run.specs.Output.{IsWholeRun}

-- These events are the whole run of a load, and this is its summary.
pub record IsLoadRun (seed size : ℕ) (events : List Event) (summary : Text) : Type 0 where
  pub end : State
  pub whole : IsWholeRun (script_of seed size) (schedule_of seed size) events end
  pub summary_is : summary ≡ summary_at seed size (script_of seed size)
      (ended_in (script_of seed size) (opening_of (script_of seed size) []) events) end

-- the summary of a load, by some events that are its whole run
abbrev pub IsLoadText : ℕ → ℕ → Text → Type 0
IsLoadText seed size text = (events : List Event) × IsLoadRun seed size events text
