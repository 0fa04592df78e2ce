-- The looks at the tables before a run opens.
use Rattle.std.specs.Prelude.{◌≡◌, ℕ, ◌-◌, List, [], ◌∷◌, ◌++◌, length, drop, take, replicate, Option}
use Rattle.std.specs.Option.{option_or}
use Rattle.hy_base.specs.declared.layout.Shape.{Shape}
use Rattle.hy_base.specs.declared.record.EntryKind.{EntryKind}
use Rattle.hy_base.specs.declared.record.EntryKind.TheVariants.{Filler}
use Rattle.hy_base.specs.Log.{IsLawful}
use Rattle.hy_base.specs.Script.{Workload, IsScript}
use Rattle.hy_base.specs.Shape.{whole_groups}
use Rattle.hy_rules.specs.History.{pairs_of}
use Rattle.hy_rules.specs.SoundTables.{table_fault}
use Rattle.hy_rules.specs.TableRuns.{opening_fault}
use Rattle.hy_roll_laws.specs.Rolling.{Roll, Stands, roll_on, rolled_upto}
use Rattle.std.specs.Prelude.{◌≤◌}

-- the entries that wait, and fillers up to the end of their group
abbrev pub filled : Shape → List EntryKind → List EntryKind
filled s waiting = waiting ++ replicate (s.group - length waiting) (Filler 1)

-- the roll over these
abbrev pub soon : Roll → List EntryKind → Roll
soon r waiting = roll_on r (filled r.shape waiting)

-- what the two looks tell; where nothing waits there is one
abbrev pub looked : Roll → List EntryKind → ℕ → Option ℕ
looked r [] tables = table_fault tables (pairs_of r.rolled.tree)
looked r (e ∷ es) tables =
    option_or (table_fault tables (pairs_of r.rolled.tree)) (table_fault tables (pairs_of (soon r (e ∷ es)).rolled.tree))

-- Of a roller that stands for the whole groups of a log that was found, they tell the fault that the definitions give.
abbrev pub OpeningLooksTell : Type 0
OpeningLooksTell =
    (script : Workload) (found : List EntryKind) (r : Roll) → IsScript script → IsLawful script.shape found
    → r.shape ≡ script.shape → r.from ≤ rolled_upto r → Stands (take (whole_groups script.shape (length found)) found) r
    → looked r (drop (whole_groups script.shape (length found)) found) script.tables ≡ opening_fault script found
