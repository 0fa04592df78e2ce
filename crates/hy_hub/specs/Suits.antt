-- Whose entry: what is asked of an event that ends a client's program. A hub is made for such a rule, and each
-- of its lists keeps it.
use Rattle.std.specs.Prelude.{◌≡◌, ℕ, List, [], ◌∷◌, ◌++◌, ⊤}
use Rattle.std.specs.List.{AllByRecursion}
use mathlib.Core.List.{IsPrefix}
use Rattle.hy_base.specs.declared.record.EntryKind.{EntryKind}
use Rattle.hy_base.specs.declared.workload.Event.{Event}
use Rattle.hy_base.specs.declared.workload.Event.TheVariants.{Begin, Append, End, Refuse, Pad, Publish, Stop}
use Rattle.hy_rules.specs.Moves.{State}
use Rattle.hy_hub.specs.declared.contents.Contents.TheInside.{Inside}
use Rattle.hy_hub.specs.declared.occurrence.Occurrence.{Occurrence}
use Rattle.hy_hub.specs.declared.occurrence.Occurrence.TheVariants.{Opened, Happened, Halted, Lifted, Landed}
use Rattle.hy_hub.specs.Entries.{Asked}
use Rattle.hy_hub.specs.Appends.{RunsOn, IsRunningFor}
use Rattle.hy_hub.specs.Trace.{state_after, events_told}

-- As a list goes on, the entry suits wherever its client runs this program on its snapshot and at its isolation, and so does
-- its refusal by a full log.
abbrev pub MayAppend : (State → Event → List EntryKind → Type 0) → List Occurrence → ℕ → ℕ → EntryKind → Type 0
MayAppend suits list client number entry =
    (later : List Occurrence) → IsPrefix list later → IsRunningFor client number entry later
    → suits (state_after later) (Append client) (entry ∷ []) × suits (state_after later) (Refuse client) []

-- so does what a client asked
abbrev pub MayWait : (State → Event → List EntryKind → Type 0) → List Occurrence → Asked → Type 0
MayWait suits list asked = MayAppend suits list asked.client asked.number asked.entry

-- So does the end of a program that wrote nothing.
abbrev pub MayEnd : (State → Event → List EntryKind → Type 0) → List Occurrence → ℕ → ℕ → ℕ → Type 0
MayEnd suits list client number snap =
    (later : List Occurrence) → IsPrefix list later → RunsOn client number snap (state_after later)
    → suits (state_after later) (End client) []

-- an event suits a state where it ends a program
abbrev pub SuitsIn : (State → Event → List EntryKind → Type 0) → State → Event → List EntryKind → Type 0
SuitsIn suits s (Begin client) added = ⊤
SuitsIn suits s (Append client) added = suits s (Append client) added
SuitsIn suits s (End client) added = suits s (End client) added
SuitsIn suits s (Refuse client) added = suits s (Refuse client) added
SuitsIn suits s (Pad server) added = ⊤
SuitsIn suits s (Publish server upto) added = ⊤
SuitsIn suits s (Stop call pattern) added = ⊤

-- an event suits the state of a list
abbrev pub SuitsNext : (State → Event → List EntryKind → Type 0) → List Occurrence → Occurrence → Type 0
SuitsNext suits before (Opened o) = ⊤
SuitsNext suits before (Happened event added ended) = SuitsIn suits (state_after before) event added.entries
SuitsNext suits before (Halted at risen) = ⊤
SuitsNext suits before (Lifted batch) = ⊤
SuitsNext suits before Landed = ⊤

-- An occurrence suits the list before it: an event does, and so does each of a batch that is lifted.
abbrev pub SuitsAt : (State → Event → List EntryKind → Type 0) → List Occurrence → Occurrence → Type 0
SuitsAt suits before (Opened o) = ⊤
SuitsAt suits before (Happened event added ended) = SuitsNext suits before (Happened event added ended)
SuitsAt suits before (Halted at risen) = ⊤
SuitsAt suits before (Lifted batch) = AllByRecursion (SuitsNext suits before) (events_told batch)
SuitsAt suits before Landed = ⊤

-- So does each occurrence of a list.
abbrev pub AllSuit : (State → Event → List EntryKind → Type 0) → List Occurrence → Type 0
AllSuit suits list =
    (before : List Occurrence) (occurrence : Occurrence) (after : List Occurrence) → list ≡ before ++ (occurrence ∷ after)
    → SuitsAt suits before occurrence

-- The list suits, and each entry that waits may be appended.
pub record IsSuited {D B : Type 0} (suits : State → Event → List EntryKind → Type 0) (c : Inside D B) : Type 0 where
  pub events : AllSuit suits c.occurrences.items
  pub waits : AllByRecursion (MayWait suits c.occurrences.items) c.waiting.items
