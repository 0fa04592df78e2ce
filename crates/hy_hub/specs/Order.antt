-- Where occurrences stand in the hub's list.
use Rattle.std.specs.Prelude.{◌≡◌, true, List, [], ◌∷◌, ◌++◌, None, Some, ⊤}
use Rattle.hy_base.specs.declared.record.EntryKind.{EntryKind}
use Rattle.hy_hub.specs.declared.occurrence.Occurrence.{Occurrence}
use Rattle.hy_hub.specs.declared.occurrence.Occurrence.TheVariants.{Opened, Happened, Halted, Lifted, Landed}
use Rattle.hy_hub.specs.declared.occurrence.Batch.{Batch}
use Rattle.std.specs.List.{AllByRecursion}
use Rattle.hy_rules.specs.Moves.{MayAdd}
use Rattle.hy_hub.specs.Trace.{setting_in, state_after, halt_of, flight_of, is_out, events_told}
use Rattle.hy_hub.specs.Appends.{IsHalt}

-- An event is one of those of the batch that was out. They stand in their order, right before its landing.
pub record IsOfBatch (before : List Occurrence) (event : Occurrence) (after : List Occurrence) : Type 0 where
  pub list : List Occurrence
  pub batch : Batch
  pub out : flight_of list ≡ Some batch
  pub first : List Occurrence
  pub others : List Occurrence
  pub events : events_told batch ≡ first ++ (event ∷ others)
  pub behind : List Occurrence
  pub before_is : before ≡ list ++ first
  pub after_is : after ≡ others ++ (Landed ∷ behind)

-- an event may add its entries to the log of this list
abbrev pub MayBeNext : List Occurrence → Occurrence → Type 0
MayBeNext list (Opened o) = ⊥
MayBeNext list (Happened event added ended) = MayAdd (setting_in list) (state_after list) event added.entries
MayBeNext list (Halted at risen) = ⊥
MayBeNext list (Lifted batch) = ⊥
MayBeNext list Landed = ⊥

-- an event that adds such entries is one of a batch
abbrev pub StandsAsAdded : List EntryKind → List Occurrence → Occurrence → List Occurrence → Type 0
StandsAsAdded [] before event after = ⊤
StandsAsAdded (entry ∷ entries) before event after = IsOfBatch before event after

-- An event that adds entries is one of the batch that was out. The device is lifted where it is home and the log runs, with a
-- batch of which each event might be the next one; it fails, and lands, where it is out; and where it failed it lands at once.
abbrev pub StandsInOrder : List Occurrence → Occurrence → List Occurrence → Type 0
StandsInOrder before (Opened o) after = ⊤
StandsInOrder before (Happened event added ended) after = StandsAsAdded added.entries before (Happened event added ended) after
StandsInOrder before (Halted at risen) after =
    IsHalt before (Halted at risen ∷ [])
    × ((behind : List Occurrence) × (after ≡ Landed ∷ behind))
StandsInOrder before (Lifted batch) after =
    (flight_of before ≡ None)
    × (halt_of before ≡ None)
    × AllByRecursion (MayBeNext before) (events_told batch)
StandsInOrder before Landed after = is_out before ≡ true

-- So does each occurrence of a list, by what stands before and behind it.
abbrev pub AreInOrder : List Occurrence → Type 0
AreInOrder list =
    (before : List Occurrence) (occurrence : Occurrence) (after : List Occurrence) → list ≡ before ++ (occurrence ∷ after)
    → StandsInOrder before occurrence after
