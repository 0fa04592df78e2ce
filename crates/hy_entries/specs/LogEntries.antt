-- What reading the entries of a log comes to.
use Rattle.std.specs.Prelude.{◌≡◌, ◌≢◌, ℕ, ◌≤◌, Bool, IsTrue, List, length, map, Result, Ok, Err, ⊤}
use Rattle.std.specs.List.{AllByRecursion}
use Rattle.hy_base.specs.declared.record.EntryKind.{EntryKind}
use Rattle.hy_base.specs.Entry.{IsSoundEntry}
use Rattle.hy_base.specs.Faults.{Rose}
use Rattle.hy_formats.specs.declared.damage.BadEntry.{BadEntry}
use Rattle.hy_formats.specs.declared.header.Header.{Header}
use Rattle.hy_formats.specs.EntryFormat.{entries_past, spelling}
use Rattle.hy_rules.specs.CutLogs.{AreLawfulPast}
use Rattle.hy_disk.specs.Content.{Content, Image}
use Rattle.hy_disk.specs.Moments.{LeavesOnly}
use Rattle.hy_log.specs.View.{LogView}
use Rattle.hy_entries.specs.declared.reading.EntriesError.{EntriesError}
use Rattle.hy_entries.specs.declared.reading.EntriesError.TheVariants as reading

-- The entries of these bodies past a header's position, as many as the bodies, all lawful there, and each read again from its
-- spelling. Where the device doesn't tell its bytes, the bodies mean nothing.
pub record AreFoundIn (tells : Bool) (h : Header) (bodies : List (List ℕ)) (entries : List EntryKind) : Type 0 where
  pub read : IsTrue tells → entries_past h.shape h.from bodies ≡ Ok entries
  pub spelled : IsTrue tells → bodies ≡ map (spelling h.shape.version) entries
  pub sound : AllByRecursion (IsSoundEntry h.shape.version) entries
  pub lawful : AreLawfulPast h.shape h.from entries
  pub count : length entries ≡ length bodies

-- The entry that is refused is the first one. Out of memory and a failure of the device don't go by the bodies.
abbrev pub RefusesEntry : EntriesError → Result (List EntryKind) (ℕ × BadEntry) → Type 0
RefusesEntry reading.Memory read = ⊤
RefusesEntry reading.Device read = ⊤
RefusesEntry (reading.BadEntry pos bad) read = read ≡ Err (pos, bad)

-- The device's content stays, a crash at any moment leaves what a crash before leaves, the device is blamed only where its
-- count of faults rose and never within its room, and no room is taken.
pub record OnlyLooks {D T : Type 0} (content : D → Content) (moment : D → ℕ) (left_since : D → ℕ → List ℕ → Type 0)
    (faults_of : D → ℕ) (has_room : D → ℕ → ℕ → Type 0) (old new : D) (result : Result T EntriesError) : Type 0 where
  pub same : content new ≡ content old
  pub quiet : LeavesOnly moment left_since old new (Image (content old))
  pub later : faults_of old ≤ faults_of new
  pub device : result ≡ Err reading.Device → Rose (faults_of old) (faults_of new)
  pub room : (k b : ℕ) → has_room old k b → (result ≢ Err reading.Device) × has_room new k b

-- a log that is as it was, but for its device
pub record IsSameLog {D : Type 0} (old new : LogView D) : Type 0 where
  pub shape : new.shape ≡ old.shape
  pub from : new.from ≡ old.from
  pub stopped : new.stopped ≡ old.stopped
  pub batch : new.batch ≡ old.batch
  pub spare : new.spare ≡ old.spare
  pub bodies : new.bodies ≡ old.bodies
