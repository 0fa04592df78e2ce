-- Reading the entries of a log one after the other.
use Rattle.std.specs.Prelude.{◌≡◌, ℕ, ◌+◌, Bool, IsTrue, List, length, map, take, drop, ◌++◌, Result, Ok, Err, ⊤}
use Rattle.std.specs.List.{AllByRecursion}
use Rattle.hy_base.specs.declared.layout.Shape.{Shape}
use Rattle.hy_base.specs.declared.record.EntryKind.{EntryKind}
use Rattle.hy_base.specs.Entry.{IsSoundEntry}
use Rattle.hy_base.specs.Log.{HaveLawfulSnaps}
use Rattle.hy_formats.specs.EntryFormat.{entries_past, spelling}
use Rattle.hy_entries.specs.LogEntries.{AreFoundIn}
use Rattle.hy_entries.specs.declared.listing.Listing.{Listing}
use Rattle.hy_entries.specs.declared.listing.Listing.TheVariants as listing

-- the bodies past a position spell entries, and just these were taken
abbrev pub IsRead : Bool → Shape → ℕ → List (List ℕ) → (List EntryKind → Type 0) → Type 0
IsRead tells s after bodies took =
    (entries : List EntryKind)
    × AreFoundIn tells (record { shape = s; from = after }) bodies entries
    × took entries

-- the entries past a position were taken, or the first position is told that is refused
abbrev pub IsListing : Bool → Shape → ℕ → List (List ℕ) → (List EntryKind → Type 0) → Listing → Type 0
IsListing tells s after bodies took listing.Whole = IsRead tells s after bodies took
IsListing tells s after bodies took (listing.Bad pos bad) = IsTrue tells → entries_past s after bodies ≡ Err (pos, bad)
IsListing tells s after bodies took listing.Memory = ⊤

-- entries that come first
abbrev pub behind : {E : Type 0} → List EntryKind → Result (List EntryKind) E → Result (List EntryKind) E
behind entries (Ok more) = Ok (entries ++ more)
behind entries (Err e) = Err e

-- these are the entries of the first bodies
pub record IsReadSoFar (tells : Bool) (s : Shape) (from : ℕ) (bodies : List (List ℕ)) (entries : List EntryKind)
    (count : ℕ) : Type 0 where
  pub counts : length entries ≡ count
  pub lawful : HaveLawfulSnaps s from entries
  pub sound : AllByRecursion (IsSoundEntry s.version) entries
  pub read : IsTrue tells → entries_past s from bodies ≡ behind entries (entries_past s (from + count) (drop count bodies))
  pub spelled : IsTrue tells → take count bodies ≡ map (spelling s.version) entries
