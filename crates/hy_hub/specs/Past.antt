-- What a crash at any moment since a hub was made might have left of its log.
use Rattle.std.specs.Prelude.{◌⊎◌, ◌≤◌, ℕ, List, ◌++◌, length, map, take}
use Rattle.hy_base.specs.declared.record.EntryKind.{EntryKind}
use Rattle.hy_formats.specs.declared.header.Header.{Header}
use Rattle.hy_formats.specs.EntryFormat.{spelling}
use Rattle.hy_formats.specs.LogDevice.{Holds}

-- the first so many of these entries, no fewer than `least`
pub record HoldsSome (header : Header) (least : ℕ) (entries : List EntryKind) (image : List ℕ) : Type 0 where
  pub count : ℕ
  pub no_fewer : least ≤ count
  pub no_more : count ≤ length entries
  pub holds : Holds header (map (spelling header.shape.version) (take count entries)) image

-- these, or all of them and a whole batch
abbrev pub HasStood : Header → ℕ → List EntryKind → List EntryKind → List ℕ → Type 0
HasStood header least entries batch image =
    HoldsSome header least entries image
    ⊎ Holds header (map (spelling header.shape.version) (entries ++ batch)) image
