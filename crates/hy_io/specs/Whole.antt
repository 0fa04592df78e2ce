-- What a source has given, where it tells its bytes.
use Rattle.std.specs.Prelude.{◌≡◌, ℕ, ◌≤◌, List, length, Option}
use Rattle.std.specs.Io.KnownBytes.{Consumes}

-- exactly `count` bytes, from the first on
abbrev pub GivesExactly : Option (List ℕ) → Option (List ℕ) → ℕ → Type 0
GivesExactly old new count = (bytes : List ℕ) × Consumes old new bytes × (length bytes ≡ count)

-- some bytes, from the first on, and at most `most` of them
abbrev pub GivesAtMost : Option (List ℕ) → Option (List ℕ) → ℕ → Type 0
GivesAtMost old new most = (bytes : List ℕ) × Consumes old new bytes × (length bytes ≤ most)
