-- Laws on streams and on followers.
use Rattle.std.specs.Prelude.{◌≡◌, ℕ, List, length, Some, Ok}
use Rattle.std.specs.List.{AllByRecursion}
use Rattle.hy_base.specs.declared.layout.Shape.{Shape}
use Rattle.hy_base.specs.declared.record.EntryKind.{EntryKind}
use Rattle.hy_base.specs.Entry.{IsSoundEntry}
use Rattle.hy_base.specs.Shape.{IsGoodShape}
use Rattle.hy_base.specs.Log.{IsLawful}
use Rattle.hy_formats.specs.StreamFormat.{came, streamed, stream_bytes}
use Rattle.hy_rules.specs.Validation.{verdicts, rows}
use Rattle.hy_roll_laws.specs.Rolling.{Roll}
use Rattle.hy_follow.specs.Following.{Following, HasFollowed}

-- The stream of a lawful log is whole, and tells its shape and its entries.
abbrev pub StreamIsFollowed : Type 0
StreamIsFollowed =
    (s : Shape) (entries : List EntryKind)
    → IsGoodShape s → IsLawful s entries → AllByRecursion (IsSoundEntry s.version) entries
    → streamed (stream_bytes s entries) ≡ Ok (Some s, entries)

-- However a stream is cut into pieces, what is held then is decided by its bytes.
abbrev pub OneFollower : Type 0
OneFollower = (bytes : List ℕ) (f g : Following) → HasFollowed bytes f → HasFollowed bytes g → f ≡ g

-- a roller has the verdicts and the rows that these entries decide
pub record IsDecided (entries : List EntryKind) (r : Roll) : Type 0 where
  pub verdicts_are : r.rolled.verdicts ≡ verdicts r.shape entries (length entries)
  pub rows_are : r.rolled.tree ≡ rows r.shape entries (length entries)

-- A follower has what the entries decide whose whole frames came.
abbrev pub FollowerDecides : Type 0
FollowerDecides =
    (bytes : List ℕ) (f : Following) (r : Roll) → HasFollowed bytes f → f.roll ≡ Some r
    → IsDecided (came bytes).entries r
