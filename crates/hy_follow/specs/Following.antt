-- What a follower is after the first bytes of a stream.
use Rattle.std.specs.Prelude.{◌≡◌, ℕ, ◌+◌, ◌≤◌, List, [], length, take, drop, Option, Some, None, IfSome, Result, Ok, Err}
use Rattle.std.specs.Prelude.{nat_le, ◌==◌, if◌then◌else◌}
use Rattle.std.specs.Option.{is_some}
use Rattle.hy_base.specs.declared.layout.Shape.{Shape}
use Rattle.hy_base.specs.declared.record.EntryKind.{EntryKind}
use Rattle.hy_base.specs.declared.record.Row.{Row}
use Rattle.hy_base.specs.declared.record.Verdict.{Verdict}
use Rattle.hy_base.specs.Shape.{IsGoodShape, whole_groups}
use Rattle.hy_base.specs.Log.{IsLawful}
use Rattle.hy_formats.specs.declared.damage.Damage.TheVariants as damage
use Rattle.hy_formats.specs.declared.damage.BadFrame.{BadFrame}
use Rattle.hy_formats.specs.StreamFormat.{Streamed, came}
use Rattle.hy_roll_laws.specs.Rolling.{Roll, IsTreeOf, rolled_upto, Stands}
use Rattle.hy_roller.specs.declared.roller.Told.{Told}
use Rattle.hy_roller.specs.declared.roller.Told.TheVariants.{NotYet, Past}
use Rattle.hy_roller.specs.Telling.{told}

-- The roller, once the header was taken, and the entries past its position. Behind these begins, at this place of the stream,
-- the header or frame that isn't whole, of which these bytes came. The first header or frame that is refused.
pub record Following : Type 0 where
  pub roll : Option Roll
  pub rest : List EntryKind
  pub place : ℕ
  pub waiting : List ℕ
  pub bad : Option BadFrame

abbrev pub nothing_followed : Following
nothing_followed = record { roll = None; rest = []; place = 0; waiting = []; bad = None }

-- the position up to which the entries are rolled: 0 before the header was taken
abbrev pub upto : Option Roll → ℕ
upto None = 0
upto (Some r) = rolled_upto r

abbrev pub shape_of : Option Roll → Option Shape
shape_of None = None
shape_of (Some r) = Some r.shape

-- how many entries came
abbrev pub came_count : Following → ℕ
came_count f = upto f.roll + length f.rest

-- of entries that are lawful it has rolled the first ones, from the start on
pub record IsRollOf (entries : List EntryKind) (r : Roll) : Type 0 where
  pub good : IsGoodShape r.shape
  pub lawful : IsLawful r.shape entries
  pub from_start : r.from ≡ 0
  pub within : rolled_upto r ≤ length entries
  pub stands : Stands (take (rolled_upto r) entries) r

abbrev pub IsRollingOf : List EntryKind → Option Roll → Type 0
IsRollingOf entries None = entries ≡ []
IsRollingOf entries (Some r) = IsRollOf entries r

-- It holds what has come of a stream.
pub record HoldsWhatCame (c : Streamed) (f : Following) : Type 0 where
  pub shape : shape_of f.roll ≡ c.shape
  pub rolling : IsRollingOf c.entries f.roll
  pub rest : f.rest ≡ drop (upto f.roll) c.entries
  pub place : f.place ≡ c.place
  pub waiting : f.waiting ≡ c.waiting
  pub bad : f.bad ≡ c.bad

-- After these bytes of a stream it holds what has come, and has rolled all whole groups.
pub record HasFollowed (bytes : List ℕ) (f : Following) : Type 0 where
  pub holds : HoldsWhatCame (came bytes) f
  pub whole : IfSome f.roll (λ r. rolled_upto r ≡ whole_groups r.shape (length (came bytes).entries))

-- ---- what it tells

-- why the stream can't end here
abbrev pub end_of : Following → Option BadFrame
end_of f =
    if is_some f.bad then f.bad else
    if length f.waiting == 0 then None else
    Some (record { place = f.place; why = damage.Short })

-- a verdict as its roller tells it, and before the header was taken as a roller at position 0
abbrev pub told_by_roll : Option Roll → ℕ → Told
told_by_roll None pos = if nat_le pos 0 then Past 0 else NotYet 0
told_by_roll (Some r) pos = told r pos

-- the verdicts of its positions
abbrev pub verdicts_held : Option Roll → List (Option Verdict)
verdicts_held None = []
verdicts_held (Some r) = r.rolled.verdicts

-- the rows at its position
abbrev pub rows_held : Option Roll → List Row
rows_held None = []
rows_held (Some r) = r.rolled.tree

-- a tree from which these are read
abbrev pub IsRowsOf : Option Roll → List Row → Type 0
IsRowsOf None tree = tree ≡ []
IsRowsOf (Some r) tree = IsTreeOf r.shape r.rolled tree

-- an answer, where there is one, with this value
abbrev pub answer_with : {X : Type 0} → X → Result (Unit {0}) BadFrame → Result X BadFrame
answer_with x (Ok done) = Ok x
answer_with x (Err bad) = Err bad
