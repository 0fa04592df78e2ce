-- Marks in the order of their blocks, each block at most once.
use Rattle.std.specs.Prelude.{◌≡◌, ℕ, ◌+◌, ◌<◌, List, [], ◌∷◌, ◌++◌, Option, Some, None, Bool, length, IsTrue, if◌then◌else◌}
use Rattle.std.specs.List.{AllByRecursion}
use Rattle.hy_base.specs.declared.record.Mark.{Mark}
use Rattle.hy_base.specs.Entry.{span_before}
use Rattle.hy_base.specs.Marks.{lesser, dep, MarkSet}
use Rattle.hy_base.specs.declared.record.Row.{Row}
use Rattle.hy_base.specs.Rows.{IsOrdered, applied}
use Rattle.hy_mark.specs.Blocks.{IsBlock}

-- by the first keys of their blocks, and then by the last ones
abbrev pub IsBefore : Mark → Mark → Type 0
IsBefore m n = IsTrue (span_before m.block n.block)

-- each stands before all later ones
abbrev pub AreOrdered : List Mark → Type 0
AreOrdered [] = Unit {0}
AreOrdered (m ∷ ms) = AllByRecursion (IsBefore m) ms × AreOrdered ms

abbrev pub AreBlocks : List Mark → Type 0
AreBlocks marks = AllByRecursion (λ m. IsBlock m.block) marks

pub record ArePairs (marks : List Mark) : Type 0 where
  pub ordered : AreOrdered marks
  pub each : AreBlocks marks

-- what the type `Marks` keeps
pub record IsMarkSet (m : MarkSet) : Type 0 where
  pub pairs : ArePairs m.pairs
  pub writes : IsOrdered m.writes

-- a position that is known where a test says so
abbrev pub known_if : ℕ → Bool → Option ℕ
known_if pos test = if test then Some pos else None

-- Of two lists in order, the first mark of both, with what it leaves of them. Where both have its block, it has
-- the lesser dependency.
pub record IsFirstBlock (left right : List Mark) (mark : Mark) (left_rest right_rest : List Mark) : Type 0 where
  pub deps : (key : ℕ)
      → lesser (dep left key) (dep right key) ≡ lesser (dep (mark ∷ []) key) (lesser (dep left_rest key) (dep right_rest key))
  pub ordered : (front : List Mark) → AreOrdered (front ++ left) → AreOrdered (front ++ right)
      → AreOrdered ((front ++ mark ∷ []) ++ left_rest) × AreOrdered ((front ++ mark ∷ []) ++ right_rest)
  pub blocks : AreBlocks left → AreBlocks right → IsBlock mark.block × AreBlocks left_rest × AreBlocks right_rest
  pub shorter : length left_rest + length right_rest < length left + length right

-- Of two lists of rows in order, the first row of both, the right one where both have its key, with what it leaves of them.
pub record IsFirstRow (left right : List Row) (row : Row) (left_rest right_rest : List Row) : Type 0 where
  pub rows : applied left right ≡ row ∷ applied left_rest right_rest
  pub left_ordered : IsOrdered left_rest
  pub right_ordered : IsOrdered right_rest
  pub shorter : length left_rest + length right_rest < length left + length right
