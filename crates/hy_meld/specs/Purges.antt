-- What a purge leaves.
use Rattle.std.specs.Prelude.{◌≡◌, ℕ, ◌<◌, ◌+◌, List, [], ◌∷◌, ◌++◌, length, cond, Option, Some, None}
use Rattle.hy_base.specs.declared.record.Row.{Row}
use Rattle.hy_base.specs.Rows.{IsOrdered, is_purgeable, purged}

-- how many tombstones stand at or below a line
abbrev pub count_purgeable : ℕ → List Row → ℕ
count_purgeable line [] = 0
count_purgeable line (r ∷ rs) = cond (is_purgeable line r) (count_purgeable line rs + 1) (count_purgeable line rs)

-- of the rows these are left: none, or a tree of them, which has rows if there were any
abbrev pub IsPurgedPart : {T : Type 0} → (T → List Row) → ℕ → List Row → Option T → Type 0
IsPurgedPart rows_of line rows None = purged line rows ≡ []
IsPurgedPart rows_of line rows (Some tree) = (rows_of tree ≡ purged line rows) × (0 < length rows → 0 < length (rows_of tree))

-- the rows of a part that may be missing
abbrev pub part_rows : {T : Type 0} → (T → List Row) → Option T → List Row
part_rows rows_of None = []
part_rows rows_of (Some tree) = rows_of tree

-- one part, or both joined
abbrev pub AreJoined : {T : Type 0} → (T → List Row) → Option T → Option T → Option T → Type 0
AreJoined rows_of None right both = both ≡ right
AreJoined rows_of (Some l) None both = both ≡ Some l
AreJoined rows_of (Some l) (Some r) None = ⊥
AreJoined rows_of (Some l) (Some r) (Some both) = rows_of both ≡ rows_of l ++ rows_of r
