-- Ordered failures.
use Rattle.std.specs.Prelude.{ℕ}

-- No call is ordered to fail, where this says which one is.
abbrev pub IsUnarmed : (ℕ → Type 0) → Type 0
IsUnarmed armed_at = (k : ℕ) → armed_at k → ⊥
