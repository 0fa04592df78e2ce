-- What is looked up in rows that stand in order.
use Rattle.std.specs.Prelude.{ℕ, Bool, Option, Some, None, if◌then◌else◌}

-- of just the keys that pass a test, the writers up to this position are known
abbrev pub known_where : (ℕ → Bool) → ℕ → ℕ → Option ℕ
known_where test pos key = if test key then Some pos else None
