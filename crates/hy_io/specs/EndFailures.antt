-- Which calls of a source or a sink in memory fail.
use Rattle.std.specs.Prelude.{ℕ, ◌+◌, ◌-◌, ◌^◌, min, Bool, ◌==◌, List, if◌then◌else◌}
use Rattle.std.specs.List.{list_any}

-- At most `most` bytes a call. Calls are numbered from 1, and those numbered in `fails` fail. So far `made` calls
-- were made, and `faults` of them failed.
pub record Plan : Type 0 where
  pub most : ℕ
  pub fails : List ℕ
  pub made : ℕ
  pub faults : ℕ

-- the plan before the first call
abbrev pub fresh_plan : ℕ → List ℕ → Plan
fresh_plan most fails = record { most = most; fails = fails; made = 0; faults = 0 }

-- one more, for a count that stops at the last value of a `u64`
abbrev pub counted : ℕ → ℕ
counted n = min (n + 1) (2 ^ 64 - 1)

-- whether the next call is one of those that fail
abbrev pub fails_next : Plan → Bool
fails_next plan = list_any (λ call. call == counted plan.made) plan.fails

-- the plan after one more call
abbrev pub after_call : Plan → Bool → Plan
after_call plan failed = record plan { made = counted plan.made; faults = if failed then counted plan.faults else plan.faults }
