-- Which calls of a device in memory fail.
use Rattle.std.specs.Prelude.{◌≡◌, ℕ, ◌+◌, ◌-◌, ◌^◌, ◌<◌, min, Bool, false, ◌==◌, ◌||◌, nat_lt, nat_le, List, [], Option, Some}
use Rattle.std.specs.Prelude.{None, if◌then◌else◌}
use Rattle.std.specs.List.{list_any}
use Rattle.std.specs.Option.{option_map}

-- Calls are numbered from 1. Those numbered in `fails` fail, and all after the number `passes`, where there is one. Where
-- `armed` is k the k-th write or sync from now on fails, and every call after it; at 0 it has failed. So far `made` calls were
-- made, and `faults` of them failed.
pub record DevicePlan : Type 0 where
  pub fails : List ℕ
  pub passes : Option ℕ
  pub armed : Option ℕ
  pub made : ℕ
  pub faults : ℕ

-- the plan before the first call
abbrev pub fresh_device_plan : List ℕ → Option ℕ → DevicePlan
fresh_device_plan fails passes = record { fails = fails; passes = passes; armed = None; made = 0; faults = 0 }

-- from now on no call fails by its number or by order
abbrev pub cleared : DevicePlan → DevicePlan
cleared plan = record plan { fails = []; passes = None; armed = None }

-- one more, for a count that stops at the last value of a `u64`
abbrev pub counted_call : ℕ → ℕ
counted_call n = min (n + 1) (2 ^ 64 - 1)

-- whether a call comes after the last one that passes
abbrev pub is_after_all : ℕ → Option ℕ → Bool
is_after_all call None = false
is_after_all call (Some last) = nat_lt last call

-- whether the armed failure comes at this write or sync from now on, or before it
abbrev pub armed_within : ℕ → Option ℕ → Bool
armed_within n None = false
armed_within n (Some at) = nat_le at n

-- whether the next call fails by its number
abbrev pub fails_by_number : DevicePlan → Bool
fails_by_number plan =
    list_any (λ call. call == counted_call plan.made) plan.fails || is_after_all (counted_call plan.made) plan.passes

-- whether the next call fails, if it changes nothing
abbrev pub read_fails : DevicePlan → Bool
read_fails plan = fails_by_number plan || armed_within 0 plan.armed

-- whether the next call fails, if it is a write or a sync
abbrev pub change_fails : DevicePlan → Bool
change_fails plan = fails_by_number plan || armed_within 1 plan.armed

-- the plan after one more call that changes nothing
abbrev pub after_read : DevicePlan → Bool → DevicePlan
after_read plan failed =
    record plan { made = counted_call plan.made; faults = if failed then counted_call plan.faults else plan.faults }

-- the plan after one more write or sync
abbrev pub after_change : DevicePlan → Bool → DevicePlan
after_change plan failed = record (after_read plan failed) { armed = option_map (λ at. at - 1) plan.armed }

-- no call fails by its number
pub record IsSoundPlan (plan : DevicePlan) : Type 0 where
  pub fails : plan.fails ≡ []
  pub passes : plan.passes ≡ None

-- so many writes and syncs come before the one that is armed
abbrev pub IsEarlierCall : ℕ → Option ℕ → Type 0
IsEarlierCall k None = Unit {0}
IsEarlierCall k (Some at) = k < at

-- what the armed one itself takes of the room
abbrev pub spare : Option ℕ → ℕ
spare None = 0
spare (Some at) = 1
