-- The lengths of programs, in rounds.
use Rattle.std.proofs.Common.{ℕ, zero, suc, ◌-◌, ◌*◌, ◌%◌, ◌^◌, ◌≤◌, arith}
use Rattle.hy_base.specs.Shape.{IsWithin}

small_power : (n : ℕ) → n ≤ 3 → IsWithin 1 8 (1 * 2 ^ n % 4294967296)
small_power zero few = record { at_least = omega arith; at_most = omega arith }
small_power (suc zero) few = record { at_least = omega arith; at_most = omega arith }
small_power (suc (suc zero)) few = record { at_least = omega arith; at_most = omega arith }
small_power (suc (suc (suc zero))) few = record { at_least = omega arith; at_most = omega arith }
small_power (suc (suc (suc (suc n)))) few = absurd (omega (arith, few))

pub power_within : (server : ℕ) → server ≤ 4 → IsWithin 1 8 (1 * 2 ^ (server - 1) % 4294967296)
power_within server few = small_power (server - 1) (omega (arith, few))
