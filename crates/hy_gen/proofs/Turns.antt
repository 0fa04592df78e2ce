-- A program on a server takes a number of rounds, and begins anew after the last of them.
use Rattle.std.proofs.Common.{◌≡◌, ℕ, zero, suc, ◌+◌, ◌-◌, ◌*◌, ◌/◌, ◌%◌, ◌<◌, ◌≤◌, arith}
use Rattle.hy_base.specs.Shape.{IsWithin}
use Rattle.hy_gen.specs.Rounds.{home, period}

-- the round in which the programs on a server began that run in a round
abbrev pub start : ℕ → ℕ → ℕ
start server round = round / period server * period server

-- how the turns of so many rounds go on
pub record IsPeriod (p : ℕ) : Type 0 where
  pub begins : (t : ℕ) → t % p ≡ 0 → t / p * p ≡ t
  pub low : (t : ℕ) → t / p * p ≤ t
  pub turns : (t : ℕ) → (t + 1) % p ≡ 0 → (t + 1) / p ≡ t / p + 1
  pub from : (t : ℕ) → (t + 1) % p ≡ 0 → t + 1 - p ≡ t / p * p
  pub stays : (t : ℕ) → ((t + 1) % p ≡ 0 → ⊥) → (t + 1) / p ≡ t / p

pub is_period : (server : ℕ) → 1 ≤ server → server ≤ 4 → IsPeriod (period server)
is_period zero least most = absurd (omega (arith, least))
is_period (suc zero) least most = record {
  begins = λ t e. omega arith;
  low = λ t. omega arith;
  turns = λ t e. omega arith;
  from = λ t e. omega arith;
  stays = λ t e. absurd (e (omega arith));
}
is_period (suc (suc zero)) least most = record {
  begins = λ t e. omega (arith, e);
  low = λ t. omega arith;
  turns = λ t e. omega (arith, e);
  from = λ t e. omega (arith, e);
  stays = λ t e. omega (arith, e);
}
is_period (suc (suc (suc zero))) least most = record {
  begins = λ t e. omega (arith, e);
  low = λ t. omega arith;
  turns = λ t e. omega (arith, e);
  from = λ t e. omega (arith, e);
  stays = λ t e. omega (arith, e);
}
is_period (suc (suc (suc (suc zero)))) least most = record {
  begins = λ t e. omega (arith, e);
  low = λ t. omega arith;
  turns = λ t e. omega (arith, e);
  from = λ t e. omega (arith, e);
  stays = λ t e. omega (arith, e);
}
is_period (suc (suc (suc (suc (suc n))))) least most = absurd (omega (arith, most))

pub home_within : (client : ℕ) → IsWithin 1 4 (home client)
home_within client = record { at_least = omega arith; at_most = omega arith }

-- a client has so many programs exactly where its next number is below the size
pub has_program : (size client turn : ℕ) → 1 ≤ client → client ≤ 8 → turn < (size + 8 - client) / 8 → 8 * turn + (client - 1) < size
has_program size client turn least most below = omega (arith, least, most, below)

pub has_no_program : (size client turn : ℕ) → 1 ≤ client → client ≤ 8 → (size + 8 - client) / 8 ≤ turn → size ≤ 8 * turn + (client - 1)
has_no_program size client turn least most past = omega (arith, least, most, past)
