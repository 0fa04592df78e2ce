-- The generator, further by some words.
use Rattle.std.proofs.Common.{◌≡◌, ◌∙◌, ℕ, zero, suc, ◌+◌, ◌*◌, ap, refl, arith}
use Rattle.rand_pcg.specs.Lcg.{Lcg, advance, next_state, state_after}
use Rattle.rand_pcg.specs.Pcg.{multiplier_64, pcg32}
use Rattle.hy_gen.specs.Draws.{seeded, generator_at}

-- m steps and then n are m + n
state_after_both : (w k p m n s : ℕ) → state_after w k p n (state_after w k p m s) ≡ state_after w k p (m + n) s
unfolding state_after
state_after_both w k p zero n s = let is : n ≡ 0 + n = omega arith in ap (λ (m : ℕ). state_after w k p m s) is
state_after_both w k p (suc m) n s = let is : suc (m + n) ≡ suc m + n = omega arith in state_after_both w k p m n (next_state w k p s) ∙ ap (λ (i : ℕ). state_after w k p i s) is

pub advance_both : (m n : ℕ) (g : Lcg) → advance 64 multiplier_64 n (advance 64 multiplier_64 m g) ≡ advance 64 multiplier_64 (m + n) g
advance_both m n g = ap (λ (s : ℕ). record { state = s; increment = g.increment }) (state_after_both 64 multiplier_64 g.increment m n g.state)

pub three_steps : (g : Lcg) → (pcg32 (pcg32 (pcg32 g).1).1).1 ≡ advance 64 multiplier_64 3 g
unfolding state_after
three_steps g = refl

-- the generator before a program, some words further
pub generator_later : (seed number n later : ℕ) → 3 * number + n ≡ 3 * later → advance 64 multiplier_64 n (generator_at seed number) ≡ generator_at seed later
generator_later seed number n later is =
    advance_both (3 * number) n (seeded seed) ∙ ap (λ (m : ℕ). advance 64 multiplier_64 m (seeded seed)) is
