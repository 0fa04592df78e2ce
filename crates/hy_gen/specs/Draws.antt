-- The words that the generator gives for a seed. Each program is made of three.
use Rattle.std.specs.Prelude.{ℕ, ◌*◌, ◌%◌, Bool, ◌==◌}
use Rattle.rand_pcg.specs.Lcg.{Lcg, increment_of, started, advance}
use Rattle.rand_pcg.specs.Pcg.{multiplier_64, pcg32}
use Rattle.hy_gen.specs.declared.drawing.Draw.{Draw}

-- the generator of a seed, on stream 1
abbrev pub seeded : ℕ → Lcg
seeded seed = started 64 multiplier_64 seed (increment_of 64 1)

-- the generator before the words of a program. Programs are numbered from 0
abbrev pub generator_at : ℕ → ℕ → Lcg
generator_at seed number = advance 64 multiplier_64 (3 * number) (seeded seed)

-- the next three words
abbrev pub next_draw : Lcg → Draw
next_draw g = record { kind = (pcg32 g).0; first = (pcg32 (pcg32 g).1).0; second = (pcg32 (pcg32 (pcg32 g).1).1).0 }

-- the words of a program
abbrev pub draw_of : ℕ → ℕ → Draw
draw_of seed number = next_draw (generator_at seed number)

-- whether a program only reads
abbrev pub reads_only : ℕ → ℕ → Bool
reads_only seed number = (draw_of seed number).kind % 4 == 3
