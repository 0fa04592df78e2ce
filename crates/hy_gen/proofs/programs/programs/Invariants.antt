use Rattle.std.proofs.Common.{◌≡◌, ◌+◌, ◌-◌, ◌*◌, map}
use Rattle.std.specs.List.{range_with_len}
use Rattle.hy_gen.specs.Draws.{generator_at}
use Rattle.hy_gen.specs.Load.{program_numbered}
use Rattle.hy_gen.proofs.programs.programs.Given as goal

abbrev pub invariant-loop-turn : goal.invariant-loop-turn
invariant-loop-turn l = record {
  words : l.words ≡ generator_at l.seed (8 * l.turn + (l.client - 1));
  programs : l.programs ≡ map (λ turn. program_numbered l.seed (8 * turn + (l.client - 1))) (range_with_len 0 l.turn);
}
