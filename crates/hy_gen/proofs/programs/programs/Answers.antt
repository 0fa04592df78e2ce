use Rattle.std.proofs.Common.{rules, ◌∙◌, ◌+◌, ◌*◌, ◌-◌, ap, ℕ, arith}
use Rattle.std.proofs.lemmas.List.FromFn.{map-range_with_len_more}
use Rattle.rand_pcg.specs.Lcg.{Lcg, advance}
use Rattle.rand_pcg.specs.Pcg.{multiplier_64}
use Rattle.hy_base.specs.declared.workload.Program.{Program}
use Rattle.hy_gen.specs.Draws.{generator_at}
use Rattle.hy_gen.specs.Load.{program_numbered}
use Rattle.hy_gen.proofs.Words.{generator_later, advance_both}
use Rattle.hy_gen.proofs.programs.programs.Goals as goal

pub loop-turn-preserved : goal.loop-turn-preserved
loop-turn-preserved c =
    let number = 8 * c.loop-turn.turn + (c.args.client - 1) in
    let made : ℕ → Program = λ turn. program_numbered c.args.seed (8 * turn + (c.args.client - 1)) in
    record {
      words = c.advance.ensures ∙ ap (λ (g : Lcg). advance 64 multiplier_64 21 g) (c.next_draw-drawn.ensures.after ∙ ap (λ (g : Lcg). advance 64 multiplier_64 3 g) c.loop-turn.invariant.words)
          ∙ advance_both 3 21 (generator_at c.args.seed number) ∙ generator_later c.args.seed number 24 (8 * (c.loop-turn.turn + 1) + (c.args.client - 1)) (omega arith);
      programs = search (rules, map-range_with_len_more made 0 c.loop-turn.turn c.loop-turn.turn (omega arith), c.loop-turn.invariant.words, c.loop-turn.invariant.programs, c.next_draw-drawn.ensures.draw, c.in_ok-commands.ensures, c.in_ok-push.ensures.ok);
    }
