use Rattle.std.proofs.Common.{[], ◌∷◌}
use Rattle.std.specs.Prelude.{codes, decimal}
use Rattle.hy_base.specs.Spelling.{line}
use Rattle.hy_text.proofs.Written.{item_written, items_written}
use Rattle.hy_text.proofs.texts.put_pairs.Goals as goal

pub loop-pair-preserved : goal.loop-pair-preserved
loop-pair-preserved c =
    item_written c.args.pairs.now c.loop-pair.pair-index _ c.loop-pair.out.items (λ p. line (codes "pair" ∷ decimal p.key ∷ p.value ∷ [])) _ c.pair-item.result c.put_pair.new.out.items c.loop-pair-test.true c.pair-item.is c.in_ok-put_pair.ensures c.loop-pair.invariant

pub returns : goal.returns
returns c = items_written c.args.pairs.now c.loop-pair.pair-index _ c.loop-pair.out.items (λ p. line (codes "pair" ∷ decimal p.key ∷ p.value ∷ [])) c.loop-pair-test.false c.loop-pair.invariant
