use Rattle.std.proofs.Common.{[], ◌∷◌, refl}
use Rattle.std.specs.Prelude.{codes, decimal}
use Rattle.hy_base.specs.Spelling.{line}
use Rattle.hy_text.proofs.Written.{item_written, items_written}
use Rattle.hy_text.proofs.texts.put_ids.Goals as goal

pub loop-row-preserved : goal.loop-row-preserved
loop-row-preserved c =
    item_written c.args.ids.now c.loop-row.row-index _ c.loop-row.out.items (λ row. line (codes "id" ∷ decimal row ∷ [])) _ _ c.put_id.new.out.items c.loop-row-test.true refl c.in_ok-put_id.ensures c.loop-row.invariant

pub returns : goal.returns
returns c = items_written c.args.ids.now c.loop-row.row-index _ c.loop-row.out.items (λ row. line (codes "id" ∷ decimal row ∷ [])) c.loop-row-test.false c.loop-row.invariant
