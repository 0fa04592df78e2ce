use Rattle.hy_formats.specs.Texts.{row_text}
use Rattle.hy_text.proofs.Written.{item_written, items_written}
use Rattle.hy_text.proofs.texts.put_rows.Goals as goal

pub loop-row-preserved : goal.loop-row-preserved
loop-row-preserved c =
    item_written c.args.rows.now c.loop-row.row-index _ c.loop-row.out.items row_text _ c.row-item.result c.put_row.new.out.items c.loop-row-test.true c.row-item.is c.in_ok-put_row.ensures c.loop-row.invariant

pub returns : goal.returns
returns c = items_written c.args.rows.now c.loop-row.row-index _ c.loop-row.out.items row_text c.loop-row-test.false c.loop-row.invariant
