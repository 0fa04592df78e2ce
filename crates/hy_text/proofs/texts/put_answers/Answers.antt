use Rattle.hy_formats.specs.Texts.{answer_text}
use Rattle.hy_text.proofs.Written.{item_written, items_written}
use Rattle.hy_text.proofs.texts.put_answers.Goals as goal

pub loop-answer-preserved : goal.loop-answer-preserved
loop-answer-preserved c =
    item_written c.args.answers.now c.loop-answer.answer-index _ c.loop-answer.out.items answer_text _ c.answer-item.result c.put_answer.new.out.items c.loop-answer-test.true c.answer-item.is c.in_ok-put_answer.ensures c.loop-answer.invariant

pub returns : goal.returns
returns c = items_written c.args.answers.now c.loop-answer.answer-index _ c.loop-answer.out.items answer_text c.loop-answer-test.false c.loop-answer.invariant
