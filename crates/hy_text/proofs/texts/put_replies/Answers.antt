use Rattle.hy_formats.specs.Texts.{reply_text}
use Rattle.hy_text.proofs.Written.{numbered_written, all_numbered}
use Rattle.hy_text.proofs.texts.put_replies.Goals as goal

pub loop-at-preserved : goal.loop-at-preserved
loop-at-preserved c =
    numbered_written c.args.replies.now c.loop-at.at _ c.loop-at.out.items 1 (reply_text c.args.client) _ c.index-replies-at.result c.put_reply.new.out.items c.loop-at-test.true c.index-replies-at.is c.in_ok-put_reply.ensures c.loop-at.invariant

pub returns : goal.returns
returns c = all_numbered c.args.replies.now c.loop-at.at _ c.loop-at.out.items 1 (reply_text c.args.client) c.loop-at-test.false c.loop-at.invariant
