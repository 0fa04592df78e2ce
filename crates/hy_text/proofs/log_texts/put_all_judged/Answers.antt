use Rattle.std.proofs.Common.{refl}
use Rattle.hy_formats.specs.Texts.{judged_text}
use Rattle.hy_text.proofs.Written.{numbered_written, all_numbered}
use Rattle.hy_text.proofs.log_texts.put_all_judged.Goals as goal

pub loop-at-preserved : goal.loop-at-preserved
loop-at-preserved c =
    numbered_written c.args.verdicts.now c.loop-at.at _ c.loop-at.out.items 1 judged_text _ _ c.put_judged.new.out.items c.loop-at-test.true refl c.in_ok-put_judged.ensures c.loop-at.invariant

pub returns : goal.returns
returns c = all_numbered c.args.verdicts.now c.loop-at.at _ c.loop-at.out.items 1 judged_text c.loop-at-test.false c.loop-at.invariant
