use Rattle.std.proofs.Common.{◌+◌}
use Rattle.hy_formats.specs.Texts.{entry_text}
use Rattle.hy_text.proofs.Written.{numbered_written, all_numbered}
use Rattle.hy_text.proofs.log_texts.put_entries.Goals as goal

pub loop-at-preserved : goal.loop-at-preserved
loop-at-preserved c =
    numbered_written c.args.entries.now c.loop-at.at _ c.loop-at.out.items (c.args.from + 1) (entry_text c.args.version) _ c.index-entries-at.result c.put_entry.new.out.items c.loop-at-test.true c.index-entries-at.is c.in_ok-put_entry.ensures c.loop-at.invariant

pub returns : goal.returns
returns c = all_numbered c.args.entries.now c.loop-at.at _ c.loop-at.out.items (c.args.from + 1) (entry_text c.args.version) c.loop-at-test.false c.loop-at.invariant
