use Rattle.std.proofs.Common.{refl}
use Rattle.hy_base.specs.Spelling.{event_words, line}
use Rattle.hy_text.proofs.Written.{item_written, items_written}
use Rattle.hy_text.proofs.texts.put_events.Goals as goal

pub loop-event-preserved : goal.loop-event-preserved
loop-event-preserved c =
    item_written c.args.events.now c.loop-event.event-index _ c.loop-event.out.items (λ event. line (event_words event)) _ _ c.put_event.new.out.items c.loop-event-test.true refl c.in_ok-put_event.ensures c.loop-event.invariant

pub returns : goal.returns
returns c = items_written c.args.events.now c.loop-event.event-index _ c.loop-event.out.items (λ event. line (event_words event)) c.loop-event-test.false c.loop-event.invariant
