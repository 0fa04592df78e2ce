use Rattle.std.proofs.Common.{◌≡◌, ◌++◌, drop}
use Rattle.std.specs.Prelude.{flat_map}
use Rattle.hy_base.specs.Spelling.{event_words, line}
use Rattle.hy_text.proofs.texts.put_events.Given as goal

-- what was written so far, and what is left
abbrev pub invariant-loop-event : goal.invariant-loop-event
invariant-loop-event l = l.out.items ++ flat_map (λ event. line (event_words event)) (drop l.event-index l.events) ≡ l.initial.out.items ++ flat_map (λ event. line (event_words event)) l.events
