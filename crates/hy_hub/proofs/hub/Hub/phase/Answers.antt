use Rattle.hy_hub.specs.Holds.{PhaseDoes}
use Rattle.hy_hub.proofs.Passing.{turned, goes_on, declared_more}
use Rattle.hy_hub.proofs.Says.{nothing}
use Rattle.hy_hub.proofs.hub.Hub.phase.Goals as goal

pub phase-phase-requires : goal.phase-phase-requires
phase-phase-requires g c = rw c.hold-contents.ensures.list (record { client = declared_more c.args.client _ _ c.hold-contents.ensures.grown c.requires.client })

pub give-requires-clause-more : goal.give-requires-clause-more
give-requires-clause-more g c = goes_on c.hold-contents.new.pass _ _ _ c.hold-contents.ensures.list (nothing _ (PhaseDoes g.B.Since.version c.args.client c.phase-phase.result) c.phase-phase.ensures.phase)

pub returns-clause-turn : goal.returns-clause-turn
returns-clause-turn g c =
    let h = c.hold-contents.ensures in
    let p = c.give.ensures in
    turned c.args.self.now.parts c.args.pass.now c.hold-contents.new.pass c.give.new.pass _ _ _ h.list h.grown (rw (← c.self.view_is) h.whole) h.made p.seen p.told p.made p.no_lift (nothing _ (PhaseDoes g.B.Since.version c.args.client c.phase-phase.result) c.phase-phase.ensures.phase)
