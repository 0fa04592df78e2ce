use Rattle.hy_run.proofs.TableLooks.{room_of}
use Rattle.hy_run.proofs.run_opening.fault_of.Goals as goal

pub opening_fault-requires-clause-room : goal.opening_fault-requires-clause-room
opening_fault-requires-clause-room g c κs within =
    room_of c.args.script.now.shape c.args.restarted.now.roller c.args.from c.at.result c.args.restarted.now.entries.items c.deref.result.now c.waiting-waits.result.now c.shape.ensures.script.shape c.requires.shape c.requires.at c.requires.within c.at.ensures c.deref.ensures.value c.waiting-waits.ensures
