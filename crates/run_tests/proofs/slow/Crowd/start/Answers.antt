-- A side may go to another thread.
use mathlib.Core.Bool.{true}
use denote.Param.Send.{IsSend, sendable, arg_send, param_send}
use denote.Param.SendFields.{declared_send, variants_send}
use Rattle.std.proofs.Crossing.{crosses, send}
use Rattle.hy_base.proofs.layout.Shape.TheSendSync as shape
use Rattle.hy_hub.proofs.Sending.{hub_sync, pass_send}
use Rattle.run_tests.specs.contracts.slow.Side as side
use Rattle.run_tests.specs.contracts.slow_disk.SlowDisk.{the_row as slow_row}
use Rattle.run_tests.proofs.slow_disk.SlowDisk.TheSendSync as slow
use Rattle.run_tests.proofs.Crossing.{hub_send, two_send}
use Rattle.run_tests.proofs.slow.Crowd.start.Lts as lts
use Rattle.run_tests.proofs.slow.Crowd.start.Goals as goal

slow_send : IsSend slow_row
slow_send = search (slow.the_send, crosses, sendable) depth 20

side_send : IsSend side.the_row
side_send = declared_send side.the_type (send, (search (hub_send, hub_sync, slow_send, crosses, sendable) depth 20, (search (pass_send, slow_send, crosses, sendable) depth 20, (search (crosses, sendable) depth 20, (search (variants_send, sendable) depth 20, (search sendable, (search sendable, (shape.the_send, tt))))))))

pub spawn-requires-send-F : goal.spawn-requires-send-F
spawn-requires-send-F g c κs within = param_send 1 (lts.arg-8-1 g.row.R g.R.laws g.R.copy g.R.Threads-dict g.R.Wait-dict g.R.Clone-dict κs)
    (arg_send _ (λ _. true) _ (two_send side_send c.type_bounds.send-R))
