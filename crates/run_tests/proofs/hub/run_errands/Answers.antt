-- An errand may cross threads where its device may, and threads may share the hub.
use mathlib.Core.Bool.{true}
use denote.RattleType.{RattleType}
use denote.Param.Send.{IsSend, sendable, arg_sync, param_sync}
use denote.Param.SendFields.{declared_send}
use Rattle.std.proofs.Crossing.{sync}
use Rattle.hy_disk.specs.declared.Disk.{Ghosts}
use Rattle.hy_hub.specs.declared.since.Since.{Ghosts as SinceGhosts}
use Rattle.run_tests.specs.contracts.hub.Errand as errand
use Rattle.hy_hub.proofs.Sending.{hub_sync, pass_send}
use Rattle.run_tests.proofs.hub.run_errands.Lts as lts
use Rattle.run_tests.proofs.hub.run_errands.Goals as goal
use Rattle.run_tests.proofs.Crossing.{three_sync}

errand_send : (D B : RattleType) (g : Ghosts D.Denot) (h : SinceGhosts B.Denot) → IsSend D → IsSend B → IsSend (errand.the_row D B g h)
errand_send D B g h d b = declared_send (errand.the_type D B g h) (search sendable, (pass_send D B g h d b, (search sendable, tt)))

pub for_each_mut-requires-send-T : goal.for_each_mut-requires-send-T
for_each_mut-requires-send-T g c κs within = search (errand_send, sendable) depth 20

pub for_each_mut-requires-sync-F : goal.for_each_mut-requires-sync-F
for_each_mut-requires-sync-F g c κs within = param_sync 2 (lts.arg-0-2 g.row.D g.row.B g.row.R g.D.laws g.B.laws g.R.laws g.D.Disk g.D.Disk-dict g.B.Since g.B.Since-dict g.R.Threads g.R.Threads-dict g.R.Wait g.R.Wait-dict κs)
    (arg_sync _ (λ _. true) _ (three_sync c.type_bounds.sync-R sync (hub_sync _ _ g.D.Disk g.B.Since c.type_bounds.send-D c.type_bounds.send-B)))
