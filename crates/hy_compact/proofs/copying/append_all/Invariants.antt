use Rattle.std.proofs.Common.{◌≡◌, ◌+◌, ◌++◌, ◌≤◌, [], List, length, map, None, IsTrue}
use Rattle.hy_base.specs.declared.record.EntryKind.{EntryKind}
use Rattle.hy_disk.specs.Content.{settled}
use Rattle.hy_disk.specs.Moments.{LeavesOnly}
use Rattle.hy_formats.specs.EntryFormat.{spelling}
use Rattle.hy_formats.specs.LogDevice.{Holds}
use Rattle.hy_log.specs.View.{header_of}
use Rattle.hy_compact.specs.Compaction.{HoldsFirst}
use Rattle.hy_compact.proofs.copying.append_all.Given as goal

-- these are appended, and the rest is left
abbrev pub invariant-loop-rest : goal.invariant-loop-rest
invariant-loop-rest g l =
    (done : List EntryKind) × (done ++ l.rest ≡ l.fn.entries)
    × (length l.spare.bodies ≡ length done)
    × (l.spare.batch ≡ [])
    × (l.spare.stopped ≡ None)
    × (header_of l.spare ≡ header_of l.fn.spare)
    × (l.fn.spare.spare ≤ l.spare.spare + length done)
    × (g.D.Disk.faults_of l.fn.spare.disk ≤ g.D.Disk.faults_of l.spare.disk)
    × (IsTrue g.D.Disk.tells → (l.spare.bodies ≡ map (spelling l.fn.spare.shape.version) done) × (g.D.Disk.content l.spare.disk ≡ settled (g.D.Disk.content l.spare.disk).seen) × Holds (header_of l.spare) l.spare.bodies (g.D.Disk.content l.spare.disk).seen
    × LeavesOnly g.D.Disk.moment g.D.Disk.left_since l.fn.spare.disk l.spare.disk (HoldsFirst (header_of l.fn.spare) l.fn.entries))

abbrev pub decreases-loop-rest : goal.decreases-loop-rest
decreases-loop-rest g l = length l.rest
