use Rattle.std.proofs.Common.{◌≡◌, ◌+◌, ◌-◌, ◌≤◌, List, drop, length}
use Rattle.hy_base.specs.declared.record.EntryKind.{EntryKind}
use Rattle.hy_formats.specs.LogFormat.{longest_record}
use Rattle.hy_log.specs.Looks.{IsLook}
use Rattle.hy_log.proofs.Looking.{looked}
use Rattle.hy_entries.specs.Listing.{IsReadSoFar}
use Rattle.hy_entries.specs.LogEntries.{IsSameLog}
use Rattle.hy_entries.proofs.listing.hand_over.Given as goal

abbrev pub invariant-loop-count : goal.invariant-loop-count
invariant-loop-count g l =
    ((entries : List EntryKind) × IsReadSoFar g.D.Disk.tells l.fn.log.shape l.fn.after (drop (l.fn.after - l.fn.log.from) l.fn.log.bodies) entries l.count × g.R.Receiver.took l.fn.receiver l.receiver l.fn.after entries)
    × (length l.buffer ≡ longest_record)
    × (l.fn.after + l.count-end ≡ l.fn.log.from + length l.fn.log.bodies)
    × IsSameLog l.fn.log l.log
    × IsLook g.D.Disk.content g.D.Disk.moment g.D.Disk.left_since g.D.Disk.faults_of g.D.Disk.has_room l.fn.log.disk l.log.disk looked
    × (l.fn.log.from + length l.fn.log.bodies ≤ l.fn.log.shape.cap)
    × g.R.Receiver.fits l.receiver l.fn.log.shape.version
