use Rattle.std.proofs.Common.{◌≤◌, ◌-◌, length, take}
use Rattle.std.specs.Io.KnownBytes.{Consumes}
use Rattle.hy_file.proofs.preallocated.fill.Given as goal

-- the buffer begins with what was read so far
abbrev pub invariant-loop-count : goal.invariant-loop-count
invariant-loop-count g l =
    record {
      read : Consumes (g.F.Read.remaining l.initial.file) (g.F.Read.remaining l.file) (take l.count l.into);
      within : l.count ≤ length l.into;
    }

abbrev pub decreases-loop-count : goal.decreases-loop-count
decreases-loop-count g l = length l.into - l.count
