use Rattle.std.proofs.Common.{◌≡◌, ◌≤◌, ◌-◌, length}
use Rattle.std.specs.Io.KnownBytes.{Consumes}
use Rattle.hy_io.proofs.whole.read_all.Given as goal

abbrev pub invariant-loop-count : goal.invariant-loop-count
invariant-loop-count g l =
    record {
      read : Consumes (g.S.Source.left l.initial.source) (g.S.Source.left l.source) l.bytes.items;
      short : length l.bytes.items ≤ l.limit;
      count : g.S.Source.faults l.initial.source ≤ g.S.Source.faults l.source;
      size : length l.piece ≡ 16384;
    }

abbrev pub decreases-loop-count : goal.decreases-loop-count
decreases-loop-count g l = l.limit - length l.bytes.items
