use Rattle.std.proofs.Common.{◌≡◌, ◌-◌, ◌≤◌, length, take, reverse, vec_capacity}
use Rattle.hy_mem.specs.Undo.{covered_total, restored}
use Rattle.hy_mem.proofs.buffers.restore.Given as goal

abbrev pub invariant-loop-step : goal.invariant-loop-step
invariant-loop-step l =
    record {
      total : covered_total (length l.fn.bytes.items) (reverse (take (length l.ranges - l.step) l.ranges)) ≡ l.end;
      fits : l.end ≤ length l.covered;
      left : restored (length l.fn.bytes.items) l.bytes.items (reverse (take (length l.ranges - l.step) l.ranges)) (take l.end l.covered) ≡ restored (length l.fn.bytes.items) l.fn.bytes.items (reverse l.ranges) l.covered;
      len : length l.bytes.items ≡ length l.fn.bytes.items;
      capacity : vec_capacity l.bytes ≡ vec_capacity l.fn.bytes;
    }
