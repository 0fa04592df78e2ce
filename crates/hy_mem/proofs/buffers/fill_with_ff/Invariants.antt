use Rattle.std.proofs.Common.{◌≡◌, length, drop, vec_capacity}
use Rattle.hy_disk.specs.Stops.{ff_filled}
use Rattle.hy_mem.proofs.buffers.fill_with_ff.Given as goal

abbrev pub invariant-loop-place : goal.invariant-loop-place
invariant-loop-place l =
    record {
      filled : ff_filled l.bytes.items (drop l.place-index l.ranges) ≡ ff_filled l.initial.bytes.items l.ranges;
      len : length l.bytes.items ≡ length l.initial.bytes.items;
      capacity : vec_capacity l.bytes ≡ vec_capacity l.initial.bytes;
    }
