use Rattle.std.proofs.Common.{◌≡◌, ◌++◌, flat_map, length, take}
use Rattle.hy_formats.specs.EntryFormat.{spelling}
use Rattle.hy_formats.specs.StreamFormat.{frame, stream_head}
use Rattle.hy_follow.proofs.shipping.write_stream.Given as goal

abbrev pub invariant-loop-count : goal.invariant-loop-count
invariant-loop-count l = (l.out.items ≡ stream_head l.fn.shape ++ flat_map (λ e. frame (spelling l.fn.shape.version e)) (take l.count l.fn.entries)) × (l.count-end ≡ length l.fn.entries)
