use Rattle.std.proofs.Common.{◌≡◌, ◌-◌, length, map, take}
use Rattle.hy_formats.specs.EntryFormat.{spelling}
use Rattle.hy_compact.proofs.copying.add_batch.Given as goal

abbrev pub invariant-loop-count : goal.invariant-loop-count
invariant-loop-count g l = (l.spare ≡ record l.fn.spare { batch = map (spelling l.fn.spare.shape.version) (take l.count l.fn.entries); spare = l.fn.spare.spare - l.count }) × (l.count-end ≡ length l.fn.entries)
