use Rattle.std.proofs.Common.{◌≡◌, ◌++◌, flat_map, take}
use Rattle.hy_roller.proofs.verdicts.add_blocks.Given as goal

abbrev pub invariant-loop-block : goal.invariant-loop-block
invariant-loop-block l = l.all.items ≡ l.fn.all.items ++ flat_map (λ block. block) (take l.block-index l.fn.blocks)
