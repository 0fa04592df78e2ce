use Rattle.std.proofs.Common.{◌≡◌, map, take}
use Rattle.hy_cli.proofs.parsing.texts_of.Given as goal

abbrev pub invariant-loop-at : goal.invariant-loop-at
invariant-loop-at l = map (λ t. t.now) l.texts.items ≡ take l.at l.words
