use Rattle.std.proofs.Common.{◌≡◌, ◌++◌, drop, [], ◌∷◌}
use Rattle.std.specs.Prelude.{flat_map, codes, decimal}
use Rattle.hy_base.specs.Spelling.{line}
use Rattle.hy_text.proofs.texts.put_pairs.Given as goal

-- what was written so far, and what is left
abbrev pub invariant-loop-pair : goal.invariant-loop-pair
invariant-loop-pair l = l.out.items ++ flat_map (λ p. line (codes "pair" ∷ decimal p.key ∷ p.value ∷ [])) (drop l.pair-index l.pairs) ≡ l.initial.out.items ++ flat_map (λ p. line (codes "pair" ∷ decimal p.key ∷ p.value ∷ [])) l.pairs
