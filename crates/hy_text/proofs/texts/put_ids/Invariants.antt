use Rattle.std.proofs.Common.{◌≡◌, ◌++◌, drop, [], ◌∷◌}
use Rattle.std.specs.Prelude.{flat_map, codes, decimal}
use Rattle.hy_base.specs.Spelling.{line}
use Rattle.hy_text.proofs.texts.put_ids.Given as goal

-- what was written so far, and what is left
abbrev pub invariant-loop-row : goal.invariant-loop-row
invariant-loop-row l = l.out.items ++ flat_map (λ row. line (codes "id" ∷ decimal row ∷ [])) (drop l.row-index l.ids) ≡ l.initial.out.items ++ flat_map (λ row. line (codes "id" ∷ decimal row ∷ [])) l.ids
