-- The positions that wait.
use Rattle.std.proofs.Common.{◌≡◌, ℕ, ◌+◌, ◌-◌, ◌<◌, [], ◌∷◌, ◌++◌, ap, ◌∙◌, append_assoc, arith}
use Rattle.std.specs.Prelude.{suc, codes, decimal}
use Rattle.hy_base.specs.Spelling.{Text, line}
use Rattle.hy_formats.specs.Texts.{waiting_text}

-- a position that waits is written before those past it
pub waits_go_on : (out : Text) (at count : ℕ) → at < count → (out ++ line (codes "at" ∷ decimal (at + 1) ∷ codes "waits" ∷ [])) ++ waiting_text (at + 1) (count - (at + 1)) ≡ out ++ waiting_text at (count - at)
waits_go_on out at count below =
    let first = line (codes "at" ∷ decimal (at + 1) ∷ codes "waits" ∷ []) in
    let one_more : suc (count - (at + 1)) ≡ count - at = omega arith in
    append_assoc out first (waiting_text (at + 1) (count - (at + 1))) ∙ ap (λ n. out ++ waiting_text at n) one_more
