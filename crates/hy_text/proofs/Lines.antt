-- The words of a line that is written.
use Rattle.std.proofs.Common.{◌≡◌, List, [], ◌∷◌, ◌++◌, sym, ap, ◌∙◌, append_assoc, append-nil}
use Rattle.std.specs.List.{join_with_byte}
use Rattle.std.proofs.lemmas.Grind.{flat_map-append}
use Rattle.hy_base.specs.Spelling.{Text, line}
use Rattle.hy_text.specs.LineWords.{spaced}

joined : (first : Text) (words : List Text) → join_with_byte 32 (first ∷ words) ≡ first ++ spaced words
unfolding spaced
joined first [] = sym (append-nil first)
joined first (word ∷ words) = ap (λ rest. first ++ 32 ∷ rest) (joined word words)

-- a line is its first word, and each other after a space
pub line_is : (out first : Text) (words : List Text) → ((out ++ first) ++ spaced words) ++ 10 ∷ [] ≡ out ++ line (first ∷ words)
line_is out first words = simp append_assoc (sym (ap (λ text. out ++ (text ++ 10 ∷ [])) (joined first words) ∙ simp append_assoc))

both : (words more : List Text) → spaced (words ++ more) ≡ spaced words ++ spaced more
unfolding spaced
both words more = flat_map-append (λ (word : Text). 32 ∷ word) words more

-- words are written in two parts
pub in_two : (out some all : Text) (words more : List Text) → some ≡ out ++ spaced words → all ≡ some ++ spaced more → all ≡ out ++ spaced (words ++ more)
in_two out some all words more first rest = rest ∙ (ap (λ text. text ++ spaced more) first ∙ (append_assoc out (spaced words) (spaced more) ∙ ap (λ text. out ++ text) (sym (both words more))))

-- a line is written: its first word, the others, and its end
pub line_put : (out first begun put ended : Text) (words : List Text) → begun ≡ out ++ first → put ≡ begun ++ spaced words → ended ≡ put ++ 10 ∷ [] → ended ≡ out ++ line (first ∷ words)
line_put out first begun put ended words begins puts ends =
    ends ∙ (ap (λ text. text ++ 10 ∷ []) (puts ∙ ap (λ text. text ++ spaced words) begins) ∙ line_is out first words)
