-- The dump and the stream of a log, an entry after another.
use Rattle.std.proofs.Common.{◌≡◌, ℕ, ◌+◌, arith, List, [], ◌∷◌, ◌++◌, length, sym, ap, ◌∙◌, append_assoc, append-nil}
use Rattle.std.specs.Prelude.{flat_map, Some, codes, decimal}
use Rattle.std.specs.List.{enumerate_from}
use Rattle.hy_base.specs.Spelling.{Text, line}
use Rattle.hy_base.specs.declared.record.EntryKind.{EntryKind}
use Rattle.hy_formats.specs.declared.header.Header.{Header}
use Rattle.hy_formats.specs.Texts.{dump_text, entry_text, from_words, shape_words}

-- the text of one more item, by its number
numbered_push : {X : Type 0} (f : ℕ × X → List ℕ) (n : ℕ) (xs : List X) (x : X) → flat_map f (enumerate_from n (xs ++ x ∷ [])) ≡ flat_map f (enumerate_from n xs) ++ f (n + length xs, x)
numbered_push f n [] x =
    let none : n ≡ n + 0 = omega arith in
    append-nil (f (n, x)) ∙ ap (λ m. f (m, x)) none
numbered_push f n (y ∷ ys) x =
    let next : n + 1 + length ys ≡ n + length (y ∷ ys) = omega arith in
    ap (λ l. f (n, y) ++ l) (numbered_push f (n + 1) ys x) ∙ sym (append_assoc (f (n, y)) (flat_map f (enumerate_from (n + 1) ys)) (f (n + 1 + length ys, x)))
    ∙ ap (λ m. (f (n, y) ++ flat_map f (enumerate_from (n + 1) ys)) ++ f (m, x)) next

pub entry_dumped : {X : Type 0} (f : ℕ × X → List ℕ) (from pos : ℕ) (xs : List X) (x : X) (start old new : List ℕ) → new ≡ old ++ f (pos, x)
    → old ≡ start ++ flat_map f (enumerate_from (from + 1) xs) → pos ≡ from + length xs + 1 → new ≡ start ++ flat_map f (enumerate_from (from + 1) (xs ++ x ∷ []))
entry_dumped f from pos xs x start old new put so_far at =
    let here : pos ≡ from + 1 + length xs = omega (arith, at) in
    put ∙ ap (λ o. o ++ f (pos, x)) so_far ∙ append_assoc start (flat_map f (enumerate_from (from + 1) xs)) (f (pos, x))
    ∙ ap (λ m. start ++ (flat_map f (enumerate_from (from + 1) xs) ++ f (m, x))) here ∙ ap (λ l. start ++ l) (sym (numbered_push f (from + 1) xs x))

abbrev pub first_line : Header → ℕ → Text
first_line h count = line (codes "log" ∷ shape_words h.shape ++ (from_words h.from ++ codes "entries" ∷ decimal count ∷ []))

abbrev dump_with : Header → ℕ → List EntryKind → Text
dump_with h count entries = first_line h count ++ flat_map (entry_text h.shape.version) (enumerate_from (h.from + 1) entries)

-- the first line, and the lines of the entries behind it
pub whole_dump : (h asked : Header) (entries : List EntryKind) (count : ℕ) (head text : Text) → asked ≡ h → head ≡ first_line asked count → count ≡ length entries
    → text ≡ head ++ flat_map (entry_text asked.shape.version) (enumerate_from (asked.from + 1) entries) → text ≡ dump_text (Some h) entries
whole_dump h asked entries count head text same first all is =
    is ∙ ap (λ t. t ++ flat_map (entry_text asked.shape.version) (enumerate_from (asked.from + 1) entries)) first ∙ ap (λ n. dump_with asked n entries) all ∙ ap (λ (x : Header). dump_with x (length entries) entries) same
