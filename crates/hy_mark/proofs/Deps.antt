-- What marks know of a key.
use Rattle.std.proofs.Common.{◌≡◌, ℕ, min, max, Bool, true, false, List, [], ◌∷◌, ◌++◌, Option, Some, None, inl, inr, refl, sym, ap, ◌∙◌, arith}
use Rattle.std.specs.Prelude.{option_map, map}
use Rattle.std.proofs.lemmas.Bool.{cases_Bool}
use Rattle.hy_base.specs.declared.record.Mark.{Mark}
use Rattle.hy_base.specs.Entry.{is_in_span}
use Rattle.hy_base.specs.Marks.{lesser, dep}
use Rattle.hy_base.proofs.MarkLemmas.{lesser_none, lesser_comm, lesser_assoc}
use Rattle.hy_mark.specs.Orders.{known_if}

pub dep_cons : (m : Mark) (ms : List Mark) (key : ℕ) → dep (m ∷ ms) key ≡ lesser (known_if m.dependency (is_in_span key m.block)) (dep ms key)
dep_cons m ms key = elim (cases_Bool (is_in_span key m.block)) [ inl t ↦ rw t refl | inr t ↦ rw t refl ]

pub dep_one : (m : Mark) (key : ℕ) → dep (m ∷ []) key ≡ known_if m.dependency (is_in_span key m.block)
dep_one m key = dep_cons m [] key ∙ lesser_none (known_if m.dependency (is_in_span key m.block))

pub dep_first : (m : Mark) (ms : List Mark) (key : ℕ) → dep (m ∷ ms) key ≡ lesser (dep (m ∷ []) key) (dep ms key)
dep_first m ms key = dep_cons m ms key ∙ ap (λ o. lesser o (dep ms key)) (sym (dep_one m key))

pub dep_append : (xs ys : List Mark) (key : ℕ) → dep (xs ++ ys) key ≡ lesser (dep xs key) (dep ys key)
dep_append [] ys key = refl
dep_append (x ∷ xs) ys key =
    dep_first x (xs ++ ys) key
    ∙ (ap (lesser (dep (x ∷ []) key)) (dep_append xs ys key)
    ∙ (sym (lesser_assoc (dep (x ∷ []) key) (dep xs key) (dep ys key)) ∙ ap (λ o. lesser o (dep ys key)) (sym (dep_first x xs key))))

pub dep_last : (xs : List Mark) (m : Mark) (key : ℕ) → dep (xs ++ m ∷ []) key ≡ dep (m ∷ xs) key
dep_last xs m key = dep_append xs (m ∷ []) key ∙ (lesser_comm (dep xs key) (dep (m ∷ []) key) ∙ sym (dep_first m xs key))

-- two marks of one block
pub dep_min : (m n : Mark) (key : ℕ) → n.block ≡ m.block → lesser (dep (m ∷ []) key) (dep (n ∷ []) key) ≡ dep (record { block = m.block; dependency = min m.dependency n.dependency } ∷ []) key
dep_min m n key e =
    rw e
    (elim (cases_Bool (is_in_span key m.block)) [ inl t ↦ rw t refl | inr t ↦ rw t refl ])

-- ---- raised

abbrev pub raise : ℕ → Mark → Mark
raise base m = record { block = m.block; dependency = max m.dependency base }

abbrev pub raise_known : ℕ → Option ℕ → Option ℕ
raise_known base o = option_map (λ d. max d base) o

raise_lesser : (base : ℕ) (a b : Option ℕ) → raise_known base (lesser a b) ≡ lesser (raise_known base a) (raise_known base b)
raise_lesser base None b = refl
raise_lesser base (Some a) None = refl
raise_lesser base (Some a) (Some b) = ap Some (omega arith)

raise_if : (base d : ℕ) (b : Bool) → known_if (max d base) b ≡ raise_known base (known_if d b)
raise_if base d true = refl
raise_if base d false = refl

pub dep_raised : (base : ℕ) (ms : List Mark) (key : ℕ) → dep (map (raise base) ms) key ≡ raise_known base (dep ms key)
dep_raised base [] key = refl
dep_raised base (m ∷ ms) key =
    dep_cons (raise base m) (map (raise base) ms) key
    ∙ (ap (lesser (known_if (max m.dependency base) (is_in_span key m.block))) (dep_raised base ms key)
    ∙ (ap (λ o. lesser o (raise_known base (dep ms key))) (raise_if base m.dependency (is_in_span key m.block))
    ∙ (sym (raise_lesser base (known_if m.dependency (is_in_span key m.block)) (dep ms key)) ∙ ap (raise_known base) (sym (dep_cons m ms key)))))
