-- Tombstones that are left out change nothing of what has a value.
use Rattle.std.proofs.Common.{◌≡◌, ◌∙◌, ℕ, Bool, true, false, List, [], ◌∷◌, refl, ap, inl, inr}
use Rattle.std.specs.Prelude.{Option, Some, None, is_some}
use Rattle.std.proofs.lemmas.Bool.{cases_Bool}
use Rattle.hy_base.specs.declared.record.Row.{Row}
use Rattle.hy_base.specs.Rows.{is_purgeable, purged}
use Rattle.hy_base.proofs.PurgeLemmas.{purgeable_is}
use Rattle.hy_rules.specs.History.{live_rows, pairs_of}

live_case : (r : Row) (xs ys : List Row) (b : Bool) → is_some r.value ≡ b → live_rows xs ≡ live_rows ys → live_rows (r ∷ xs) ≡ live_rows (r ∷ ys)
live_case r xs ys true e h = rw e (ap (λ l. r ∷ l) h)
live_case r xs ys false e h = rw e h

pub live_purged : (line : ℕ) (rows : List Row) → live_rows (purged line rows) ≡ live_rows rows
live_purged line [] = refl
live_purged line (r ∷ rs) =
    elim (cases_Bool (is_purgeable line r)) [
      | inl t ↦ rw t (live_purged line rs ∙ dead (purgeable_is line r t).0)
      | inr t ↦ rw t (live_case r (purged line rs) rs (is_some r.value) refl (live_purged line rs))
    ]
  where
    dead : r.value ≡ None → live_rows rs ≡ live_rows (r ∷ rs)
    dead e = rw e refl

pair_case : (r : Row) (xs ys : List Row) (o : Option (List ℕ)) → r.value ≡ o → pairs_of xs ≡ pairs_of ys → pairs_of (r ∷ xs) ≡ pairs_of (r ∷ ys)
pair_case r xs ys None e h = rw e h
pair_case r xs ys (Some v) e h = rw e (ap (λ l. record { key = r.key; value = v } ∷ l) h)

pub pairs_purged : (line : ℕ) (rows : List Row) → pairs_of (purged line rows) ≡ pairs_of rows
pairs_purged line [] = refl
pairs_purged line (r ∷ rs) =
    elim (cases_Bool (is_purgeable line r)) [
      | inl t ↦ rw t (pairs_purged line rs ∙ dead (purgeable_is line r t).0)
      | inr t ↦ rw t (pair_case r (purged line rs) rs r.value refl (pairs_purged line rs))
    ]
  where
    dead : r.value ≡ None → pairs_of rs ≡ pairs_of (r ∷ rs)
    dead e = rw e refl
