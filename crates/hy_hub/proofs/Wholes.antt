-- The log of which the first entries were cut, with fillers in their place, and with others.
use Rattle.std.proofs.Common.{◌≡◌, ℕ, zero, suc, ◌+◌, ◌-◌, ◌≤◌, List, [], ◌∷◌, ◌++◌, length, take, drop, replicate, refl, ap, sym, ◌∙◌, subst, arith, append_assoc, length-append}
use Rattle.std.specs.List.{AllByRecursion}
use Rattle.std.proofs.lemmas.List.{length-replicate, take-append-le}
use Rattle.std.proofs.lemmas.Slice.{drop-append-drop}
use Rattle.std.proofs.Math.Seq.{drop-append-add}
use Rattle.hy_base.specs.declared.layout.Shape.{Shape}
use Rattle.hy_base.specs.declared.record.EntryKind.{EntryKind}
use Rattle.hy_base.specs.declared.record.EntryKind.TheVariants.{Filler}
use Rattle.hy_base.specs.Entry.{IsSoundEntry}
use Rattle.hy_base.specs.Log.{IsLawful, HaveLawfulSnaps}
use Rattle.hy_rules.specs.CutLogs.{AreLawfulPast, filled, starting_with}

pub length_filled : (from : ℕ) (es : List EntryKind) → length (filled from es) ≡ from + length es
length_filled from es = length-append (replicate from (Filler 1)) es ∙ ap (λ n. n + length es) (length-replicate from (Filler 1))

pub filled_more : (from : ℕ) (es more : List EntryKind) → filled from es ++ more ≡ filled from (es ++ more)
filled_more from es more = append_assoc (replicate from (Filler 1)) es more

-- the entries past the cut, and those past a later position
pub drop_filled : (from : ℕ) (es : List EntryKind) → drop from (filled from es) ≡ es
drop_filled zero es = refl
drop_filled (suc from) es = drop_filled from es

pub drop_later : (from k : ℕ) (es : List EntryKind) → from ≤ k → drop k (filled from es) ≡ drop (k - from) es
drop_later from k es past =
    let at : k ≡ length (replicate from (Filler 1)) + (k - from) = omega (arith, past, length-replicate from (Filler 1)) in
    ap (λ n. drop n (filled from es)) at ∙ drop-append-add (replicate from (Filler 1)) es (k - from)

pub part_later : (from at upto : ℕ) (es : List EntryKind) → from ≤ at → at ≤ upto → take (upto - from - (at - from)) (drop (at - from) es) ≡ take (upto - at) (drop at (filled from es))
part_later from at upto es past within =
    let same : upto - from - (at - from) ≡ upto - at = omega (arith, past, within) in
    (λ i. take (same i) (sym (drop_later from at es past) i))

-- of two such logs the entries are the same
pub filled_same : (from : ℕ) (xs ys : List EntryKind) → filled from xs ≡ filled from ys → xs ≡ ys
filled_same from xs ys same = sym (drop_filled from xs) ∙ ap (drop from) same ∙ drop_filled from ys

-- fillers have no snapshots
snaps_filled : (s : Shape) (pos from : ℕ) (es : List EntryKind) → HaveLawfulSnaps s (pos + from) es → HaveLawfulSnaps s pos (filled from es)
snaps_filled s pos zero es snaps = subst (λ n. HaveLawfulSnaps s n es) (omega arith) snaps
snaps_filled s pos (suc from) es snaps = (tt, snaps_filled s (pos + 1) from es (subst (λ n. HaveLawfulSnaps s n es) (omega arith) snaps))

snaps_past : (s : Shape) (pos from : ℕ) (es : List EntryKind) → HaveLawfulSnaps s pos (filled from es) → HaveLawfulSnaps s (pos + from) es
snaps_past s pos zero es snaps = subst (λ n. HaveLawfulSnaps s n es) (omega arith) snaps
snaps_past s pos (suc from) es snaps = subst (λ n. HaveLawfulSnaps s n es) (omega arith) (snaps_past s (pos + 1) from es snaps.1)

pub lawful_filled : (s : Shape) (from : ℕ) (es : List EntryKind) → AreLawfulPast s from es → IsLawful s (filled from es)
lawful_filled s from es law = record { capacity = let most = law.capacity in omega (arith, most, length_filled from es); snaps = snaps_filled s 0 from es (subst (λ n. HaveLawfulSnaps s n es) (omega arith) law.snaps) }

pub lawful_past : (s : Shape) (from : ℕ) (es : List EntryKind) → IsLawful s (filled from es) → AreLawfulPast s from es
lawful_past s from es law = record { capacity = let most = law.capacity in omega (arith, most, length_filled from es); snaps = subst (λ n. HaveLawfulSnaps s n es) (omega arith) (snaps_past s 0 from es law.snaps) }

pub sound_filled : (version from : ℕ) (es : List EntryKind) → AllByRecursion (IsSoundEntry version) es → AllByRecursion (IsSoundEntry version) (filled from es)
sound_filled version zero es all = all
sound_filled version (suc from) es all = ((record { at_least = omega arith; at_most = omega arith }, tt), sound_filled version from es all)

-- as the log goes on, what stands first in it stays
pub started_front : (n : ℕ) (before log more : List EntryKind) → n ≤ length log → take n (starting_with before (log ++ more)) ≡ take n (starting_with before log)
started_front zero before log more within = refl
started_front (suc n) [] log more within = take-append-le (suc n) log more within
started_front (suc n) (b ∷ before) [] more within = absurd (omega (arith, within))
started_front (suc n) (b ∷ before) (x ∷ log) more within = ap (λ l. b ∷ l) (started_front n before log more (omega (arith, within)))

-- past these it is the same
pub started_past : (k : ℕ) (before log : List EntryKind) → length before ≤ k → drop k (starting_with before log) ≡ drop k log
started_past k before log past = drop-append-drop (length before) log before k past refl
