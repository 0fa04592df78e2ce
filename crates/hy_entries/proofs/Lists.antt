-- Entries that are read one after the other.
use Rattle.std.proofs.Common.{◌≡◌, ℕ, zero, suc, ◌+◌, ◌≤◌, Bool, IsTrue, List, [], ◌∷◌, ◌++◌, length, map, take, drop, refl, sym, ◌∙◌, ap, subst, arith, append_assoc, append-nil, length-append}
use Rattle.std.specs.Prelude.{Some, Result, Ok, Err}
use Rattle.std.specs.List.{AllByRecursion}
use Rattle.std.proofs.lemmas.List.{map_push}
use Rattle.hy_base.specs.declared.layout.Shape.{Shape}
use Rattle.hy_base.specs.declared.record.EntryKind.{EntryKind}
use Rattle.hy_base.specs.Lists.{nth}
use Rattle.hy_base.proofs.NthLemmas.{nth_some}
use Rattle.hy_base.specs.Log.{HasLawfulSnap}
use Rattle.hy_formats.specs.declared.damage.BadEntry.{BadEntry}
use Rattle.hy_formats.specs.EntryFormat.{decoded_at, at_position, entries_past, spelling}
use Rattle.hy_formats.specs.Reading.{◌>>=◌}
use Rattle.hy_rules.proofs.Growth.{snaps_push}
use Rattle.hy_base.specs.Entry.{IsSoundEntry}
use Rattle.hy_entries.specs.LogEntries.{AreFoundIn}
use Rattle.hy_entries.specs.Listing.{behind, IsReadSoFar}

-- the list past a place begins with the item there
from_place : {X : Type 0} (xs : List X) (n : ℕ) (x : X) → nth xs (suc n) ≡ Some x → drop n xs ≡ x ∷ drop (suc n) xs
from_place [] n x e = absurd cc
from_place (y ∷ ys) zero x e = let same : y ≡ x = cc in ap (λ z. z ∷ ys) same
from_place (y ∷ ys) (suc n) x e = from_place ys n x e

more_sound : (version : ℕ) (es : List EntryKind) (e : EntryKind) → AllByRecursion (IsSoundEntry version) es → IsSoundEntry version e → AllByRecursion (IsSoundEntry version) (es ++ e ∷ [])
more_sound version [] e all one = (one, tt)
more_sound version (x ∷ es) e all one = (all.0, more_sound version es e all.1 one)

-- one more item at the front of a list
first_more : {X : Type 0} (xs : List X) (n : ℕ) (x : X) → nth xs (suc n) ≡ Some x → take (suc n) xs ≡ take n xs ++ x ∷ []
first_more [] n x e = absurd cc
first_more (y ∷ ys) zero x e = let same : y ≡ x = cc in ap (λ z. z ∷ []) same
first_more (y ∷ ys) (suc n) x e = ap (λ l. y ∷ l) (first_more ys n x e)

behind_more : {E : Type 0} (es : List EntryKind) (e : EntryKind) (r : Result (List EntryKind) E) → behind es (r >>= λ more. Ok (e ∷ more)) ≡ behind (es ++ e ∷ []) r
behind_more es e (Ok more) = ap Ok (sym (append_assoc es (e ∷ []) more))
behind_more es e (Err bad) = refl

-- an item past a place
in_rest : {X : Type 0} (xs : List X) (skipped count : ℕ) → nth (drop skipped xs) (suc count) ≡ nth xs (suc (skipped + count))
in_rest xs zero count =
    let place : suc count ≡ suc (0 + count) = omega arith in
    ap (nth xs) place
in_rest [] (suc skipped) count = refl
in_rest (x ∷ xs) (suc skipped) count =
    let place : suc (suc (skipped + count)) ≡ suc (suc skipped + count) = omega arith in
    in_rest xs skipped count ∙ ap (nth (x ∷ xs)) place

-- the next body past a place, of a list that is the same now
pub next_body : (bodies now : List (List ℕ)) (skipped count : ℕ) → skipped + count + 1 ≤ length bodies → now ≡ bodies → (body : List ℕ) × (nth (drop skipped bodies) (suc count) ≡ Some body) × (nth now (skipped + count + 1) ≡ Some body)
next_body bodies now skipped count within same =
    let found = nth_some bodies (suc (skipped + count)) (record { at_least = omega arith; at_most = omega (arith, within) }) in
    let same_place : suc (skipped + count) ≡ skipped + count + 1 = omega arith in
    (found.0, in_rest bodies skipped count ∙ found.1, subst (λ n. nth now n ≡ Some found.0) same_place (subst (λ bs. nth bs (suc (skipped + count)) ≡ Some found.0) (sym same) found.1))

-- a body of that list is one past the place
pub body_past : (bodies now : List (List ℕ)) (skipped count : ℕ) (body : List ℕ) → now ≡ bodies → nth now (skipped + count + 1) ≡ Some body → nth (drop skipped bodies) (count + 1) ≡ Some body
body_past bodies now skipped count body same found =
    let place : skipped + count + 1 ≡ suc (skipped + count) = omega arith in
    let next : suc count ≡ count + 1 = omega arith in
    subst (λ n. nth (drop skipped bodies) n ≡ Some body) next (in_rest bodies skipped count ∙ subst (λ n. nth bodies n ≡ Some body) place (subst (λ bs. nth bs (skipped + count + 1) ≡ Some body) same found))

module _ (tells : Bool) (s : Shape) (from : ℕ) (bodies : List (List ℕ)) where
  pub nothing_listed : IsReadSoFar tells s from bodies [] 0
  nothing_listed = record { counts = refl; lawful = tt; sound = tt; read = λ told. nothing_behind (entries_past s from bodies) ∙ ap (λ n. behind [] (entries_past s n bodies)) from_none; spelled = λ told. none_first bodies }
    where
      from_none : from ≡ from + 0
      from_none = omega arith

      none_first : {X : Type 0} (xs : List X) → take 0 xs ≡ []
      none_first [] = refl
      none_first (x ∷ xs) = refl

      nothing_behind : {E : Type 0} (r : Result (List EntryKind) E) → r ≡ behind [] r
      nothing_behind (Ok more) = refl
      nothing_behind (Err bad) = refl

  -- one more body is read
  pub one_more : (es : List EntryKind) (count : ℕ) (e : EntryKind) (body : List ℕ) → IsReadSoFar tells s from bodies es count → nth bodies (suc count) ≡ Some body
      → (IsTrue tells → decoded_at s (from + count + 1) body ≡ Ok e) → HasLawfulSnap s (from + count + 1) e → IsSoundEntry s.version e → (IsTrue tells → nth bodies (count + 1) ≡ Some (spelling s.version e)) → IsReadSoFar tells s from bodies (es ++ e ∷ []) (count + 1)
  one_more es count e body listed stands read lawful sound spelled = record {
    counts = omega (arith, length-append es (e ∷ []), listed.counts);
    sound = more_sound s.version es e listed.sound sound;
    spelled = λ told.
        ap (λ n. take n bodies) (sym same_place) ∙ (first_more bodies count (spelling s.version e) (subst (λ n. nth bodies n ≡ Some (spelling s.version e)) (sym same_place) (spelled told))
        ∙ (ap (λ l. l ++ spelling s.version e ∷ []) (listed.spelled told) ∙ sym (map_push (spelling s.version) es e)));
    lawful = snaps_push s from es e listed.lawful (subst (λ n. HasLawfulSnap s n e) (omega (arith, listed.counts)) lawful);
    read = λ told. listed.read told ∙ ap (λ b. behind es (entries_past s (from + count) b)) (from_place bodies count body stands) ∙ then told ∙ ap (λ n. behind (es ++ e ∷ []) (entries_past s (from + count + 1) (drop n bodies))) same_place ∙ ap (λ n. behind (es ++ e ∷ []) (entries_past s n (drop (count + 1) bodies))) next_place;
  }
    where
      same_place : suc count ≡ count + 1
      same_place = omega arith

      next_place : from + count + 1 ≡ from + (count + 1)
      next_place = omega arith

      rest : List (List ℕ)
      rest = drop (suc count) bodies

      then : IsTrue tells → behind es (entries_past s (from + count) (body ∷ rest)) ≡ behind (es ++ e ∷ []) (entries_past s (from + count + 1) rest)
      then told = subst (λ r. behind es (at_position (from + count + 1) r >>= λ entry. entries_past s (from + count + 1) rest >>= λ more. Ok (entry ∷ more)) ≡ behind (es ++ e ∷ []) (entries_past s (from + count + 1) rest)) (sym (read told)) (behind_more es e (entries_past s (from + count + 1) rest))

  -- the next body is refused, which is the first that is
  pub refused_next : (es : List EntryKind) (count : ℕ) (bad : BadEntry) (body : List ℕ) → IsReadSoFar tells s from bodies es count → nth bodies (suc count) ≡ Some body
      → (IsTrue tells → decoded_at s (from + count + 1) body ≡ Err bad) → IsTrue tells → entries_past s from bodies ≡ Err (from + count + 1, bad)
  refused_next es count bad body listed stands read told =
      listed.read told ∙ ap (λ b. behind es (entries_past s (from + count) b)) (from_place bodies count body stands)
      ∙ subst (λ r. behind es (at_position (from + count + 1) r >>= λ entry. entries_past s (from + count + 1) (drop (suc count) bodies) >>= λ more. Ok (entry ∷ more)) ≡ Err (from + count + 1, bad)) (sym (read told)) refl

  -- they are the spellings of the entries
  pub all_spelled : (es : List EntryKind) → IsReadSoFar tells s from bodies es (length bodies) → IsTrue tells → bodies ≡ map (spelling s.version) es
  all_spelled es listed told = sym (all_first bodies) ∙ listed.spelled told
    where
      all_first : {X : Type 0} (xs : List X) → take (length xs) xs ≡ xs
      all_first [] = refl
      all_first (x ∷ xs) = ap (λ l. x ∷ l) (all_first xs)

  -- all bodies are read
  pub all_listed : (es : List EntryKind) → IsReadSoFar tells s from bodies es (length bodies) → IsTrue tells → entries_past s from bodies ≡ Ok es
  all_listed es listed told = listed.read told ∙ ap (λ b. behind es (entries_past s (from + length bodies) b)) (nothing_left bodies) ∙ at_end es
    where
      nothing_left : {X : Type 0} (xs : List X) → drop (length xs) xs ≡ []
      nothing_left [] = refl
      nothing_left (x ∷ xs) = nothing_left xs

      at_end : {E : Type 0} (ds : List EntryKind) → behind {E = E} ds (Ok []) ≡ Ok ds
      at_end ds = ap Ok (append-nil ds)

  -- so they are what reading the log comes to
  pub log_listed : (es : List EntryKind) (count : ℕ) → IsReadSoFar tells s from bodies es count → count ≡ length bodies → from + length bodies ≤ s.cap
      → AreFoundIn tells (record { shape = s; from = from }) bodies es
  log_listed es count listed ended within =
      let all = subst (IsReadSoFar tells s from bodies es) ended listed in
      record { count = all.counts; lawful = record { capacity = omega (arith, all.counts, within); snaps = all.lawful }; sound = all.sound; read = all_listed es all; spelled = all_spelled es all }
