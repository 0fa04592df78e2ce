-- What a source has left after several reads.
use Rattle.std.proofs.Common.{◌≡◌, ℕ, ◌+◌, ◌<◌, ◌≤◌, arith, Bool, false, if◌then◌else◌, sym, List, [], ◌∷◌, ◌++◌, Option, None, Some, length, length-append, take, refl, ap, subst, ◌∙◌, append-nil}
use Rattle.std.proofs.lemmas.Bool.{true≢false}
use Rattle.std.proofs.lemmas.List.{take-append-le}
use Rattle.std.specs.Prelude.{IfSome, Result, Ok, Err}
use Rattle.std.specs.Result.{is_ok, is_err}
use Rattle.std.specs.Io.KnownBytes.{Consumes, IsAtEnd}
use Rattle.std.proofs.KnownBytes.{Consumes-trans}
use Rattle.hy_io.specs.Whole.{GivesExactly}

pub of_any : {A : Type 0} (P : A → Type 0) (known : Option A) → ((x : A) → P x) → IfSome known P
of_any P None all = tt
of_any P (Some x) all = all x

-- the last read gave nothing, though there was room
pub read_last : (old mid new : Option (List ℕ)) (seen buffer : List ℕ) (count : ℕ) → Consumes old mid seen → Consumes mid new (take count buffer) × (count ≡ 0 → 0 < length buffer → IsAtEnd new)
    → count ≡ 0 → 0 < length buffer → Consumes old new seen × IsAtEnd new
read_last old mid new seen buffer count before now none room =
    (subst (Consumes old new) (ap (λ n. seen ++ take n buffer) none ∙ ap (λ l. seen ++ l) (no_front buffer) ∙ append-nil seen) (Consumes-trans old mid new seen (take count buffer) before now.0), now.1 none room) where
      no_front : (bytes : List ℕ) → take 0 bytes ≡ []
      no_front [] = refl
      no_front (b ∷ bytes) = refl

-- a front of the buffer is taken in behind what was seen
pub taken_in : {T E : Type 0} (result : Result T E) (failed : Bool) (items seen buffer rest : List ℕ) (count : ℕ)
    → items ≡ (if is_ok result then seen ++ take count (buffer ++ rest) else seen) → failed ≡ is_err result → failed ≡ false → count ≤ length buffer → items ≡ seen ++ take count buffer
taken_in (Ok x) failed items seen buffer rest count is told not within = is ∙ ap (λ l. seen ++ l) (take-append-le count buffer rest within)
taken_in (Err e) failed items seen buffer rest count is told not within = absurd (true≢false (sym told ∙ not))

-- where more bytes came than the limit, there were more
pub were_more : (old new : Option (List ℕ)) (limit : ℕ) → GivesExactly old new (limit + 1) → IfSome old (λ left. limit < length left)
were_more None new limit gone = tt
were_more (Some left) None limit gone = absurd gone.1
were_more (Some left) (Some rest) limit gone = omega (arith, ap length gone.1, length-append gone.0 rest, gone.2)
