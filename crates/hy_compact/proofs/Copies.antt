-- A log to which entries are appended one after the other.
use Rattle.std.proofs.Common.{◌≡◌, ◌≢◌, inl, inr, true, ℕ, ◌+◌, ◌<◌, List, [], ◌∷◌, ◌++◌, length, take, map, Option, Some, None, Result, Ok, Err, refl, sym, ap, subst, ◌∙◌, arith, append_assoc}
use Rattle.std.specs.Prelude.{◌↔◌}
use Rattle.std.specs.List.{AllByRecursion}
use Rattle.std.proofs.Math.Seq.{take-append_seam}
use Rattle.std.proofs.lemmas.List.{map-append}
use Rattle.hy_base.specs.declared.record.EntryKind.{EntryKind}
use Rattle.hy_base.specs.Entry.{IsSoundEntry}
use Rattle.hy_formats.specs.declared.header.Header.{Header}
use Rattle.hy_formats.specs.EntryFormat.{spelling}
use Rattle.hy_formats.specs.LogDevice.{Holds, HoldsNothing, IsKept}
use Rattle.hy_formats.specs.LogFormat.{Held, is_unborn}
use Rattle.hy_formats.specs.declared.damage.BadPage.{BadPage}
use Rattle.hy_disk.specs.Content.{Content, Image, settled}
use Rattle.hy_disk.specs.Moments.{LeavesOnly}
use Rattle.hy_disk.proofs.Images.{image_settled}
use Rattle.hy_disk.proofs.Moments.{joined, weaker}
use Rattle.hy_pages.proofs.Creation.{unborn_holds_nothing}
use Rattle.hy_log.specs.View.{HoldsUpTo}
use Rattle.hy_log.specs.declared.log.AddError.{AddError}
use Rattle.hy_log.specs.declared.log.AddError.TheVariants as adding
use Rattle.hy_compact.specs.Compaction.{HoldsFirst, IsPartlyCopied}

-- a body is refused only by a log that is full or stopped
pub is_added : {T : Type 0} (r : Result T AddError) (n cap : ℕ) (stopped : Option ℕ) → ((x : T) → r ≡ Ok x → ⊥) → (r ≡ Err adding.Full ↔ (n ≡ cap)) → ((at : ℕ) → r ≡ Err (adding.Stopped at) ↔ ((n ≢ cap) × (stopped ≡ Some at))) → n < cap → stopped ≡ None → ⊥
is_added (Ok x) n cap stopped other full stop room running = other x refl
is_added (Err adding.Full) n cap stopped other full stop room running = let same = full.0 refl in omega (arith, same, room)
is_added (Err (adding.Stopped at)) n cap stopped other full stop room running = let told : stopped ≡ Some at = ((stop at).0 refl).1 in let wrong : None ≡ Some at = sym running ∙ told in absurd (cc wrong)

-- what a batch leaves behind the first of the entries are the first of them
pub first_or_batch : (h : Header) (done batch more entries : List EntryKind) (bodies : List (List ℕ)) (image : List ℕ) → done ++ (batch ++ more) ≡ entries → bodies ≡ map (spelling h.shape.version) done
    → HoldsUpTo h bodies (map (spelling h.shape.version) batch) image → HoldsFirst h entries image
first_or_batch h done batch more entries bodies image is are (inl before) =
    let first : take (length done) entries ≡ done = ap (take (length done)) (sym is) ∙ take-append_seam done (batch ++ more) in
    (length done, subst (λ (es : List EntryKind). Holds h (map (spelling h.shape.version) es) image) (sym first) (subst (λ (bs : List (List ℕ)). Holds h bs image) are before))
first_or_batch h done batch more entries bodies image is are (inr after) =
    let both : (done ++ batch) ++ more ≡ entries = append_assoc done batch more ∙ is in
    let first : take (length (done ++ batch)) entries ≡ done ++ batch = ap (take (length (done ++ batch))) (sym both) ∙ take-append_seam (done ++ batch) more in
    let spelled : bodies ++ map (spelling h.shape.version) batch ≡ map (spelling h.shape.version) (done ++ batch) = ap (λ (bs : List (List ℕ)). bs ++ map (spelling h.shape.version) batch) are ∙ sym (map-append (spelling h.shape.version) done batch) in
    (length (done ++ batch), subst (λ (es : List EntryKind). Holds h (map (spelling h.shape.version) es) image) (sym first) (subst (λ (bs : List (List ℕ)). Holds h bs image) spelled after))

-- parts of sound entries
pub sound_parts : (version : ℕ) (done batch more entries : List EntryKind) → done ++ (batch ++ more) ≡ entries → AllByRecursion (IsSoundEntry version) entries → AllByRecursion (IsSoundEntry version) batch
sound_parts version done batch more entries is all = first_sound batch more (behind done (batch ++ more) (subst (AllByRecursion (IsSoundEntry version)) (sym is) all))
  where
    behind : (xs ys : List EntryKind) → AllByRecursion (IsSoundEntry version) (xs ++ ys) → AllByRecursion (IsSoundEntry version) ys
    behind [] ys all = all
    behind (x ∷ xs) ys all = behind xs ys all.1

    first_sound : (xs ys : List EntryKind) → AllByRecursion (IsSoundEntry version) (xs ++ ys) → AllByRecursion (IsSoundEntry version) xs
    first_sound [] ys all = tt
    first_sound (x ∷ xs) ys all = (all.0, first_sound xs ys all.1)

-- ---- an unborn device that is opened

told_header : Result Held BadPage → Option Header
told_header (Ok held) = held.header
told_header (Err bad) = None

none_some : (h : Header) → None ≡ Some h → ⊥
none_some h is = absurd cc

no_log : (seen : List ℕ) (h : Header) (bodies : List (List ℕ)) → is_unborn seen ≡ true → Holds h bodies seen → ⊥
unfolding told_header
no_log seen h bodies unborn holds = none_some h (ap told_header (sym (unborn_holds_nothing seen unborn) ∙ holds))

pub kept_nothing : (seen image : List ℕ) → is_unborn seen ≡ true → IsKept seen image → HoldsNothing image
kept_nothing seen image unborn (inl same) = (None, same ∙ unborn_holds_nothing seen unborn)
kept_nothing seen image unborn (inr (inl torn)) = absurd (no_log seen torn.header torn.bodies unborn torn.held)
kept_nothing seen image unborn (inr (inr nothing)) = nothing.1

module _ {D : Type 0} (moment : D → ℕ) (left_since : D → ℕ → List ℕ → Type 0) (h : Header) (entries : List EntryKind) (seen : List ℕ) (unborn : is_unborn seen ≡ true) where
  -- it was opened, or wasn't
  pub opened_only : (old mid : D) → LeavesOnly moment left_since old mid (IsKept seen) → LeavesOnly moment left_since old mid (IsPartlyCopied h entries)
  opened_only old mid run = weaker moment left_since old mid (IsKept seen) (IsPartlyCopied h entries) (λ image kept. inl (kept_nothing seen image unborn kept)) run

  -- and then entries were copied
  pub opened_then : (old mid new : D) → LeavesOnly moment left_since old mid (IsKept seen) → LeavesOnly moment left_since mid new (HoldsFirst h entries) → LeavesOnly moment left_since old new (IsPartlyCopied h entries)
  opened_then old mid new first second = joined moment left_since old mid new (IsPartlyCopied h entries) (opened_only old mid first) (weaker moment left_since mid new (HoldsFirst h entries) (IsPartlyCopied h entries) (λ image some. inr some) second)

-- a device at rest holds what its image holds
pub rest_image : (content : Content) (h : Header) (bodies : List (List ℕ)) → content ≡ settled content.seen → Holds h bodies content.seen → (image : List ℕ) → Image content image → Holds h bodies image
rest_image content h bodies rest holds image now =
    subst (Holds h bodies) (sym (image_settled content.seen image (subst (λ (k : Content). Image k image) rest now))) holds
