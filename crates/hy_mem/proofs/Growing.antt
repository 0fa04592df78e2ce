-- Time goes on for a device in memory.
use Rattle.std.proofs.Common.{◌≡◌, ◌⊎◌, inl, inr, ℕ, List, [], ◌∷◌, ◌++◌, length, ap, arith, sym, subst}
use Rattle.hy_disk.specs.Content.{Content, Image, IsOutside, with_pending}
use Rattle.hy_disk.specs.Moments.{Elapses}
use Rattle.hy_disk.proofs.Overwrites.{length-overwritten}
use Rattle.hy_mem.specs.DiskPast.{LeftBefore}

outside-earlier : (i : ℕ) (ranges : List (ℕ × ℕ)) (range : ℕ × ℕ) → IsOutside i (ranges ++ range ∷ []) → IsOutside i ranges
outside-earlier i [] range out = tt
outside-earlier i (r ∷ ranges) range out = (out.0, outside-earlier i ranges range out.1)

-- after a write a crash may leave all that it might have left before
image-written : (old : Content) (place : ℕ) (bytes image : List ℕ) → Image old image → Image (with_pending old place bytes) image
image-written old place bytes image is = record {
  no_shorter = is.no_shorter;
  no_longer = omega (arith, is.no_longer, length-overwritten old.seen place bytes);
  stays = λ i within out. is.stays i within (outside-earlier i old.pending (place, length bytes) out);
}

pub elapses-written : (before since : List Content) (old new : Content) (place : ℕ) (bytes : List ℕ) → new ≡ with_pending old place bytes → since ≡ before
    → Elapses (length before) (length since) (λ t image. Image old image ⊎ LeftBefore before t image) (λ t image. Image new image ⊎ LeftBefore since t image) new
elapses-written before since old new place bytes is same = record {
  later = omega (arith, ap length same);
  nothing_else = λ t image early left. nothing_else t image left;
  keeps = λ t image early left. kept t image left;
}
  where
    nothing_else : (t : ℕ) (image : List ℕ) → Image new image ⊎ LeftBefore since t image → (Image old image ⊎ LeftBefore before t image) ⊎ Image new image
    nothing_else t image (inl now) = inr now
    nothing_else t image (inr earlier) = inl (inr (subst (λ (cs : List Content). LeftBefore cs t image) same earlier))

    kept : (t : ℕ) (image : List ℕ) → Image old image ⊎ LeftBefore before t image → Image new image ⊎ LeftBefore since t image
    kept t image (inl now) = inl (subst (λ (k : Content). Image k image) (sym is) (image-written old place bytes image now))
    kept t image (inr earlier) = inr (subst (λ (cs : List Content). LeftBefore cs t image) (sym same) earlier)
