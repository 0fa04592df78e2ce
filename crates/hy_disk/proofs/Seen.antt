-- What a read gives is an image, after each write and sync, and so is what a stop leaves.
use Rattle.std.proofs.Common.{◌≡◌, ◌⊎◌, inl, inr, ⊎_elim, ℕ, zero, suc, ◌+◌, ◌-◌, ◌<◌, ◌≤◌, min, List, [], ◌∷◌, ◌++◌, length, take, drop, get_or, replicate, refl, ◌∙◌, arith, length-append, length-take, length-drop}
use Rattle.std.proofs.lemmas.List.{length-replicate}
use Rattle.hy_disk.specs.Content.{Content, Image, IsOutside, overwritten, settled, with_pending}
use Rattle.hy_disk.specs.Stops.{ff_filled, stopped}
use Rattle.hy_disk.proofs.Overwrites.{length-overwritten, overwritten_outside}

outside-front : (i : ℕ) (ranges : List (ℕ × ℕ)) (range : ℕ × ℕ) → IsOutside i (ranges ++ range ∷ []) → IsOutside i ranges
outside-front i [] range out = tt
outside-front i (r ∷ ranges) range out = (out.0, outside-front i ranges range out.1)

outside-last : (i : ℕ) (ranges : List (ℕ × ℕ)) (range : ℕ × ℕ) → IsOutside i (ranges ++ range ∷ []) → (i < range.0) ⊎ (range.0 + range.1 ≤ i)
outside-last i [] range out = out.0
outside-last i (r ∷ ranges) range out = outside-last i ranges range out.1

pub seen_settled : (bytes : List ℕ) → Image (settled bytes) bytes
seen_settled bytes = record { no_shorter = omega arith; no_longer = omega arith; stays = λ i within out. refl }

pub seen_written : (old : Content) (place : ℕ) (bytes : List ℕ) → Image old old.seen → Image (with_pending old place bytes) (overwritten old.seen place bytes)
seen_written old place bytes was =
    let longer = length-overwritten old.seen place bytes in
    record {
      no_shorter = omega (arith, was.no_shorter);
      no_longer = omega arith;
      stays = λ i within out.
          overwritten_outside old.seen place bytes i (omega (arith, was.no_shorter)) (outside-last i old.pending (place, length bytes) out) ∙ was.stays i within (outside-front i old.pending (place, length bytes) out);
    }

pub length-ff_filled : (bytes : List ℕ) (ranges : List (ℕ × ℕ)) → length (ff_filled bytes ranges) ≡ length bytes
length-ff_filled bytes [] = refl
length-ff_filled bytes (range ∷ ranges) =
    let n = min range.1 (length bytes - range.0) in
    let fill : List ℕ = replicate n 255 in
    length-ff_filled (overwritten bytes range.0 fill) ranges ∙ omega (arith, length-append (take range.0 bytes ++ fill) (drop (range.0 + length fill) bytes), length-append (take range.0 bytes) fill, length-take range.0 bytes, length-drop (range.0 + length fill) bytes, length-replicate {A = ℕ} n 255)

ff_filled_outside : (bytes : List ℕ) (ranges : List (ℕ × ℕ)) (i : ℕ) → i < length bytes → IsOutside i ranges → get_or (ff_filled bytes ranges) i 0 ≡ get_or bytes i 0
ff_filled_outside bytes [] i within out = refl
ff_filled_outside bytes (range ∷ ranges) i within out =
    let n = min range.1 (length bytes - range.0) in
    let fill : List ℕ = replicate n 255 in
    let size = length-replicate {A = ℕ} n 255 in
    let here : (i < range.0) ⊎ (range.0 + length fill ≤ i) = ⊎_elim (λ below. inl below) (λ above. inr (omega arith)) out.0 in
    ff_filled_outside (overwritten bytes range.0 fill) ranges i (omega (arith, length-overwritten bytes range.0 fill)) out.1 ∙ overwritten_outside bytes range.0 fill i within here

-- each stop leaves an image
pub stopped_is_image : (pattern : ℕ) (content : Content) → Image content content.seen → Image content (stopped pattern content)
stopped_is_image zero content is = record { no_shorter = omega arith; no_longer = omega (arith, is.no_shorter); stays = λ i within out. refl }
stopped_is_image (suc zero) content is = is
stopped_is_image (suc (suc more)) content is =
    let size = length-ff_filled content.seen content.pending in
    record {
      no_shorter = omega (arith, is.no_shorter);
      no_longer = omega arith;
      stays = λ i within out. ff_filled_outside content.seen content.pending i (omega (arith, is.no_shorter)) out ∙ is.stays i within out;
    }
