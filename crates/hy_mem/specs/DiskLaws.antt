-- The laws of a device in memory.
use Rattle.std.proofs.Common.{◌⊎◌, inl, inr, ℕ, ◌≤◌, List, [], ◌∷◌, length, Option, Some, None, arith}
use Rattle.hy_disk.specs.Content.{Content, Image}
use Rattle.hy_mem.specs.DiskFailures.{IsEarlierCall}
use Rattle.hy_mem.specs.DiskPast.{LeftBefore}

-- before the last sync is no moment since it
none_later : (before : List Content) (t : ℕ) (image : List ℕ) → length before ≤ t → LeftBefore before t image → ⊥
none_later [] t image later left = left
none_later (content ∷ earlier) t image later (inl here) = omega (arith, here.0)
none_later (content ∷ earlier) t image later (inr left) = none_later earlier t image (omega arith) left

-- since the last sync there is what there is now
pub only_now : (before : List Content) (content : Content) (image : List ℕ)
    → Image content image ⊎ LeftBefore before (length before) image → Image content image
only_now before content image (inl is) = is
only_now before content image (inr left) = absurd (none_later before (length before) image (omega arith) left)

-- fewer calls come before the armed one, where more do
pub is_before : (j k : ℕ) (armed : Option ℕ) → IsEarlierCall k armed → j ≤ k → IsEarlierCall j armed
is_before j k None is fewer = tt
is_before j k (Some at) is fewer = omega arith
