-- What a write changes.
use Rattle.std.proofs.Common.{◌≡◌, ◌⊎◌, inl, inr, ℕ, ◌+◌, ◌-◌, ◌<◌, ◌≤◌, max, List, ◌++◌, length, take, drop, get_or, ◌∙◌, ap, arith, length-append, length-take, length-drop, get_or-take, get_or-drop}
use Rattle.std.proofs.lemmas.List.{get_or_append_left, get_or-append_right}
use Rattle.hy_disk.specs.Content.{overwritten}

-- it makes nothing shorter
pub length-overwritten : (old : List ℕ) (place : ℕ) (bytes : List ℕ) → length old ≤ length (overwritten old place bytes)
length-overwritten old place bytes =
    omega (arith, length-append (take place old ++ bytes) (drop (place + length bytes) old), length-append (take place old) bytes, length-take place old, length-drop (place + length bytes) old)

-- a byte outside of its range stays
pub overwritten_outside : (old : List ℕ) (place : ℕ) (bytes : List ℕ) (i : ℕ) → i < length old → (i < place) ⊎ (place + length bytes ≤ i) → get_or (overwritten old place bytes) i 0 ≡ get_or old i 0
overwritten_outside old place bytes i within (inl below) =
    let front = length-take place old in
    get_or_append_left (take place old ++ bytes) (drop (place + length bytes) old) 0 i (omega (arith, length-append (take place old) bytes))
    ∙ get_or_append_left (take place old) bytes 0 i (omega arith) ∙ get_or-take place old i 0 below
overwritten_outside old place bytes i within (inr above) =
    let end = place + length bytes in
    let size : length (take place old ++ bytes) ≡ end = omega (arith, length-append (take place old) bytes, length-take place old) in
    let back : end + (i - end) ≡ i = omega arith in
    get_or-append_right (take place old ++ bytes) (drop end old) end i 0 size above ∙ get_or-drop end old (i - end) 0 ∙ ap (λ (k : ℕ). get_or old k 0) back

-- a byte inside of its range is the one that was written
pub overwritten_inside : (old : List ℕ) (place : ℕ) (bytes : List ℕ) (i : ℕ) → place ≤ length old → place ≤ i → i < place + length bytes → get_or (overwritten old place bytes) i 0 ≡ get_or bytes (i - place) 0
overwritten_inside old place bytes i within above below =
    let front : length (take place old) ≡ place = omega (arith, length-take place old) in
    get_or_append_left (take place old ++ bytes) (drop (place + length bytes) old) 0 i (omega (arith, length-append (take place old) bytes)) ∙ get_or-append_right (take place old) bytes place i 0 front above

-- it lengthens as far as it goes past the end
pub length-overwritten_within : (old : List ℕ) (place : ℕ) (bytes : List ℕ) → place ≤ length old → length (overwritten old place bytes) ≡ max (length old) (place + length bytes)
length-overwritten_within old place bytes within =
    omega (arith, length-append (take place old ++ bytes) (drop (place + length bytes) old), length-append (take place old) bytes, length-take place old, length-drop (place + length bytes) old)
