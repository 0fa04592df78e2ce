-- What a write takes away, and what it leaves to be told.
use Rattle.std.proofs.Common.{◌≡◌, inl, inr, ⊎_elim, ℕ, ◌+◌, ◌-◌, ◌<◌, ◌≤◌, min, List, [], ◌∷◌, ◌++◌, length, take, drop, reverse, get_or, sym, ◌∙◌, ap, arith, length-append, length-take, length-drop, get_or-take, get_or-drop}
use Rattle.std.proofs.lemmas.Bool.{cases_lt}
use Rattle.std.proofs.lemmas.List.{ext_get_or, take_at, drop_at, take_all, drop_all, take-append-le, drop-append-le, reverse-append}
use Rattle.hy_disk.specs.Content.{Content, overwritten, with_pending, settled}
use Rattle.hy_disk.proofs.Overwrites.{length-overwritten, overwritten_inside, overwritten_outside}
use Rattle.hy_mem.specs.declared.mark.SyncMark.{SyncMark}
use Rattle.hy_mem.specs.Store.{IsStore}
use Rattle.hy_mem.specs.Undo.{covered_total, restored, content_at, contents_before}

length_any : (old : List ℕ) (place : ℕ) (bytes : List ℕ) → length (overwritten old place bytes) ≡ min place (length old) + length bytes + (length old - (place + length bytes))
length_any old place bytes = omega (arith, length-append (take place old ++ bytes) (drop (place + length bytes) old), length-append (take place old) bytes, length-take place old, length-drop (place + length bytes) old)

-- the newest write is put back first
pub restored-newest : (size : ℕ) (bytes : List ℕ) (place count : ℕ) (earlier : List (ℕ × ℕ)) (covered old : List ℕ) → length old ≡ min count (size - place)
    → restored size bytes ((place, count) ∷ earlier) (covered ++ old) ≡ restored size (overwritten bytes place old) earlier covered
restored-newest size bytes place count earlier covered old is =
    let rest : ℕ = length (covered ++ old) - min count (size - place) in
    let at : rest ≡ length covered = omega (arith, length-append covered old, is) in
    let back : drop rest (covered ++ old) ≡ old = drop_at covered old rest (sym at) in
    let front : take rest (covered ++ old) ≡ covered = take_at covered old rest (sym at) in
    (λ i. restored size (overwritten bytes place (back i)) earlier (front i))

-- what a write is over, of so many bytes
pub covered_by : (size : ℕ) (bytes : List ℕ) (place : ℕ) (piece : List ℕ) → size ≤ length bytes → length (take (min (length piece) (size - place)) (drop place bytes)) ≡ min (length piece) (size - place)
covered_by size bytes place piece fits = omega (arith, length-take (min (length piece) (size - place)) (drop place bytes), length-drop place bytes)

-- put back, it gives what there was
put-back : (size : ℕ) (bytes : List ℕ) (place : ℕ) (piece : List ℕ) → size ≤ length bytes → place ≤ length bytes
    → overwritten (take size (overwritten bytes place piece)) place (take (min (length piece) (size - place)) (drop place bytes)) ≡ take size bytes
put-back size bytes place piece fits within =
    let n : ℕ = min (length piece) (size - place) in
    let old : List ℕ = take n (drop place bytes) in
    let now : List ℕ = overwritten bytes place piece in
    let count : length old ≡ n = covered_by size bytes place piece fits in
    let longer : length bytes ≤ length now = length-overwritten bytes place piece in
    let first : length (take size now) ≡ size = omega (arith, length-take size now) in
    let all : length (overwritten (take size now) place old) ≡ size = omega (arith, length_any (take size now) place old) in
    ext_get_or 0 (overwritten (take size now) place old) (take size bytes) (omega (arith, length-take size bytes)) (λ i low.
    let here : i < size = omega arith in
    let stands : get_or (take size bytes) i 0 ≡ get_or bytes i 0 = get_or-take size bytes i 0 here in
    let stood : get_or (take size now) i 0 ≡ get_or now i 0 = get_or-take size now i 0 here in
    ⊎_elim
    (λ before. overwritten_outside (take size now) place old i (omega arith) (inl before) ∙ stood ∙ overwritten_outside bytes place piece i (omega arith) (inl before) ∙ sym stands)
    (λ start. ⊎_elim
    (λ inside.
    let there : place + (i - place) ≡ i = omega arith in
    overwritten_inside (take size now) place old i (omega arith) start inside
    ∙ get_or-take n (drop place bytes) (i - place) 0 (omega arith) ∙ get_or-drop place bytes (i - place) 0 ∙ ap (λ (k : ℕ). get_or bytes k 0) there ∙ sym stands)
    (λ past. overwritten_outside (take size now) place old i (omega arith) (inr past) ∙ stood ∙ overwritten_outside bytes place piece i (omega arith) (inr (omega arith)) ∙ sym stands)
    (cases_lt i (place + length old)))
    (cases_lt i place))

-- a write is pending, and what was synced stays
pub content-written : (mark : SyncMark) (bytes : List ℕ) (ranges : List (ℕ × ℕ)) (covered : List ℕ) (place : ℕ) (piece : List ℕ) → IsStore mark bytes ranges covered → place ≤ length bytes
    → content_at mark (overwritten bytes place piece) (ranges ++ (place, length piece) ∷ []) (covered ++ take (min (length piece) (mark.bytes - place)) (drop place bytes)) ≡ with_pending (content_at mark bytes ranges covered) place piece
content-written mark bytes ranges covered place piece is within =
    let size = mark.bytes in
    let old : List ℕ = take (min (length piece) (size - place)) (drop place bytes) in
    let pending : drop mark.ranges (ranges ++ (place, length piece) ∷ []) ≡ drop mark.ranges ranges ++ (place, length piece) ∷ [] = drop-append-le mark.ranges ranges ((place, length piece) ∷ []) is.places in
    let newest : reverse (drop mark.ranges (ranges ++ (place, length piece) ∷ [])) ≡ (place, length piece) ∷ reverse (drop mark.ranges ranges) = ap reverse pending ∙ reverse-append (drop mark.ranges ranges) ((place, length piece) ∷ []) in
    let over : drop mark.covered (covered ++ old) ≡ drop mark.covered covered ++ old = drop-append-le mark.covered covered old (omega (arith, is.kept)) in
    let synced : restored size (take size (overwritten bytes place piece)) (reverse (drop mark.ranges (ranges ++ (place, length piece) ∷ []))) (drop mark.covered (covered ++ old)) ≡ restored size (take size bytes) (reverse (drop mark.ranges ranges)) (drop mark.covered covered) =
    (λ i. restored size (take size (overwritten bytes place piece)) (newest i) (over i))
    ∙ restored-newest size (take size (overwritten bytes place piece)) place (length piece) (reverse (drop mark.ranges ranges)) (drop mark.covered covered) old (covered_by size bytes place piece is.within)
    ∙ ap (λ (b : List ℕ). restored size b (reverse (drop mark.ranges ranges)) (drop mark.covered covered)) (put-back size bytes place piece is.within within) in
    (λ i. record { seen = overwritten bytes place piece; synced = synced i; pending = pending i })

pub store-written : (mark : SyncMark) (bytes : List ℕ) (ranges : List (ℕ × ℕ)) (covered : List ℕ) (place : ℕ) (piece : List ℕ) → IsStore mark bytes ranges covered
    → IsStore mark (overwritten bytes place piece) (ranges ++ (place, length piece) ∷ []) (covered ++ take (min (length piece) (mark.bytes - place)) (drop place bytes))
store-written mark bytes ranges covered place piece is =
    let size = mark.bytes in
    let old : List ℕ = take (min (length piece) (size - place)) (drop place bytes) in
    let pending : drop mark.ranges (ranges ++ (place, length piece) ∷ []) ≡ drop mark.ranges ranges ++ (place, length piece) ∷ [] = drop-append-le mark.ranges ranges ((place, length piece) ∷ []) is.places in
    let newest : reverse (drop mark.ranges (ranges ++ (place, length piece) ∷ [])) ≡ (place, length piece) ∷ reverse (drop mark.ranges ranges) = ap reverse pending ∙ reverse-append (drop mark.ranges ranges) ((place, length piece) ∷ []) in
    let total : covered_total size (reverse (drop mark.ranges (ranges ++ (place, length piece) ∷ []))) ≡ min (length piece) (size - place) + covered_total size (reverse (drop mark.ranges ranges)) = ap (covered_total size) newest in
    record {
      within = omega (arith, is.within, length-overwritten bytes place piece);
      places = omega (arith, is.places, length-append ranges ((place, length piece) ∷ []));
      kept = omega (arith, is.kept, total, length-append covered old, covered_by size bytes place piece is.within);
    }

-- what was held before the last sync is told by what was there then
pub before-written : (syncs : List SyncMark) (mark : SyncMark) (bytes : List ℕ) (ranges more : List (ℕ × ℕ)) (covered old : List ℕ) → mark.ranges ≤ length ranges → mark.covered ≤ length covered
    → contents_before syncs bytes (take mark.ranges (ranges ++ more)) (take mark.covered (covered ++ old)) ≡ contents_before syncs bytes (take mark.ranges ranges) (take mark.covered covered)
before-written syncs mark bytes ranges more covered old some enough =
    let front : take mark.ranges (ranges ++ more) ≡ take mark.ranges ranges = take-append-le mark.ranges ranges more some in
    let back : take mark.covered (covered ++ old) ≡ take mark.covered covered = take-append-le mark.covered covered old enough in
    (λ i. contents_before syncs bytes (front i) (back i))

-- a mark at the end
abbrev pub mark_at_end : List ℕ → List (ℕ × ℕ) → List ℕ → SyncMark
mark_at_end bytes ranges covered = record { bytes = length bytes; ranges = length ranges; covered = length covered }

pub content-synced : (bytes : List ℕ) (ranges : List (ℕ × ℕ)) (covered : List ℕ) → content_at (mark_at_end bytes ranges covered) bytes ranges covered ≡ settled bytes
content-synced bytes ranges covered =
    let none : drop (length ranges) ranges ≡ [] = drop_all (length ranges) ranges (omega arith) in
    let all : take (length bytes) bytes ≡ bytes = take_all (length bytes) bytes (omega arith) in
    (λ i. record { seen = bytes; synced = restored (length bytes) (all i) (reverse (none i)) (drop (length covered) covered); pending = none i })

pub store-synced : (bytes : List ℕ) (ranges : List (ℕ × ℕ)) (covered : List ℕ) → IsStore (mark_at_end bytes ranges covered) bytes ranges covered
store-synced bytes ranges covered =
    let none : drop (length ranges) ranges ≡ [] = drop_all (length ranges) ranges (omega arith) in
    let total : covered_total (length bytes) (reverse (drop (length ranges) ranges)) ≡ 0 = ap (λ (l : List (ℕ × ℕ)). covered_total (length bytes) (reverse l)) none in
    record { within = omega arith; places = omega arith; kept = omega (arith, total) }

pub before-synced : (syncs : List SyncMark) (mark : SyncMark) (bytes : List ℕ) (ranges : List (ℕ × ℕ)) (covered : List ℕ)
    → contents_before (reverse (syncs ++ mark ∷ [])) (content_at (mark_at_end bytes ranges covered) bytes ranges covered).synced (take (length ranges) ranges) (take (length covered) covered)
    ≡ content_at mark bytes ranges covered ∷ contents_before (reverse syncs) (content_at mark bytes ranges covered).synced (take mark.ranges ranges) (take mark.covered covered)
before-synced syncs mark bytes ranges covered =
    let newest : reverse (syncs ++ mark ∷ []) ≡ mark ∷ reverse syncs = reverse-append syncs (mark ∷ []) in
    let seen : (content_at (mark_at_end bytes ranges covered) bytes ranges covered).synced ≡ bytes = ap (λ (k : Content). k.synced) (content-synced bytes ranges covered) in
    let front : take (length ranges) ranges ≡ ranges = take_all (length ranges) ranges (omega arith) in
    let back : take (length covered) covered ≡ covered = take_all (length covered) covered (omega arith) in
    (λ i. contents_before (newest i) (seen i) (front i) (back i))
