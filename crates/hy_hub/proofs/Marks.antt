-- What a pass made, but for its lifts; and lifts that won't fail.
use Rattle.std.proofs.Common.{◌≡◌, ℕ, zero, suc, ◌+◌, ◌<◌, ◌≤◌, Bool, true, false, List, [], ◌∷◌, ◌++◌, length, Some, None, refl, ap, sym, ◌∙◌, subst, arith, append_assoc}
use Rattle.std.specs.Prelude.{Option, not, filter, slice_get, count_by, if◌then◌else◌}
use Rattle.std.specs.Option.{option_map_or}
use Rattle.std.proofs.lemmas.Bool.{lt-ltb, le-ltb}
use Rattle.std.proofs.lemmas.List.Sums.{sum_by-append, sum_by-cons}
use Rattle.std.proofs.lemmas.List.Elements.{filter-append}
use mathlib.Core.List.{IsPrefix}
use Rattle.hy_base.specs.Lists.{put}
use Rattle.hy_base.proofs.NumberLemmas.{one_if}
use Rattle.hy_hist.specs.Passes.{Known, made, masked, stands_before, with_mine}
use Rattle.hy_hist.proofs.Made.{prefix_get}
use Rattle.hy_hist.proofs.Lists.{prefix_trans}
use Rattle.hy_hub.specs.declared.occurrence.Occurrence.{Occurrence}
use Rattle.hy_hub.specs.declared.occurrence.Occurrence.TheVariants.{Opened, Happened, Halted, Lifted, Landed}
use Rattle.hy_hub.specs.declared.occurrence.Batch.{Batch}
use Rattle.hy_hub.specs.declared.occurrence.Away.{Away}
use Rattle.hy_hub.specs.Trace.{is_lift, halt_of, flight_of, failed_from, failed_lift}
use Rattle.hy_hub.specs.Order.{AreInOrder}
use Rattle.hy_hub.specs.Calls.{done_by, placed_at, IsLeftOver}
use Rattle.hy_hub.specs.Holds.{WontFail}
use Rattle.hy_hub.proofs.Told.{flight_more}

abbrev is_done : ℕ × Occurrence → Bool
is_done e = not (is_lift e.1)

-- an item below all others comes first
put_first : (j k : ℕ) (x : Occurrence) (xs : List Occurrence) (bs : List Bool) → j < k → put stands_before (j, x) (masked k xs bs) ≡ (j, x) ∷ masked k xs bs
put_first j k x [] bs lt = refl
put_first j k x (y ∷ ys) [] lt = refl
put_first j k x (y ∷ ys) (true ∷ bs) lt = rw (lt-ltb j k lt) refl
put_first j k x (y ∷ ys) (false ∷ bs) lt = put_first j (suc k) x ys bs (omega (arith, lt))

-- a lift more isn't seen
lift_put : (i j k : ℕ) (xs : List Occurrence) (bs : List Bool) (b : Batch) → ((y : Occurrence) → slice_get xs k ≡ Some y → y ≡ Lifted b) → i ≡ j + k → filter is_done (put stands_before (i, Lifted b) (masked j xs bs)) ≡ filter is_done (masked j xs bs)
lift_put i j k [] bs b same e = refl
lift_put i j k (y ∷ ys) [] b same e = refl
lift_put i j zero (y ∷ ys) (true ∷ bs) b same e =
    rw (le-ltb i j (omega (arith, e)), le-ltb j i (omega (arith, e))) (ap (λ (z : Occurrence). filter is_done ((j, z) ∷ masked (suc j) ys bs)) (sym (same y refl)))
lift_put i j (suc k) (y ∷ ys) (true ∷ bs) b same e =
    rw (le-ltb i j (omega (arith, e)), lt-ltb j i (omega (arith, e))) (ap (λ (l : List (ℕ × Occurrence)). if is_done (j, y) then (j, y) ∷ l else l) (lift_put i (suc j) k ys bs b same (omega (arith, e))))
lift_put i j zero (y ∷ ys) (false ∷ bs) b same e = ap (filter is_done) (put_first i (suc j) (Lifted b) ys bs (omega (arith, e)))
lift_put i j (suc k) (y ∷ ys) (false ∷ bs) b same e = lift_put i (suc j) k ys bs b same (omega (arith, e))

-- the same of what is left without lifts
first_done : (i k : ℕ) (x : Occurrence) (xs : List Occurrence) (bs : List Bool) → i < k → put stands_before (i, x) (filter is_done (masked k xs bs)) ≡ (i, x) ∷ filter is_done (masked k xs bs)
first_done i k x [] bs lt = refl
first_done i k x (y ∷ ys) [] lt = refl
first_done i k x (y ∷ ys) (true ∷ bs) lt = by (is_lift y) refl (first_done i (suc k) x ys bs (omega (arith, lt)))
  where
    by : (c : Bool) → is_lift y ≡ c → put stands_before (i, x) (filter is_done (masked (suc k) ys bs)) ≡ (i, x) ∷ filter is_done (masked (suc k) ys bs) → put stands_before (i, x) (filter is_done ((k, y) ∷ masked (suc k) ys bs)) ≡ (i, x) ∷ filter is_done ((k, y) ∷ masked (suc k) ys bs)
    by true is rest = rw is rest
    by false is rest = rw (is, lt-ltb i k lt) refl
first_done i k x (y ∷ ys) (false ∷ bs) lt = first_done i (suc k) x ys bs (omega (arith, lt))

-- what is no lift is put among what is none
own_put : (i j k : ℕ) (xs : List Occurrence) (bs : List Bool) (x : Occurrence) → is_lift x ≡ false → ((y : Occurrence) → slice_get xs k ≡ Some y → y ≡ x) → i ≡ j + k → filter is_done (put stands_before (i, x) (masked j xs bs)) ≡ put stands_before (i, x) (filter is_done (masked j xs bs))
own_put i j k [] bs x calm same e = rw calm refl
own_put i j k (y ∷ ys) [] x calm same e = rw calm refl
own_put i j zero (y ∷ ys) (true ∷ bs) x calm same e =
    rw (le-ltb i j (omega (arith, e)), le-ltb j i (omega (arith, e)), ap is_lift (same y refl) ∙ calm, calm, le-ltb i j (omega (arith, e)), le-ltb j i (omega (arith, e))) refl
own_put i j (suc k) (y ∷ ys) (true ∷ bs) x calm same e = rw (le-ltb i j (omega (arith, e)), lt-ltb j i (omega (arith, e))) (by (is_lift y) refl (own_put i (suc j) k ys bs x calm same (omega (arith, e))))
  where
    by : (c : Bool) → is_lift y ≡ c → filter is_done (put stands_before (i, x) (masked (suc j) ys bs)) ≡ put stands_before (i, x) (filter is_done (masked (suc j) ys bs)) → filter is_done ((j, y) ∷ put stands_before (i, x) (masked (suc j) ys bs)) ≡ put stands_before (i, x) (filter is_done ((j, y) ∷ masked (suc j) ys bs))
    by true is rest = rw is rest
    by false is rest = rw (is, le-ltb i j (omega (arith, e)), lt-ltb j i (omega (arith, e))) (ap (λ (l : List (ℕ × Occurrence)). (j, y) ∷ l) rest)
own_put i j zero (y ∷ ys) (false ∷ bs) x calm same e =
    ap (filter is_done) (put_first i (suc j) x ys bs (omega (arith, e))) ∙ (rw calm (sym (first_done i (suc j) x ys bs (omega (arith, e)))))
own_put i j (suc k) (y ∷ ys) (false ∷ bs) x calm same e = own_put i (suc j) k ys bs x calm same (omega (arith, e))

-- and past all of them it is the last
done_last : (i j : ℕ) (x : Occurrence) (xs : List Occurrence) (bs : List Bool) → j + length xs ≤ i → put stands_before (i, x) (filter is_done (masked j xs bs)) ≡ filter is_done (masked j xs bs) ++ (i, x) ∷ []
done_last i j x [] bs le = refl
done_last i j x (y ∷ ys) [] le = refl
done_last i j x (y ∷ ys) (true ∷ bs) le = by (is_lift y) refl (done_last i (suc j) x ys bs (omega (arith, le)))
  where
    by : (c : Bool) → is_lift y ≡ c → put stands_before (i, x) (filter is_done (masked (suc j) ys bs)) ≡ filter is_done (masked (suc j) ys bs) ++ (i, x) ∷ [] → put stands_before (i, x) (filter is_done ((j, y) ∷ masked (suc j) ys bs)) ≡ filter is_done ((j, y) ∷ masked (suc j) ys bs) ++ (i, x) ∷ []
    by true is rest = rw is rest
    by false is rest = rw (is, le-ltb i j (omega (arith, le)), lt-ltb j i (omega (arith, le))) (ap (λ (l : List (ℕ × Occurrence)). (j, y) ∷ l) rest)
done_last i j x (y ∷ ys) (false ∷ bs) le = done_last i (suc j) x ys bs (omega (arith, le))

-- an item of a list is that of a longer one
item_same : (xs ys : List Occurrence) (k : ℕ) (x : Occurrence) → IsPrefix xs ys → slice_get ys k ≡ Some x → (y : Occurrence) → slice_get xs k ≡ Some y → y ≡ x
item_same xs ys k x p here y there = cc (prefix_get xs ys k y p there, here)

module _ (old new : Known Occurrence) (grown : IsPrefix old.seen new.seen) (k : ℕ) where
  -- the pass marks a lift
  pub done_lift : (b : Batch) → slice_get new.seen k ≡ Some (Lifted b) → made new ≡ with_mine (Some k) new.seen (made old) → done_by new ≡ done_by old
  done_lift b here order =
      ap (filter is_done) (order ∙ ap (λ o. option_map_or (λ y. put stands_before (k, y) (made old)) o (made old)) here) ∙ lift_put k 0 k old.seen old.mask b (item_same old.seen new.seen k (Lifted b) grown here) (omega arith)

  -- or an item of its own
  pub done_own : (x : Occurrence) → is_lift x ≡ false → slice_get new.seen k ≡ Some x → made new ≡ with_mine (Some k) new.seen (made old) → done_by new ≡ with_mine (Some k) new.seen (done_by old)
  done_own x calm here order =
      ap (filter is_done) (order ∙ ap (λ o. option_map_or (λ y. put stands_before (k, y) (made old)) o (made old)) here) ∙ (own_put k 0 k old.seen old.mask x calm (item_same old.seen new.seen k x grown here) (omega arith)
      ∙ sym (ap (λ o. option_map_or (λ y. put stands_before (k, y) (done_by old)) o (done_by old)) here))

-- an item behind all that the pass had seen is the last
pub done_behind : (old : Known Occurrence) (list : List Occurrence) (k : ℕ) (x : Occurrence) → slice_get list k ≡ Some x → length old.seen ≤ k → with_mine (Some k) list (done_by old) ≡ done_by old ++ (k, x) ∷ []
done_behind old list k x here behind = ap (λ o. option_map_or (λ y. put stands_before (k, y) (done_by old)) o (done_by old)) here ∙ done_last k 0 x old.seen old.mask (omega (arith, behind))

-- what stands at places, and is no lift
pub placed_done : (k : ℕ) (xs : List Occurrence) → count_by is_lift xs ≡ 0 → filter is_done (placed_at k xs) ≡ placed_at k xs
placed_done k [] none = refl
placed_done k (Opened o ∷ xs) none = ap (λ l. (k, Opened o) ∷ l) (placed_done (suc k) xs none)
placed_done k (Happened e a ended ∷ xs) none = ap (λ l. (k, Happened e a ended) ∷ l) (placed_done (suc k) xs none)
placed_done k (Halted at risen ∷ xs) none = ap (λ l. (k, Halted at risen) ∷ l) (placed_done (suc k) xs none)
placed_done k (Lifted batch ∷ xs) none = let sum = sum_by-cons (λ (x : Occurrence). one_if (is_lift x)) (Lifted batch) xs in absurd (omega (arith, none, sum))
placed_done k (Landed ∷ xs) none = ap (λ l. (k, Landed) ∷ l) (placed_done (suc k) xs none)

pub done_more : (old new : Known Occurrence) (k : ℕ) (xs : List Occurrence) → count_by is_lift xs ≡ 0 → made new ≡ made old ++ placed_at k xs → done_by new ≡ done_by old ++ placed_at k xs
done_more old new k xs none makes = ap (filter is_done) makes ∙ (filter-append is_done (made old) (placed_at k xs) ∙ ap (λ l. done_by old ++ l) (placed_done k xs none))

-- how many lifts there are
pub lifts_add : (xs ys : List Occurrence) → count_by is_lift (xs ++ ys) ≡ count_by is_lift xs + count_by is_lift ys
lifts_add xs ys = sum_by-append (λ (x : Occurrence). one_if (is_lift x)) xs ys

pub no_lift_more : (before added now : List Occurrence) → now ≡ before ++ added → IsLeftOver before now → count_by is_lift added ≡ 0
no_lift_more before added now is left = omega (arith, lifts_add before added, ap (count_by is_lift) is, ap (λ (a : Away). a.lifts) left)

-- ---- lifts that won't fail

lifts_behind : (n m : ℕ) (last : ℕ × Batch) (more : List Occurrence) (k : ℕ) (batch : Batch) → n ≤ last.0 → n ≤ m → failed_from m (Some last) more ≡ Some (k, batch) → n ≤ k
lifts_behind n m last [] k batch low low' e = absurd (cc e)
lifts_behind n m last (Opened o ∷ more) k batch low low' e = lifts_behind n (suc m) last more k batch low (omega (arith, low')) e
lifts_behind n m last (Happened event added ended ∷ more) k batch low low' e = lifts_behind n (suc m) last more k batch low (omega (arith, low')) e
lifts_behind n m last (Halted at risen ∷ more) k batch low low' e = let same : last.0 ≡ k = cc e in omega (arith, low, same)
lifts_behind n m last (Lifted next ∷ more) k batch low low' e = lifts_behind n (suc m) (m, next) more k batch low' (omega (arith, low')) e
lifts_behind n m last (Landed ∷ more) k batch low low' e = lifts_behind n (suc m) last more k batch low (omega (arith, low')) e

-- where the device is home, only a later lift can be the one that fails
fails_behind : (n : ℕ) (front more : List Occurrence) (last : Option (ℕ × Batch)) (k : ℕ) (batch : Batch) → AreInOrder (front ++ more) → flight_of front ≡ None → failed_from n last more ≡ Some (k, batch) → n ≤ k
fails_behind n front [] last k batch order home e = absurd (cc e)
fails_behind n front (Opened o ∷ more) last k batch order home e =
    let x = Opened o in
    let next = fails_behind (suc n) (front ++ x ∷ []) more last k batch (subst AreInOrder (sym (append_assoc front (x ∷ []) more)) order) (flight_more None front (x ∷ []) ∙ home) e in omega (arith, next)
fails_behind n front (Happened event added ended ∷ more) last k batch order home e =
    let x = Happened event added ended in
    let next = fails_behind (suc n) (front ++ x ∷ []) more last k batch (subst AreInOrder (sym (append_assoc front (x ∷ []) more)) order) (flight_more None front (x ∷ []) ∙ home) e in omega (arith, next)
fails_behind n front (Halted at risen ∷ more) last k batch order home e = let halt = (order front (Halted at risen) more refl).0 in let out = halt.out in absurd (cc (home, out))
fails_behind n front (Lifted next ∷ more) last k batch order home e = lifts_behind n (suc n) (n, next) more k batch (omega arith) (omega arith) e
fails_behind n front (Landed ∷ more) last k batch order home e =
    let next = fails_behind (suc n) (front ++ Landed ∷ []) more last k batch (subst AreInOrder (sym (append_assoc front (Landed ∷ []) more)) order) (flight_more None front (Landed ∷ [])) e in omega (arith, next)

failed_skip : (j : ℕ) (last : Option (ℕ × Batch)) (xs more : List Occurrence) → halt_of xs ≡ None → (last' : Option (ℕ × Batch)) × (failed_from j last (xs ++ more) ≡ failed_from (j + length xs) last' more)
failed_skip j last [] more calm = (last, ap (λ n. failed_from n last more) (let e : j ≡ j + 0 = omega arith in e))
failed_skip j last (Opened o ∷ xs) more calm =
    let r = failed_skip (suc j) last xs more calm in
    let n : suc j + length xs ≡ j + suc (length xs) = omega arith in
    (r.0, r.1 ∙ ap (λ m. failed_from m r.0 more) n)
failed_skip j last (Happened event added ended ∷ xs) more calm =
    let r = failed_skip (suc j) last xs more calm in
    let n : suc j + length xs ≡ j + suc (length xs) = omega arith in
    (r.0, r.1 ∙ ap (λ m. failed_from m r.0 more) n)
failed_skip j last (Halted at risen ∷ xs) more calm = absurd (cc)
failed_skip j last (Lifted batch ∷ xs) more calm =
    let r = failed_skip (suc j) (Some (j, batch)) xs more calm in
    let n : suc j + length xs ≡ j + suc (length xs) = omega arith in
    (r.0, r.1 ∙ ap (λ m. failed_from m r.0 more) n)
failed_skip j last (Landed ∷ xs) more calm =
    let r = failed_skip (suc j) last xs more calm in
    let n : suc j + length xs ≡ j + suc (length xs) = omega arith in
    (r.0, r.1 ∙ ap (λ m. failed_from m r.0 more) n)

pub wont_fail : (home : List Occurrence) (k : ℕ) → flight_of home ≡ None → halt_of home ≡ None → k < length home → WontFail k home
wont_fail home k landed running within later batch p order failed =
    let s = failed_skip 0 None home p.0 running in
    let low : 0 + length home ≤ k = fails_behind (0 + length home) home p.0 s.0 k batch (subst AreInOrder (sym p.1) order) landed (sym s.1 ∙ (ap failed_lift p.1 ∙ failed)) in
    absurd (omega (arith, low, within))

-- and it won't as the list goes on
pub wont_later : (k : ℕ) (list longer : List Occurrence) → IsPrefix list longer → WontFail k list → WontFail k longer
wont_later k list longer p wont later batch q order failed = wont later batch (prefix_trans list longer later p q) order failed
