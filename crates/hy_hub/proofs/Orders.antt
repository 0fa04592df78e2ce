-- Occurrences that stand in order, as the list goes on; and the batch at which the device failed.
use Rattle.std.proofs.Common.{◌≡◌, ℕ, suc, Bool, true, false, List, [], ◌∷◌, ◌++◌, length, Some, None, refl, ap, sym, ◌∙◌, subst, arith, append_assoc, length-append, ⊎_elim, inl, inr}
use Rattle.std.specs.Prelude.{◌⊎◌, Option, is_some, map, take}
use Rattle.std.specs.List.{AllByRecursion}
use Rattle.std.proofs.lemmas.List.{append-nil}
use Rattle.hy_base.specs.declared.record.EntryKind.{EntryKind}
use Rattle.hy_hub.specs.Entries.{Asked}
use Rattle.hy_hub.specs.Origin.{Origin}
use Rattle.hy_hub.specs.declared.occurrence.Occurrence.{Occurrence}
use Rattle.hy_hub.specs.declared.occurrence.Occurrence.TheVariants.{Opened, Happened, Halted, Lifted, Landed}
use Rattle.hy_hub.specs.declared.occurrence.Batch.{Batch}
use Rattle.hy_hub.specs.declared.occurrence.Batch.TheVariants.{Appends, Fillers}
use Rattle.hy_hub.specs.Trace.{halt_of, flight_of, flight_since, is_out, events_told, asked_event, batch_entries, failed_from, failed_lift, failed_entries, entries_of_lift}
use Rattle.hy_hub.specs.Appends.{IsHalt}
use Rattle.hy_base.specs.declared.workload.Event.{Event}
use Rattle.hy_hub.specs.Additions.{Additions}
use Rattle.hy_hub.specs.Order.{AreInOrder, StandsInOrder, StandsAsAdded, IsOfBatch}
use Rattle.hy_hub.proofs.Told.{flight_more}

-- an item of two lists, one behind the other, is one of the first or one of the second
abbrev pub IsInFirst : {X : Type 0} → List X → List X → List X → X → List X → Type 0
IsInFirst xs more before x after = (rest : List _) × (xs ≡ before ++ (x ∷ rest)) × (after ≡ rest ++ more)

abbrev pub IsInSecond : {X : Type 0} → List X → List X → List X → X → List X → Type 0
IsInSecond xs more before x after = (front : List _) × (before ≡ xs ++ front) × (more ≡ front ++ (x ∷ after))

pub split : {X : Type 0} (xs more before : List X) (x : X) (after : List X) → xs ++ more ≡ before ++ (x ∷ after) → IsInFirst xs more before x after ⊎ IsInSecond xs more before x after
split [] more before x after e = inr (before, refl, e)
split (y ∷ xs) more [] x after e =
    let same : y ≡ x = cc e in
    let rest : xs ++ more ≡ after = cc e in
    inl (xs, (λ i. same i ∷ xs), sym rest)
split (y ∷ xs) more (b ∷ before) x after e =
    let same : y ≡ b = cc e in
    let rest : xs ++ more ≡ before ++ (x ∷ after) = cc e in
    ⊎_elim (λ (r : IsInFirst xs more before x after). inl (r.0, (λ i. same i ∷ r.1 i), r.2)) (λ (r : IsInSecond xs more before x after). inr (r.0, (λ i. sym same i ∷ r.1 i), r.2)) (split xs more before x after rest)

-- an event of a batch is one as the list goes on
added_more : (es : List EntryKind) (before : List Occurrence) (x : Occurrence) (after more : List Occurrence) → StandsAsAdded es before x after → StandsAsAdded es before x (after ++ more)
added_more [] before x after more is = tt
added_more (e ∷ es) before x after more is = record {
  list = is.list;
  batch = is.batch;
  out = is.out;
  first = is.first;
  others = is.others;
  events = is.events;
  behind = is.behind ++ more;
  before_is = is.before_is;
  after_is = ap (λ l. l ++ more) is.after_is ∙ append_assoc is.others (Landed ∷ is.behind) more;
}

as_added : (es : List EntryKind) (before : List Occurrence) (x : Occurrence) (after : List Occurrence) → IsOfBatch before x after → StandsAsAdded es before x after
as_added [] before x after is = tt
as_added (e ∷ es) before x after is = is

-- an event that adds none may stand anywhere
pub none_stands : (event : Event) (added : Additions) (ended : Bool) (before : List Occurrence) → added.entries ≡ [] → StandsInOrder before (Happened event added ended) []
none_stands event added ended before none = subst (λ (es : List EntryKind). StandsAsAdded es before (Happened event added ended) []) (sym none) tt

-- one stands in order as the list goes on
stands_more : (before : List Occurrence) (x : Occurrence) (after more : List Occurrence) → StandsInOrder before x after → StandsInOrder before x (after ++ more)
stands_more before (Opened o) after more is = tt
stands_more before (Happened event added ended) after more is = added_more added.entries before (Happened event added ended) after more is
stands_more before (Halted at risen) after more is = (is.0, (is.1.0 ++ more, ap (λ l. l ++ more) is.1.1))
stands_more before (Lifted batch) after more is = is
stands_more before Landed after more is = is

pub order_more : (list more : List Occurrence) → AreInOrder list → ((front : List Occurrence) (x : Occurrence) (after : List Occurrence) → more ≡ front ++ (x ∷ after) → StandsInOrder (list ++ front) x after) → AreInOrder (list ++ more)
order_more list more order next before x after e =
    ⊎_elim (λ (r : IsInFirst list more before x after). subst (StandsInOrder before x) (sym r.2) (stands_more before x r.0 more (order before x r.0 r.1)))
    (λ (r : IsInSecond list more before x after). subst (λ (l : List Occurrence). StandsInOrder l x after) (sym r.1) (next r.0 x after r.2)) (split list more before x after e)

-- one more
pub order_one : (list : List Occurrence) (x : Occurrence) → AreInOrder list → StandsInOrder list x [] → AreInOrder (list ++ x ∷ [])
order_one list x order here = order_more list (x ∷ []) order at
  where
    at : (front : List Occurrence) (y : Occurrence) (after : List Occurrence) → x ∷ [] ≡ front ++ (y ∷ after) → StandsInOrder (list ++ front) y after
    at [] y after e =
        let same : x ≡ y = cc e in
        let none : [] ≡ after = cc e in
        subst (λ (z : Occurrence). StandsInOrder (list ++ []) z after) same (subst (λ (l : List Occurrence). StandsInOrder (list ++ []) x l) none (subst (λ (l : List Occurrence). StandsInOrder l x []) (sym (append-nil list)) here))
    at (z ∷ front) y after e = absurd (omega (arith, ap length e, length-append front (y ∷ after)))

-- an opening stands alone
pub order_first : (o : Origin) → AreInOrder (Opened o ∷ [])
order_first o = order_one [] (Opened o) (λ before x after e. absurd (omega (arith, ap length e, length-append before (x ∷ after)))) tt

-- ---- a landing

abbrev is_event : Occurrence → Bool
is_event (Opened o) = false
is_event (Happened event added ended) = true
is_event (Halted at risen) = false
is_event (Lifted batch) = false
is_event Landed = false

asked_events : (waiting : List Asked) → AllByRecursion (λ x. is_event x ≡ true) (map asked_event waiting)
asked_events [] = tt
asked_events (a ∷ waiting) = (refl, asked_events waiting)

told_events : (batch : Batch) → AllByRecursion (λ x. is_event x ≡ true) (events_told batch)
told_events (Appends waiting count ahead lifted) = asked_events (take count waiting.value.items)
told_events (Fillers server count lifted) = (refl, tt)

one_of : {X : Type 0} (P : X → Type 0) (front : List X) (x : X) (back : List X) → AllByRecursion P (front ++ (x ∷ back)) → P x
one_of P [] x back all = all.0
one_of P (y ∷ front) x back all = one_of P front x back all.1

-- events leave the batch out
flight_events : (out : Option Batch) (xs : List Occurrence) → AllByRecursion (λ x. is_event x ≡ true) xs → flight_since out xs ≡ out
flight_events out [] all = refl
flight_events out (Opened o ∷ xs) all = absurd (cc (all.0))
flight_events out (Happened event added ended ∷ xs) all = flight_events out xs all.1
flight_events out (Halted at risen ∷ xs) all = absurd (cc (all.0))
flight_events out (Lifted batch ∷ xs) all = absurd (cc (all.0))
flight_events out (Landed ∷ xs) all = absurd (cc (all.0))

event_stands : (list front rest : List Occurrence) (batch : Batch) (x : Occurrence) → is_event x ≡ true → flight_of list ≡ Some batch → events_told batch ≡ front ++ (x ∷ rest) → StandsInOrder (list ++ front) x (rest ++ Landed ∷ [])
event_stands list front rest batch (Opened o) event out told = tt
event_stands list front rest batch (Happened e added ended) event out told = as_added added.entries (list ++ front) (Happened e added ended) (rest ++ Landed ∷ []) (record {
  list = list;
  batch = batch;
  out = out;
  first = front;
  others = rest;
  events = told;
  behind = [];
  before_is = refl;
  after_is = refl;
})
event_stands list front rest batch (Halted at risen) event out told = absurd (cc event)
event_stands list front rest batch (Lifted b) event out told = absurd (cc event)
event_stands list front rest batch Landed event out told = absurd (cc event)

landing_stands : (list : List Occurrence) → is_out list ≡ true → (front : List Occurrence) (x : Occurrence) (after : List Occurrence) → Landed ∷ [] ≡ front ++ (x ∷ after) → StandsInOrder (list ++ front) x after
landing_stands list out [] x after e =
    let same : Landed ≡ x = cc e in
    subst (λ (z : Occurrence). StandsInOrder (list ++ []) z after) same (ap is_out (append-nil list) ∙ out)
landing_stands list out (z ∷ front) x after e = absurd (omega (arith, ap length e, length-append front (x ∷ after)))

pub order_landing : (list : List Occurrence) (batch : Batch) → AreInOrder list → flight_of list ≡ Some batch → AreInOrder (list ++ (events_told batch ++ Landed ∷ []))
order_landing list batch order out = order_more list (events_told batch ++ Landed ∷ []) order at
  where
    at : (front : List Occurrence) (x : Occurrence) (after : List Occurrence) → events_told batch ++ Landed ∷ [] ≡ front ++ (x ∷ after) → StandsInOrder (list ++ front) x after
    at front x after e =
        ⊎_elim (λ (r : IsInFirst (events_told batch) (Landed ∷ []) front x after).
        let event = one_of (λ y. is_event y ≡ true) front x r.0 (subst (AllByRecursion (λ y. is_event y ≡ true)) r.1 (told_events batch)) in
        subst (λ (l : List Occurrence). StandsInOrder (list ++ front) x l) (sym r.2) (event_stands list front r.0 batch x event out r.1))
        (λ (r : IsInSecond (events_told batch) (Landed ∷ []) front x after).
        let there = list ++ events_told batch in
        let still : is_out there ≡ true = ap is_some (flight_more None list (events_told batch) ∙ (ap (λ o. flight_since o (events_told batch)) out ∙ flight_events (Some batch) (events_told batch) (told_events batch))) in
        subst (λ (l : List Occurrence). StandsInOrder l x after) (append_assoc list (events_told batch) r.0 ∙ ap (λ l. list ++ l) (sym r.1)) (landing_stands there still r.0 x after r.2)) (split (events_told batch) (Landed ∷ []) front x after e)

-- the device failed, and landed
pub order_failing : (list : List Occurrence) (at risen : ℕ) → AreInOrder list → IsHalt list (Halted at risen ∷ []) → AreInOrder (list ++ (Halted at risen ∷ Landed ∷ []))
order_failing list at risen order halt = order_more list (Halted at risen ∷ Landed ∷ []) order here
  where
    here : (front : List Occurrence) (x : Occurrence) (after : List Occurrence) → Halted at risen ∷ Landed ∷ [] ≡ front ++ (x ∷ after) → StandsInOrder (list ++ front) x after
    here [] x after e =
        let same : Halted at risen ≡ x = cc e in
        let rest : Landed ∷ [] ≡ after = cc e in
        subst (λ (z : Occurrence). StandsInOrder (list ++ []) z after) same (subst (λ (l : List Occurrence). IsHalt l (Halted at risen ∷ [])) (sym (append-nil list)) halt, ([], sym rest))
    here (z ∷ front) x after e =
        let same : Halted at risen ≡ z = cc e in
        let rest : Landed ∷ [] ≡ front ++ (x ∷ after) = cc e in
        let there = list ++ Halted at risen ∷ [] in
        let still : is_out there ≡ true = ap is_some (flight_more None list (Halted at risen ∷ []) ∙ halt.out) in
        subst (λ (l : List Occurrence). StandsInOrder l x after) (append_assoc list (Halted at risen ∷ []) front ∙ ap (λ (y : Occurrence). list ++ (y ∷ front)) same) (landing_stands there still front x after rest)

-- ---- the batch at which the device failed

failed_quiet : (k : ℕ) (last : Option (ℕ × Batch)) (more : List Occurrence) → halt_of more ≡ None → failed_from k last more ≡ None
failed_quiet k last [] calm = refl
failed_quiet k last (Opened o ∷ more) calm = failed_quiet (suc k) last more calm
failed_quiet k last (Happened event added ended ∷ more) calm = failed_quiet (suc k) last more calm
failed_quiet k last (Halted at risen ∷ more) calm = absurd (cc)
failed_quiet k last (Lifted batch ∷ more) calm = failed_quiet (suc k) (Some (k, batch)) more calm
failed_quiet k last (Landed ∷ more) calm = failed_quiet (suc k) last more calm

failed_on : (k : ℕ) (last : Option (ℕ × Batch)) (xs more : List Occurrence) → halt_of more ≡ None → failed_from k last (xs ++ more) ≡ failed_from k last xs
failed_on k last [] more calm = failed_quiet k last more calm
failed_on k last (Opened o ∷ xs) more calm = failed_on (suc k) last xs more calm
failed_on k last (Happened event added ended ∷ xs) more calm = failed_on (suc k) last xs more calm
failed_on k last (Halted at risen ∷ xs) more calm = refl
failed_on k last (Lifted batch ∷ xs) more calm = failed_on (suc k) (Some (k, batch)) xs more calm
failed_on k last (Landed ∷ xs) more calm = failed_on (suc k) last xs more calm

-- without a halt it stays
pub failed_stays : (xs more : List Occurrence) → halt_of more ≡ None → failed_entries (xs ++ more) ≡ failed_entries xs
failed_stays xs more calm = ap entries_of_lift (failed_on 0 None xs more calm)

-- the batch that was out at the halt
failed_at : (k : ℕ) (last : Option (ℕ × Batch)) (out : Option Batch) (xs : List Occurrence) (at risen : ℕ) (more : List Occurrence) (batch : Batch) → ((b : Batch) → out ≡ Some b → (j : ℕ) × (last ≡ Some (j, b))) → halt_of xs ≡ None → flight_since out xs ≡ Some batch
    → (j : ℕ) × (failed_from k last (xs ++ (Halted at risen ∷ more)) ≡ Some (j, batch))
failed_at k last out [] at risen more batch link calm is = link batch is
failed_at k last out (Opened o ∷ xs) at risen more batch link calm is = failed_at (suc k) last out xs at risen more batch link calm is
failed_at k last out (Happened event added ended ∷ xs) at risen more batch link calm is = failed_at (suc k) last out xs at risen more batch link calm is
failed_at k last out (Halted h r ∷ xs) at risen more batch link calm is = absurd (cc)
failed_at k last out (Lifted next ∷ xs) at risen more batch link calm is =
    failed_at (suc k) (Some (k, next)) (Some next) xs at risen more batch (λ b e. (k, (let same : next ≡ b = cc e in ap (λ (n : Batch). Some (k, n)) same))) calm is
failed_at k last out (Landed ∷ xs) at risen more batch link calm is = failed_at (suc k) last None xs at risen more batch (λ b e. absurd (cc e)) calm is

pub failed_is : (list : List Occurrence) (batch : Batch) (at risen : ℕ) (more : List Occurrence) → halt_of list ≡ None → flight_of list ≡ Some batch → failed_entries (list ++ (Halted at risen ∷ more)) ≡ batch_entries batch
failed_is list batch at risen more calm out = ap entries_of_lift (failed_at 0 None None list at risen more batch (λ b e. absurd (cc e)) calm out).1

-- the lift of that batch stands in the list
abbrev IsLiftIn : List Occurrence → Batch → Type 0
IsLiftIn xs batch = (before : List Occurrence) × (after : List Occurrence) × (xs ≡ before ++ (Lifted batch ∷ after))

one_behind : (x : Occurrence) (last : Option (ℕ × Batch)) (lift : ℕ × Batch) (xs : List Occurrence) → (last ≡ Some lift) ⊎ IsLiftIn xs lift.1 → (last ≡ Some lift) ⊎ IsLiftIn (x ∷ xs) lift.1
one_behind x last lift xs found = ⊎_elim (λ (e : last ≡ Some lift). inl e) (λ (r : IsLiftIn xs lift.1). inr (x ∷ r.0, r.1, ap (λ l. x ∷ l) r.2)) found

failed_lifted : (n : ℕ) (last : Option (ℕ × Batch)) (xs : List Occurrence) (lift : ℕ × Batch) → failed_from n last xs ≡ Some lift → (last ≡ Some lift) ⊎ IsLiftIn xs lift.1
failed_lifted n last [] lift e = absurd (cc e)
failed_lifted n last (Opened o ∷ xs) lift e = one_behind (Opened o) last lift xs (failed_lifted (suc n) last xs lift e)
failed_lifted n last (Happened event added ended ∷ xs) lift e = one_behind (Happened event added ended) last lift xs (failed_lifted (suc n) last xs lift e)
failed_lifted n last (Halted at risen ∷ xs) lift e = inl e
failed_lifted n last (Lifted next ∷ xs) lift e =
    ⊎_elim (λ (is : Some (n, next) ≡ Some lift). let same : next ≡ lift.1 = cc is in inr ([], xs, ap (λ (b : Batch). Lifted b ∷ xs) same)) (λ (r : IsLiftIn xs lift.1). inr (Lifted next ∷ r.0, r.1, ap (λ l. Lifted next ∷ l) r.2))
    (failed_lifted (suc n) (Some (n, next)) xs lift e)
failed_lifted n last (Landed ∷ xs) lift e = one_behind Landed last lift xs (failed_lifted (suc n) last xs lift e)

pub failed_before : (list : List Occurrence) (lift : ℕ × Batch) → failed_lift list ≡ Some lift → (before : List Occurrence) × (after : List Occurrence) × (list ≡ before ++ (Lifted lift.1 ∷ after))
failed_before list lift e = ⊎_elim (λ (wrong : None ≡ Some lift). absurd (cc wrong)) (λ (r : IsLiftIn list lift.1). r) (failed_lifted 0 None list lift e)
