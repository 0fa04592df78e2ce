-- What a call did alone: where its pass has all parts.
use Rattle.std.proofs.Common.{◌≡◌, ℕ, zero, suc, ◌+◌, ◌<◌, ◌≤◌, Bool, true, List, [], ◌∷◌, ◌++◌, length, Some, None, refl, ap, sym, ◌∙◌, subst, arith, append_assoc, length-append, ⊎_elim, inl, inr}
use Rattle.std.specs.Prelude.{◌≢◌, ◌⊎◌, ⊤, Option, Ok, Err, slice_get, nat_lt, if◌then◌else◌}
use Rattle.std.specs.List.{AllByRecursion}
use Rattle.std.proofs.lemmas.List.{append-nil}
use Rattle.std.proofs.lemmas.Bool.{lt-ltb}
use mathlib.Core.List.{IsPrefix}
use Rattle.hy_base.specs.declared.faults.Failed.{Failed}
use Rattle.hy_hist.specs.Passes.{Lock, Known, Makes, made, IsAmong}
use Rattle.hy_hist.proofs.Made.{at_front, prefix_get}
use Rattle.hy_hub.specs.declared.occurrence.Occurrence.{Occurrence}
use Rattle.hy_hub.specs.declared.occurrence.Occurrence.TheVariants.{Opened, Happened, Halted, Lifted, Landed}
use Rattle.hy_hub.specs.declared.occurrence.Batch.{Batch}
use Rattle.hy_hub.specs.Entries.{Asked}
use Rattle.hy_base.specs.declared.workload.Event.TheVariants.{Refuse}
use Rattle.hy_hub.specs.Additions.{nothing_added}
use Rattle.hy_hub.specs.Trace.{is_lift, events_told, flight_of}
use Rattle.hy_hub.specs.Calls.{AppendsFor, LiftedBetween, IsLedBy, LeadsAlone}
use Rattle.hy_hub.specs.Shown.{IsWaitedFor}
use Rattle.hy_hub.specs.Appends.{AppendDoes}
use Rattle.hy_hub.specs.Flights.{Lands, FlightAdvances, PadAdvances, IsOwn}
use Rattle.hy_hub.specs.HoldSteps.{own_place, own_pad_place}
use Rattle.hy_hub.specs.Holds.{KeepsMade, AreLed, StaysAlone, LeadsStill, HasLifted, LandingLeaves, lift_of}
use Rattle.hy_hub.specs.declared.step.Flight.{Flight}
use Rattle.hy_hub.specs.declared.step.AppendStep.{AppendStep}
use Rattle.hy_hub.specs.declared.step.AppendStep.TheVariants.{Answered, Leads, Waits}
use Rattle.hy_hub.specs.declared.step.PadStep.{PadStep}
use Rattle.hy_hub.specs.declared.step.PadStep.TheVariants.{Answered as PadAnswered, Leads as PadLeads, Waits as PadWaits}
use Rattle.hy_hub.specs.declared.occurrence.AppendRefusal.{AppendRefusal}
use Rattle.hy_hub.specs.declared.occurrence.AppendRefusal.TheVariants.{Memory as OutOfMemory, OutOfTurn as NotBegun, Full, Stopped, Device}
use Rattle.hy_hub.proofs.WrittenOut.{keeps_made, get_within}
use Rattle.hy_hub.proofs.Stepping.{AreMarks}

-- an item of two lists, one behind the other
split_at : (xs ys : List Occurrence) (k : ℕ) (x : Occurrence) → slice_get (xs ++ ys) k ≡ Some x → (slice_get xs k ≡ Some x) ⊎ ((i : ℕ) × (k ≡ length xs + i) × (slice_get ys i ≡ Some x))
split_at [] ys k x e = inr (k, (let same : k ≡ 0 + k = omega arith in same), e)
split_at (y ∷ xs) ys zero x e = inl e
split_at (y ∷ xs) ys (suc k) x e =
    ⊎_elim (λ (here : slice_get xs k ≡ Some x). inl here) (λ (there : (i : ℕ) × (k ≡ length xs + i) × (slice_get ys i ≡ Some x)). inr (there.0, (let is = there.1 in omega (arith, is)), there.2)) (split_at xs ys k x e)

-- what a pass made more doesn't change what it made before
module _ (old new : Known Occurrence) (keeps : KeepsMade old new) (from : ℕ) where
  pub lifted_kept : (a b : ℕ) → a ≤ b → LiftedBetween old from a → LiftedBetween new from b
  lifted_kept a b less is = record { at = is.at; batch = is.batch; since = is.since; before = (let low = is.before in omega (arith, low, less)); own = keeps is.at (Lifted is.batch) is.own }

  led_kept : (of : Option ℕ) (place : ℕ) (x : Occurrence) → IsLedBy of old from place x → IsLedBy of new from place x
  led_kept of place (Opened o) led = led
  led_kept of place (Happened event added ended) led =
      ⊎_elim (λ (led : AppendsFor of event × LiftedBetween old from place). inl (led.0, lifted_kept place place (omega arith) led.1)) (λ (own : Makes old place (Happened event added ended)). inr (keeps place (Happened event added ended) own)) led
  led_kept of place (Halted at risen) led = lifted_kept place place (omega arith) led
  led_kept of place (Lifted batch) led = keeps place (Lifted batch) led
  led_kept of place Landed led = lifted_kept place place (omega arith) led

-- what stands in a list from a place on was led by a pass, but for a lift at a place
abbrev pub AreLedIn : Option ℕ → ℕ → Option ℕ → Known Occurrence → List Occurrence → Type 0
AreLedIn of from pending pass list = (place : ℕ) (x : Occurrence) → from ≤ place → slice_get list place ≡ Some x → IsLedBy of pass from place x ⊎ ((pending ≡ Some place) × (is_lift x ≡ true))

-- a lift that was still to be made is made now
lift_made : (of : Option ℕ) (pass : Known Occurrence) (from place : ℕ) (x : Occurrence) → is_lift x ≡ true → Makes pass place x → IsLedBy of pass from place x
lift_made of pass from place (Opened o) lift own = absurd (cc lift)
lift_made of pass from place (Happened event added ended) lift own = absurd (cc lift)
lift_made of pass from place (Halted at risen) lift own = absurd (cc lift)
lift_made of pass from place (Lifted batch) lift own = own
lift_made of pass from place Landed lift own = absurd (cc lift)

pub all_kept : (of : Option ℕ) (from : ℕ) (pending : Option ℕ) (old new : Known Occurrence) → KeepsMade old new → ((k : ℕ) (x : Occurrence) → pending ≡ Some k → slice_get old.seen k ≡ Some x → Makes new k x) → AreLed of from pending old → AreLedIn of from None new old.seen
all_kept of from pending old new keeps marked led place x behind there =
    ⊎_elim (λ (l : IsLedBy of old from place x). inl (led_kept old new keeps from of place x l)) (λ (p : (pending ≡ Some place) × (is_lift x ≡ true)). inl (lift_made of new from place x p.1 (marked place x p.0 there))) (led place x behind there)

-- the list goes on
more_led : (of : Option ℕ) (from : ℕ) (before now : Option ℕ) (pass : Known Occurrence) (list more : List Occurrence) → before ≡ None → AreLedIn of from before pass list → ((i : ℕ) (x : Occurrence) → slice_get more i ≡ Some x → IsLedBy of pass from (length list + i) x ⊎ ((now ≡ Some (length list + i)) × (is_lift x ≡ true))) → AreLedIn of from now pass (list ++ more)
more_led of from before now pass list more none led next place x behind there =
    ⊎_elim
    (λ (here : slice_get list place ≡ Some x). ⊎_elim (λ (l : IsLedBy of pass from place x). inl l) (λ (p : (before ≡ Some place) × (is_lift x ≡ true)). absurd (cc (none, p.0))) (led place x behind here))
    (λ (past : (i : ℕ) × (place ≡ length list + i) × (slice_get more i ≡ Some x)). subst (λ (k : ℕ). IsLedBy of pass from k x ⊎ ((now ≡ Some k) × (is_lift x ≡ true))) (sym past.1) (next past.0 x past.2))
    (split_at list more place x there)

-- events of those for whom a call was made, halts and landings, before which the pass made a lift
abbrev pub IsOfLift : Option ℕ → Occurrence → Type 0
IsOfLift of (Opened o) = ⊥
IsOfLift of (Happened event added ended) = AppendsFor of event
IsOfLift of (Halted at risen) = ⊤
IsOfLift of (Lifted batch) = ⊥
IsOfLift of Landed = ⊤

led_of_lift : (of : Option ℕ) (pass : Known Occurrence) (from place : ℕ) (x : Occurrence) → IsOfLift of x → LiftedBetween pass from place → IsLedBy of pass from place x
led_of_lift of pass from place (Opened o) is lifted = absurd is
led_of_lift of pass from place (Happened event added ended) is lifted = inl (is, lifted)
led_of_lift of pass from place (Halted at risen) is lifted = lifted
led_of_lift of pass from place (Lifted batch) is lifted = absurd is
led_of_lift of pass from place Landed is lifted = lifted

of_lift_at : (of : Option ℕ) (xs : List Occurrence) (i : ℕ) (x : Occurrence) → AllByRecursion (IsOfLift of) xs → slice_get xs i ≡ Some x → IsOfLift of x
of_lift_at of [] i x all there = absurd (cc there)
of_lift_at of (y ∷ xs) zero x all there = let same : y ≡ x = cc there in subst (IsOfLift of) same all.0
of_lift_at of (y ∷ xs) (suc i) x all there = of_lift_at of xs i x all.1 there

pub of_lift_led : (of : Option ℕ) (from : ℕ) (pass : Known Occurrence) (list more : List Occurrence) → LiftedBetween pass from (length list) → AllByRecursion (IsOfLift of) more → AreLedIn of from None pass list → AreLedIn of from None pass (list ++ more)
of_lift_led of from pass list more lifted all led = more_led of from None None pass list more refl led
    (λ i x there. inl (led_of_lift of pass from (length list + i) x (of_lift_at of more i x all there) (record { at = lifted.at; batch = lifted.batch; since = lifted.since; before = (let low = lifted.before in omega (arith, low)); own = lifted.own })))

-- a lift at the end is still to be made
one_at : (x y : Occurrence) (i : ℕ) → slice_get (y ∷ []) i ≡ Some x → (i ≡ 0) × (y ≡ x)
one_at x y zero there = (refl, (let same : y ≡ x = cc there in same))
one_at x y (suc i) there = absurd (cc there)

pub lift_pending : (of : Option ℕ) (from : ℕ) (pass : Known Occurrence) (list : List Occurrence) (lift : ℕ) (batch : Batch) → lift ≡ length list → AreLedIn of from None pass list → AreLedIn of from (Some lift) pass (list ++ Lifted batch ∷ [])
lift_pending of from pass list lift batch place led = more_led of from None (Some lift) pass list (Lifted batch ∷ []) refl led
    (λ i x there. let one = one_at x (Lifted batch) i there in inr (ap Some (let none = one.0 in let e : lift ≡ length list + i = omega (arith, place, none) in e), sym (ap is_lift one.1)))

-- an event or a lift
abbrev pub IsOwnKind : Occurrence → Type 0
IsOwnKind (Opened o) = ⊥
IsOwnKind (Happened event added ended) = ⊤
IsOwnKind (Halted at risen) = ⊥
IsOwnKind (Lifted batch) = ⊤
IsOwnKind Landed = ⊥

-- an item at the end is the pass's own
own_led_by : (of : Option ℕ) (pass : Known Occurrence) (from place : ℕ) (x : Occurrence) → IsOwnKind x → Makes pass place x → IsLedBy of pass from place x
own_led_by of pass from place (Opened o) kind own = absurd kind
own_led_by of pass from place (Happened event added ended) kind own = inr own
own_led_by of pass from place (Halted at risen) kind own = absurd kind
own_led_by of pass from place (Lifted batch) kind own = own
own_led_by of pass from place Landed kind own = absurd kind

pub own_led : (of : Option ℕ) (from : ℕ) (pass : Known Occurrence) (list : List Occurrence) (x : Occurrence) → IsOwnKind x → Makes pass (length list) x → AreLedIn of from None pass list → AreLedIn of from None pass (list ++ x ∷ [])
own_led of from pass list x kind own led = more_led of from None None pass list (x ∷ []) refl led
    (λ i y there. let one = one_at y x i there in
    inl (subst (λ (z : Occurrence). IsLedBy of pass from (length list + i) z) one.1 (own_led_by of pass from (length list + i) x kind (subst (λ (k : ℕ). Makes pass k x) (let none = one.0 in let e : length list ≡ length list + i = omega (arith, none) in e) own))))

-- an event of a client who waits is one of those for whom a call was made, where nobody else waits
waited_for : (of : Option ℕ) (waiting : List ℕ) (x : Occurrence) → ((n : ℕ) → IsAmong n waiting → of ≡ Some n) → IsWaitedFor waiting x → IsOfLift of x
waited_for of waiting (Opened o) own waits = absurd waits
waited_for of waiting (Happened event added ended) own waits = subst (λ (o : Option ℕ). AppendsFor o event) (sym (own waits.0 waits.2)) waits.1
waited_for of waiting (Halted at risen) own waits = absurd waits
waited_for of waiting (Lifted batch) own waits = absurd waits
waited_for of waiting Landed own waits = absurd waits

-- so are those of a batch, and its landing is of the lift
batch_of_lift : (of : Option ℕ) (waiting : List ℕ) (xs : List Occurrence) → ((n : ℕ) → IsAmong n waiting → of ≡ Some n) → AllByRecursion (IsWaitedFor waiting) xs → AllByRecursion (IsOfLift of) (xs ++ Landed ∷ [])
batch_of_lift of waiting [] own waits = (tt, tt)
batch_of_lift of waiting (x ∷ xs) own waits = (waited_for of waiting x own waits.0, batch_of_lift of waiting xs own waits.1)

pub landed_of_lift : (of : Option ℕ) (waiting : List ℕ) (at : ℕ) (before added : List Occurrence) → ((n : ℕ) → IsAmong n waiting → of ≡ Some n) → ((batch : Batch) → flight_of before ≡ Some batch → AllByRecursion (IsWaitedFor waiting) (events_told batch)) → Lands (Ok at) before added → AllByRecursion (IsOfLift of) added
landed_of_lift of waiting at before added own waits lands = subst (AllByRecursion (IsOfLift of)) (sym lands.1.2) (batch_of_lift of waiting (events_told lands.1.0) own (waits lands.1.0 lands.1.1))

pub failed_of_lift : (of : Option ℕ) (e : Failed) (before added : List Occurrence) → Lands (Err e) before added → AllByRecursion (IsOfLift of) added
failed_of_lift of e before added lands = subst (AllByRecursion (IsOfLift of)) (sym (lands.2.2 ∙ ap (λ l. l ++ Landed ∷ []) lands.2.1.is)) (tt, (tt, tt))

-- a landing, by the pass before it, as it holds, and after it: the lift that was still to be made is marked
pub home_alone : (of : Option ℕ) (from : ℕ) (before mine : Option ℕ) (old held new : Known Occurrence) (added home : List Occurrence) → held.seen ≡ old.seen → made held ≡ made old → AreMarks mine held new → IsPrefix home new.seen → home ≡ held.seen ++ added
    → ((k : ℕ) → before ≡ Some k → mine ≡ Some k) → AllByRecursion (IsOfLift of) added → LiftedBetween old from (length old.seen) → AreLed of from before old → LiftedBetween new from (length new.seen) × AreLedIn of from None new home
home_alone of from before mine old held new added home whole same marks past is marked all lifted led =
    let keeps : KeepsMade old new = keeps_made old held new same (λ k x m. (marks k x).1 (inl m)) in
    let here : home ≡ old.seen ++ added = is ∙ ap (λ l. l ++ added) whole in
    let kept = all_kept of from before old new keeps (λ k x e there. (marks k x).1 (inr (marked k e, prefix_get home new.seen k x past (prefix_get old.seen home k x (added, sym here) there)))) led in
    let size : length old.seen ≤ length new.seen = omega (arith, ap length here, length-append old.seen added, ap length past.1, length-append home past.0) in (
      lifted_kept old new keeps from (length old.seen) (length new.seen) size lifted,
      subst (AreLedIn of from None new) (sym here) (of_lift_led of from new old.seen added (lifted_kept old new keeps from (length old.seen) (length old.seen) (omega arith) lifted) all kept),
    )

-- and the device was perhaps lifted again
pub leaves_alone : (of : Option ℕ) {D : Type 0} (tells : Bool) (leaves : D → (List ℕ → Type 0) → Type 0) (least : ℕ) (faults : D → ℕ) (lock : Lock) (lifted : Option (Flight D)) (home : List Occurrence) (new : Known Occurrence) (from : ℕ) → LandingLeaves tells leaves least faults lock lifted home new → AreLedIn of from None new home → AreLed of from (lift_of lifted) new
leaves_alone of tells leaves least faults lock None home new from leaves_it led = subst (AreLedIn of from None new) (sym leaves_it.1) led
leaves_alone of tells leaves least faults lock (Some flight) home new from leaves_it led = subst (AreLedIn of from (Some flight.lift) new) (sym leaves_it.4.1) (lift_pending of from new home flight.lift leaves_it.4.0 leaves_it.3 led)

-- a landing of fillers, whose event is the pass's own
pub filled_alone : (of : Option ℕ) (from : ℕ) (old held new : Known Occurrence) (x : Occurrence) → held.seen ≡ old.seen → made held ≡ made old → AreMarks (Some (length held.seen)) held new → new.seen ≡ held.seen ++ (x ∷ Landed ∷ []) → IsOwnKind x
    → LiftedBetween old from (length old.seen) → AreLed of from None old → LiftedBetween new from (length new.seen) × AreLed of from None new
filled_alone of from old held new x whole same marks seen kind lifted led =
    let k = length held.seen in
    let keeps : KeepsMade old new = keeps_made old held new same (λ k x m. (marks k x).1 (inl m)) in
    let there : slice_get new.seen k ≡ Some x = ap (λ l. slice_get l k) seen ∙ at_front held.seen x (Landed ∷ []) k refl in
    let own : Makes new (length old.seen) x = subst (λ (n : ℕ). Makes new n x) (ap length whole) ((marks k x).1 (inr (refl, there))) in
    let kept = all_kept of from None old new keeps (λ k x e. absurd (cc e)) led in
    let one = own_led of from new old.seen x kind own kept in
    let here : new.seen ≡ (old.seen ++ x ∷ []) ++ Landed ∷ [] = seen ∙ (ap (λ l. l ++ (x ∷ Landed ∷ [])) whole ∙ sym (append_assoc old.seen (x ∷ []) (Landed ∷ []))) in
    let size : length old.seen ≤ length (old.seen ++ x ∷ []) = omega (arith, length-append old.seen (x ∷ [])) in
    let longer : length old.seen ≤ length new.seen = omega (arith, size, ap length here, length-append (old.seen ++ x ∷ []) (Landed ∷ [])) in (
      lifted_kept old new keeps from (length old.seen) (length new.seen) longer lifted,
      subst (AreLedIn of from None new) (sym here) (of_lift_led of from new (old.seen ++ x ∷ []) (Landed ∷ []) (lifted_kept old new keeps from (length old.seen) (length (old.seen ++ x ∷ [])) size lifted) (tt, tt) one),
    )

-- ---- a hold

module _ (of : Option ℕ) (from : ℕ) (mine : Option ℕ) (old held new : Known Occurrence) (whole : held.seen ≡ old.seen) (same : made held ≡ made old) (marks : AreMarks mine held new) (led : AreLed of from None old) where
  kept_here : AreLedIn of from None new old.seen
  kept_here = all_kept of from None old new (keeps_made old held new same (λ k x m. (marks k x).1 (inl m))) (λ k x e. absurd (cc e)) led

  -- that adds nothing
  none_alone : (added : List Occurrence) → new.seen ≡ held.seen ++ added → added ≡ [] → AreLed of from None new
  none_alone added seen none = subst (AreLedIn of from None new) (sym (seen ∙ (ap (λ l. held.seen ++ l) none ∙ (append-nil held.seen ∙ whole)))) kept_here

  -- that adds an item of its own
  own_alone : (x : Occurrence) → new.seen ≡ held.seen ++ x ∷ [] → IsOwnKind x → mine ≡ Some (length held.seen) → AreLed of from None new
  own_alone x seen kind own =
      let k = length held.seen in
      let there : slice_get new.seen k ≡ Some x = ap (λ l. slice_get l k) seen ∙ at_front held.seen x [] k refl in
      subst (AreLedIn of from None new) (sym (seen ∙ ap (λ l. l ++ x ∷ []) whole)) (own_led of from new old.seen x kind (subst (λ (n : ℕ). Makes new n x) (ap length whole) ((marks k x).1 (inr (own, there)))) kept_here)

-- what is refused adds an event, or nothing
refusal_kind : (asked : Asked) (e : AppendRefusal) (before : List Occurrence) (x : Occurrence) → AppendDoes asked.client asked.number asked.entry (Err e) before (x ∷ []) → e ≢ Device → IsOwnKind x
refusal_kind asked OutOfMemory before x does other = absurd (cc (does))
refusal_kind asked (NotBegun who phase) before x does other = absurd (cc (does.0))
refusal_kind asked Full before x does other = let same : x ≡ Happened (Refuse asked.client) nothing_added true = cc (does.0) in subst IsOwnKind (sym same) tt
refusal_kind asked (Stopped at) before x does other = absurd (cc (does.0))
refusal_kind asked Device before x does other = absurd (other refl)

module _ {D : Type 0} (tells : Bool) (leaves : D → (List ℕ → Type 0) → Type 0) (least : ℕ) (faults : D → ℕ) (asked : Asked) (since : ℕ) where
  pub stepped_alone : (of : Option ℕ) (step : AppendStep D) (from : ℕ) (old held new : Known Occurrence) (added : List Occurrence) → held.seen ≡ old.seen → made held ≡ made old → length added ≤ 1 → new.seen ≡ held.seen ++ added → AreMarks (own_place step) held new
      → FlightAdvances tells leaves least faults asked since step held.seen added → AreLed of from None old → AreLed of from None new
  stepped_alone of (Answered (Ok at) own) from old held new added whole same few seen marks does led = none_alone of from own old held new whole same marks led added seen does.0
  stepped_alone of (Answered (Err e) own) from old held new added whole same few seen marks does led = by added few seen does.0 does.1
    where
      by : (added : List Occurrence) → length added ≤ 1 → new.seen ≡ held.seen ++ added → AppendDoes asked.client asked.number asked.entry (Err e) held.seen added → IsOwn own held.seen added → AreLed of from None new
      by [] few seen is place = none_alone of from own old held new whole same marks led [] seen refl
      by (x ∷ []) few seen is place =
          let one : nat_lt 0 1 ≡ true = lt-ltb 0 1 (omega arith) in
          own_alone of from own old held new whole same marks led x seen (refusal_kind asked e held.seen x is does.3) (place ∙ ap (λ b. if b then Some (length held.seen) else None) one)
      by (x ∷ y ∷ added) few seen is place = absurd (omega (arith, few))
  stepped_alone of (Leads flight at) from old held new added whole same few seen marks does led =
      own_alone of from (Some flight.lift) old held new whole same marks led (Lifted does.0.batch) (seen ∙ ap (λ l. held.seen ++ l) does.0.is) tt (ap Some does.3)
  stepped_alone of Waits from old held new added whole same few seen marks does led = none_alone of from None old held new whole same marks led added seen does

pub pad_alone : (of : Option ℕ) {D : Type 0} (tells : Bool) (leaves : D → (List ℕ → Type 0) → Type 0) (least : ℕ) (faults : D → ℕ) (server : ℕ) (step : PadStep D) (from : ℕ) (old held new : Known Occurrence) (added : List Occurrence) → held.seen ≡ old.seen → made held ≡ made old → new.seen ≡ held.seen ++ added → AreMarks (own_pad_place step) held new
    → PadAdvances tells leaves least faults server step held.seen added → AreLed of from None old → AreLed of from None new
pad_alone of tells leaves least faults server (PadAnswered why) from old held new added whole same seen marks does led = none_alone of from None old held new whole same marks led added seen does.1
pad_alone of tells leaves least faults server (PadLeads flight count) from old held new added whole same seen marks does led =
    own_alone of from (Some flight.lift) old held new whole same marks led (Lifted does.0.batch) (seen ∙ ap (λ l. held.seen ++ l) does.0.is) tt (ap Some does.5)
pad_alone of tells leaves least faults server PadWaits from old held new added whole same seen marks does led = none_alone of from None old held new whole same marks led added seen does

-- ---- a call

-- nothing stands behind what a pass has seen
pub nothing_led : (of : Option ℕ) (first pass : Known Occurrence) → pass.seen ≡ first.seen → AreLed of (length first.seen) None pass
nothing_led of first pass same place x behind there = absurd (let within = get_within pass.seen place x there in omega (arith, behind, within, ap length same))

pub led_alone : (of : Option ℕ) (old new : Known Occurrence) → AreLed of (length old.seen) None new → LeadsAlone of old new
led_alone of old new led place x behind there = ⊎_elim (λ (l : IsLedBy of new (length old.seen) place x). l) (λ (p : (None ≡ Some place) × (is_lift x ≡ true)). absurd (cc (p.0))) (led place x behind there)

-- a call that lifted the device and put it back
pub written_alone : (of : Option ℕ) {lift : ℕ} (all : ℕ) (first mid lifted new : Known Occurrence) → IsPrefix first.seen mid.seen → mid.parts ≡ first.parts → HasLifted lift mid lifted → StaysAlone of all mid lifted → LeadsStill of all None None lifted new → first.parts ≡ all → AreLed of (length first.seen) None mid → AreLed of (length first.seen) None new
written_alone of {lift} all first mid lifted new grown parts lead stays still is led =
    let place = lead.place in
    let since : length first.seen ≤ lift = omega (arith, ap length grown.1, length-append first.seen grown.0, ap length lead.past.1, length-append mid.seen lead.past.0, place) in
    let before : lift < length lifted.seen = omega (arith, place, ap length lead.is, length-append lead.front (Lifted lead.batch ∷ [])) in
    (still (lead.parts ∙ (parts ∙ is)) (length first.seen) (record { at = lift; batch = lead.batch; since = since; before = before; own = lead.own }) (stays (parts ∙ is) (length first.seen) led)).1
