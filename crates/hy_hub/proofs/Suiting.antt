-- Lists that suit, as they go on, and what may be appended to them.
use Rattle.std.proofs.Common.{◌≡◌, ℕ, ◌+◌, ◌≤◌, List, [], ◌∷◌, ◌++◌, length, map, take, None, refl, ap, sym, subst, arith, append_assoc, length-append, ⊎_elim}
use Rattle.std.specs.Prelude.{Option}
use Rattle.std.specs.List.{AllByRecursion}
use Rattle.std.proofs.lemmas.List.{append-nil}
use mathlib.Core.List.{IsPrefix}
use Rattle.hy_base.specs.Lists.{change_nth}
use Rattle.hy_base.specs.declared.layout.Shape.{Shape}
use Rattle.hy_base.specs.declared.record.EntryKind.{EntryKind}
use Rattle.hy_base.specs.declared.workload.Event.{Event}
use Rattle.hy_base.specs.declared.workload.Home.{Home}
use Rattle.hy_base.specs.declared.workload.Session.{Session}
use Rattle.hy_base.proofs.ListLemmas.{all_map, all_push}
use Rattle.hy_rules.specs.Moves.{State}
use Rattle.hy_hub.specs.Kept.{KeptRolls}
use Rattle.hy_hist.proofs.Lists.{prefix_self, prefix_trans}
use Rattle.hy_hub.specs.declared.contents.Contents.TheInside.{Inside}
use Rattle.hy_hub.specs.declared.occurrence.Batch.{Batch}
use Rattle.hy_hub.specs.declared.occurrence.Batch.TheVariants.{Appends, Fillers}
use Rattle.hy_hub.specs.declared.occurrence.Occurrence.{Occurrence}
use Rattle.hy_hub.specs.declared.request.Ticket.{Ticket}
use Rattle.hy_hub.specs.declared.request.Ticket.TheVariants.{Stands}
use Rattle.hy_hub.specs.Entries.{Asked}
use Rattle.hy_hub.specs.Trace.{events_told, asked_event}
use Rattle.hy_hub.specs.Appends.{IsRunningFor}
use Rattle.hy_hub.specs.Hub.{IsTraced, IsQueue, IsAskedOf}
use Rattle.hy_hub.specs.Landing.{at_rest}
use Rattle.hy_hub.specs.Suits.{MayWait, MayEnd, SuitsNext, SuitsAt, AllSuit, IsSuited}
use Rattle.hy_hub.proofs.Telling.{asked_runs}
use Rattle.hy_hub.proofs.Orders.{IsInFirst, IsInSecond, split}
use Rattle.hy_hub.proofs.Queues.{all_around}
use Rattle.hy_hub.proofs.Landings.{one_traced, one_queue}
use Rattle.hy_hub.proofs.Lifting.{IsAppendsOf, all_taken}

only_one : {X : Type 0} (x y : X) (front after : List X) → x ∷ [] ≡ front ++ (y ∷ after) → (front ≡ []) × (x ≡ y)
only_one x y [] after e = (refl, cc e)
only_one x y (z ∷ front) after e = absurd (omega (arith, ap length e, length-append front (y ∷ after)))

module _ (suits : State → Event → List EntryKind → Type 0) where
  pub append_later : (list later : List Occurrence) (asked : Asked) → IsPrefix list later → MayWait suits list asked → MayWait suits later asked
  append_later list later asked p may further q here = may further (prefix_trans list later further p q) here

  pub end_later : (list later : List Occurrence) (client number snap : ℕ) → IsPrefix list later → MayEnd suits list client number snap → MayEnd suits later client number snap
  end_later list later client number snap p may further q here = may further (prefix_trans list later further p q) here

  all_later : (list later : List Occurrence) (waiting : List Asked) → IsPrefix list later → AllByRecursion (MayWait suits list) waiting → AllByRecursion (MayWait suits later) waiting
  all_later list later waiting p all = all_map (MayWait suits list) (MayWait suits later) (λ asked. append_later list later asked p) waiting all

  suits_more : (list more : List Occurrence) → AllSuit suits list → ((front : List Occurrence) (x : Occurrence) (after : List Occurrence) → more ≡ front ++ (x ∷ after) → SuitsAt suits (list ++ front) x) → AllSuit suits (list ++ more)
  suits_more list more all next before x after e =
      ⊎_elim (λ (r : IsInFirst list more before x after). all before x r.0 r.1) (λ (r : IsInSecond list more before x after). subst (λ (l : List Occurrence). SuitsAt suits l x) (sym r.1) (next r.0 x after r.2)) (split list more before x after e)

  -- one more
  pub suits_one : (list : List Occurrence) (x : Occurrence) → AllSuit suits list → SuitsAt suits list x → AllSuit suits (list ++ x ∷ [])
  suits_one list x all here = suits_more list (x ∷ []) all at
    where
      at : (front : List Occurrence) (y : Occurrence) (after : List Occurrence) → x ∷ [] ≡ front ++ (y ∷ after) → SuitsAt suits (list ++ front) y
      at front y after e =
          let r = only_one x y front after e in
          subst (λ (z : Occurrence). SuitsAt suits (list ++ front) z) r.1 (subst (λ (f : List Occurrence). SuitsAt suits (list ++ f) x) (sym r.0) (subst (λ (l : List Occurrence). SuitsAt suits l x) (sym (append-nil list)) here))

  pub suits_none : AllSuit suits []
  suits_none before x after e = absurd (omega (arith, ap length e, length-append before (x ∷ after)))

module _ {halt : Option ℕ} {from : ℕ} {entries : List EntryKind} {occurrences : List Occurrence} {shape : Shape} {homes : List Home} {boards : List KeptRolls} {sessions : List Session} (hub : IsTraced halt from entries occurrences shape homes boards sessions) where
  pub asked_here : {tickets : List Ticket} (asked : Asked) → IsAskedOf homes sessions tickets asked → IsRunningFor asked.client asked.number asked.entry occurrences
  asked_here asked is = asked_runs hub asked is.home is.session is.home_is is.session_is (is.number_is, is.begun, is.isolation) refl

  next_suits : (suits : State → Event → List EntryKind → Type 0) (tickets : List Ticket) (waiting : List Asked) → AllByRecursion (IsAskedOf homes sessions tickets) waiting → AllByRecursion (MayWait suits occurrences) waiting → AllByRecursion (SuitsNext suits occurrences) (map asked_event waiting)
  next_suits suits tickets [] all may = tt
  next_suits suits tickets (a ∷ waiting) all may = ((may.0 occurrences (prefix_self occurrences) (asked_here a all.0)).0, next_suits suits tickets waiting all.1 may.1)

  -- a batch of the first that wait
  pub batch_suits : (suits : State → Event → List EntryKind → Type 0) (tickets : List Ticket) (waiting : List Asked) (batch : Batch) (n m : ℕ) → IsAppendsOf n m waiting batch → AllByRecursion (IsAskedOf homes sessions tickets) waiting → AllByRecursion (MayWait suits occurrences) waiting
      → AllByRecursion (SuitsNext suits occurrences) (events_told batch)
  batch_suits suits tickets waiting (Appends waited count ahead lifted) n m is all may =
      subst (AllByRecursion (SuitsNext suits occurrences)) (λ i. map asked_event (take (sym is.0 i) (sym is.2 i)))
      (next_suits suits tickets (take n waiting) (all_taken (IsAskedOf homes sessions tickets) n waiting all) (all_taken (MayWait suits occurrences) n waiting may))
  batch_suits suits tickets waiting (Fillers server count lifted) n m is all may = absurd is

-- entries that wait land, one after another
pub land_suits : {from : ℕ} (suits : State → Event → List EntryKind → Type 0) (entries : List EntryKind) (occurrences : List Occurrence) {shape : Shape} {homes : List Home} {boards : List KeptRolls} (sessions : List Session) (tickets : List Ticket) (xs rest : List Asked)
    → IsTraced None from entries occurrences shape homes boards sessions → IsQueue occurrences homes sessions (xs ++ rest) tickets → AllByRecursion (λ a. a.version ≡ shape.version) xs → length entries + length xs ≤ shape.cap → AllSuit suits occurrences → AllByRecursion (MayWait suits occurrences) (xs ++ rest)
    → AllSuit suits (occurrences ++ map asked_event xs) × AllByRecursion (MayWait suits (occurrences ++ map asked_event xs)) rest
land_suits suits entries occurrences sessions tickets [] rest hub queue versions room all may = (subst (AllSuit suits) (sym (append-nil occurrences)) all, subst (λ (l : List Occurrence). AllByRecursion (MayWait suits l) rest) (sym (append-nil occurrences)) may)
land_suits suits entries occurrences {shape} sessions tickets (a ∷ xs) rest hub queue versions room all may =
    let below : length entries + 1 ≤ shape.cap = omega (arith, room) in
    let event = (may.0 occurrences (prefix_self occurrences) (asked_here hub a queue.asked.0)).0 in
    let r = land_suits suits (entries ++ a.entry ∷ []) (occurrences ++ asked_event a ∷ []) (change_nth (at_rest (length entries + 1)) sessions a.client) (change_nth (λ _. Stands (length occurrences) (length entries + 1) a) tickets a.client) xs rest (one_traced hub queue versions.0 (omega (arith, below))) (one_queue hub queue versions.0 (omega (arith, below))) versions.1
    (let size = length-append entries (a.entry ∷ []) in omega (arith, size, room)) (suits_one suits occurrences (asked_event a) all event) (all_later suits occurrences (occurrences ++ asked_event a ∷ []) (xs ++ rest) (asked_event a ∷ [], refl) may.1) in
    let longer = append_assoc occurrences (asked_event a ∷ []) (map asked_event xs) in
    (subst (AllSuit suits) longer r.0, subst (λ (l : List Occurrence). AllByRecursion (MayWait suits l) rest) longer r.1)

-- a list goes on by one that suits, and what waits may still be appended
pub suits_on : (suits : State → Event → List EntryKind → Type 0) (list : List Occurrence) (waiting : List Asked) (x : Occurrence) → AllSuit suits list → AllByRecursion (MayWait suits list) waiting → SuitsAt suits list x
    → AllSuit suits (list ++ x ∷ []) × AllByRecursion (MayWait suits (list ++ x ∷ [])) waiting
suits_on suits list waiting x all may here = (suits_one suits list x all here, all_later suits list (list ++ x ∷ []) waiting (x ∷ [], refl) may)

module _ {D B : Type 0} {suits : State → Event → List EntryKind → Type 0} {c : Inside D B} (is : IsSuited suits c) where
  -- the list goes on by one that suits
  pub suited_one : {now : List Occurrence} (x : Occurrence) → now ≡ c.occurrences.items ++ x ∷ [] → SuitsAt suits c.occurrences.items x → AllSuit suits now × AllByRecursion (MayWait suits now) c.waiting.items
  suited_one x grown here = rw grown (suits_on suits c.occurrences.items c.waiting.items x is.events is.waits here)

  -- one more may wait
  pub suited_push : {list : List Occurrence} (asked : Asked) → c.occurrences.items ≡ list → MayWait suits list asked → AllByRecursion (MayWait suits c.occurrences.items) (c.waiting.items ++ asked ∷ [])
  suited_push asked same may = all_push (MayWait suits c.occurrences.items) c.waiting.items asked is.waits (subst (λ (l : List Occurrence). MayWait suits l asked) (sym same) may)

  -- one no longer does
  pub suited_remove : (front : List Asked) (asked : Asked) (back : List Asked) → c.waiting.items ≡ front ++ (asked ∷ back) → AllByRecursion (MayWait suits c.occurrences.items) (front ++ back)
  suited_remove front asked back split = (all_around (MayWait suits c.occurrences.items) front asked back (subst (AllByRecursion (MayWait suits c.occurrences.items)) split is.waits)).1
