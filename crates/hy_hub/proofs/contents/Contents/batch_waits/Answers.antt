use Rattle.std.proofs.Common.{◌≡◌, ℕ, zero, suc, List, [], ◌∷◌, take, map, ap, sym, ◌∙◌, subst, refl, inl, inr}
use Rattle.std.specs.List.{AllByRecursion}
use Rattle.hy_hub.specs.declared.occurrence.Occurrence.{Occurrence}
use Rattle.hy_hub.specs.declared.occurrence.Occurrence.TheVariants.{Opened, Happened, Halted, Lifted, Landed}
use Rattle.hy_hub.specs.Entries.{Asked}
use Rattle.hy_hub.specs.Shown.{clients_of, IsWaitedFor}
use Rattle.hy_hub.specs.Trace.{asked_event, events_told, flight_of}
use Rattle.hy_hub.proofs.Lowering.{appends_out}
use Rattle.hy_hub.proofs.contents.Contents.batch_waits.Goals as goal

-- more may wait
waited_more : (client : ℕ) (waiting : List ℕ) (xs : List Occurrence) → AllByRecursion (IsWaitedFor waiting) xs → AllByRecursion (IsWaitedFor (client ∷ waiting)) xs
waited_more client waiting [] all = tt
waited_more client waiting (x ∷ xs) all = (one x all.0, waited_more client waiting xs all.1)
  where
    one : (x : Occurrence) → IsWaitedFor waiting x → IsWaitedFor (client ∷ waiting) x
    one (Opened o) is = absurd is
    one (Happened event added ended) is = (is.0, is.1, inr is.2)
    one (Halted at risen) is = absurd is
    one (Lifted batch) is = absurd is
    one Landed is = absurd is

-- the events of the first so many that wait
first_waited : (count : ℕ) (waiting : List Asked) → AllByRecursion (IsWaitedFor (clients_of waiting)) (map asked_event (take count waiting))
first_waited zero waiting = tt
first_waited (suc count) [] = tt
first_waited (suc count) (asked ∷ waiting) = ((asked.client, refl, inl refl), waited_more asked.client (clients_of waiting) (map asked_event (take count waiting)) (first_waited count waiting))

pub returns : goal.returns
returns g c = λ batch is.
    let out = appends_out c.self.invariant.0 (ap (λ s. s.list) c.self.view_is) c.requires.appends in
    let same : out.batch ≡ batch = cc (out.is, ap (λ (s : _). flight_of s.list) c.self.view_is, is) in
    let events : events_told batch ≡ map asked_event (take out.count c.self.inside.waiting.items) = ap events_told (sym same) ∙ out.events_are in
    subst (λ (ws : List ℕ). AllByRecursion (IsWaitedFor ws) (events_told batch)) (ap (λ s. s.waiting) c.self.view_is)
    (subst (λ (xs : List Occurrence). AllByRecursion (IsWaitedFor (clients_of c.self.inside.waiting.items)) xs) (sym events) (first_waited out.count c.self.inside.waiting.items))
