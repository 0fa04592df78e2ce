-- Who waits, as entries come and go.
use Rattle.std.proofs.Common.{◌≡◌, ◌≢◌, ◌≤◌, ◌⊎◌, ℕ, zero, suc, ◌+◌, Bool, true, false, List, [], ◌∷◌, ◌++◌, take, drop, length, Option, Some, None, refl, sym, ap, ◌∙◌, subst, inl, inr, ⊎_elim, arith}
use Rattle.std.specs.Prelude.{slice_get, is_some}
use Rattle.std.specs.List.{AllByRecursion}
use Rattle.hy_base.specs.Lists.{nth}
use Rattle.hy_base.specs.declared.workload.Home.{Home}
use Rattle.hy_base.specs.declared.workload.Session.{Session}
use Rattle.hy_hist.specs.Passes.{IsAmong, WaitByClaim}
use Rattle.hy_hub.specs.Entries.{Asked}
use Rattle.hy_hub.specs.HoldSteps.{claim_after}
use Rattle.hy_formats.specs.declared.header.Header.{Header}
use Rattle.hy_base.specs.declared.record.EntryKind.{EntryKind}
use Rattle.hy_disk.specs.Content.{Content}
use Rattle.hy_log.specs.Pipelined.{PipeView}
use Rattle.hy_hub.specs.declared.occurrence.Batch.{Batch}
use Rattle.hy_hub.specs.declared.occurrence.Batch.TheVariants.{Appends, Fillers}
use Rattle.hy_hub.specs.Hub.{IsAskedOf, IsFlight, IsPlaced, halt_in}
use Rattle.hy_hub.specs.Shown.{clients_of, NobodyComes, NobodyElseComes, IsAbsent, IsClaimOf, WaitAfter}
use Rattle.hy_hub.specs.declared.request.Ticket.{Ticket}
use Rattle.hy_hub.specs.declared.request.Ticket.TheVariants.{Waits as StillWaits}
use Rattle.hy_hub.specs.declared.step.AppendStep.{AppendStep}
use Rattle.hy_hub.specs.declared.step.AppendStep.TheVariants.{Answered, Leads, Waits}

pub same_waits : (before now : List ℕ) → now ≡ before → NobodyComes before now
same_waits before now same = record { each = λ n among. subst (IsAmong n) same among }

pub comes_twice : (before mid now : List ℕ) → NobodyComes before mid → NobodyComes mid now → NobodyComes before now
comes_twice before mid now first second = record { each = λ n among. first.each n (second.each n among) }

pub nobody_else : (client : ℕ) (before now : List ℕ) → NobodyComes before now → NobodyElseComes client before now
nobody_else client before now none = record { each = λ n among. inr (none.each n among) }

-- those that are cut off at the front no longer wait
pub dropped_waits : (k : ℕ) (ws : List Asked) → NobodyComes (clients_of ws) (clients_of (drop k ws))
dropped_waits k ws = record { each = λ n among. gone k ws n among }
  where
    gone : (k : ℕ) (ws : List Asked) (n : ℕ) → IsAmong n (clients_of (drop k ws)) → IsAmong n (clients_of ws)
    gone zero ws n among = among
    gone (suc k) [] n among = among
    gone (suc k) (w ∷ ws) n among = inr (gone k ws n among)

-- nor does one in the middle
pub removed_waits : (k : ℕ) (ws : List Asked) → NobodyComes (clients_of ws) (clients_of (take k ws ++ drop (k + 1) ws))
removed_waits k ws = record { each = λ n among. gone k (k + 1) (omega arith) ws n among }
  where
    gone : (k m : ℕ) → m ≡ k + 1 → (ws : List Asked) (n : ℕ) → IsAmong n (clients_of (take k ws ++ drop m ws)) → IsAmong n (clients_of ws)
    gone zero zero e ws n among = absurd (omega (arith, e))
    gone zero (suc zero) e [] n among = among
    gone zero (suc zero) e (w ∷ ws) n among = inr among
    gone zero (suc (suc m)) e ws n among = absurd (omega (arith, e))
    gone (suc k) zero e ws n among = absurd (omega (arith, e))
    gone (suc k) (suc m) e [] n among = among
    gone (suc k) (suc m) e (w ∷ ws) n among = ⊎_elim (λ (here : w.client ≡ n). inl here) (λ (rest : IsAmong n (clients_of (take k ws ++ drop m ws))). inr (gone k m (omega (arith, e)) ws n rest)) among

pub pushed_waits : (ws : List Asked) (asked : Asked) → NobodyElseComes asked.client (clients_of ws) (clients_of (ws ++ asked ∷ []))
pushed_waits ws asked = record { each = λ n among. more ws n among }
  where
    more : (ws : List Asked) (n : ℕ) → IsAmong n (clients_of (ws ++ asked ∷ [])) → (n ≡ asked.client) ⊎ IsAmong n (clients_of ws)
    more [] n among = ⊎_elim (λ (e : asked.client ≡ n). inl (sym e)) (λ (none : ⊥). absurd none) among
    more (w ∷ ws) n among = ⊎_elim (λ (e : w.client ≡ n). inr (inl e)) (λ (rest : IsAmong n (clients_of (ws ++ asked ∷ []))). ⊎_elim (λ (e : n ≡ asked.client). inl e) (λ (there : IsAmong n (clients_of ws)). inr (inr there)) (more ws n rest)) among

-- a client whose ticket doesn't wait has no entry that does
pub free_absent : (homes : List Home) (sessions : List Session) (tickets : List Ticket) (client : ℕ) (ticket : Ticket) (ws : List Asked) → AllByRecursion (IsAskedOf homes sessions tickets) ws → nth tickets client ≡ Some ticket → ticket ≢ StillWaits → IsAbsent client (clients_of ws)
free_absent homes sessions tickets client ticket ws asked at other = record { none = λ among. no ws asked among }
  where
    no : (ws : List Asked) → AllByRecursion (IsAskedOf homes sessions tickets) ws → IsAmong client (clients_of ws) → ⊥
    no [] all among = among
    no (w ∷ ws) all among = ⊎_elim
        (λ (e : w.client ≡ client). let there = all.0.ticket in let here : nth tickets client ≡ Some StillWaits = ap (nth tickets) (sym e) ∙ there in let same : ticket ≡ StillWaits = cc (at, here) in other same)
        (λ (rest : IsAmong client (clients_of ws)). no ws all.1 rest) among

-- nor has one that wasn't found
pub unfound_absent : (client from : ℕ) (ws : List Asked) → from ≡ 0 → ((k : ℕ) (a : Asked) → from ≤ k → slice_get ws k ≡ Some a → a.client ≢ client) → IsAbsent client (clients_of ws)
unfound_absent client from ws first none = record { none = λ among. no ws (λ k a at. none k a (omega (arith, first)) at) among }
  where
    no : (ws : List Asked) → ((k : ℕ) (a : Asked) → slice_get ws k ≡ Some a → a.client ≢ client) → IsAmong client (clients_of ws) → ⊥
    no [] none among = among
    no (w ∷ ws) none among = ⊎_elim (λ (e : w.client ≡ client). none 0 w refl e) (λ (rest : IsAmong client (clients_of ws)). no ws (λ k a at. none (suc k) a at) rest) among

pub after_entered : {D : Type 0} (client : ℕ) (step : AppendStep D) (before mid now : List ℕ) → NobodyElseComes client before mid → WaitAfter client step mid now → WaitAfter client step before now
after_entered client (Answered answer own) before mid now first second =
    (record { each = λ n among. ⊎_elim (λ (e : n ≡ client). absurd (second.1.none (subst (λ (m : ℕ). IsAmong m now) e among))) (λ (was : IsAmong n before). was) (first.each n (second.0.each n among)) }, second.1)
after_entered client (Leads flight since) before mid now first second = record { each = λ n among. ⊎_elim (λ (e : n ≡ client). inl e) (λ (was : IsAmong n mid). first.each n was) (second.each n among) }
after_entered client Waits before mid now first second = record { each = λ n among. ⊎_elim (λ (e : n ≡ client). inl e) (λ (was : IsAmong n mid). first.each n was) (second.each n among) }

-- ---- by the claims of a pass

pub claim_none : (client : ℕ) (claim : Option ℕ) → claim ≡ None → IsClaimOf client claim
claim_none client claim none = record { each = λ n e. absurd (cc (none, e)) }

pub claim_own : (client : ℕ) (claim : Option ℕ) → claim ≡ Some client → IsClaimOf client claim
claim_own client claim own = record { each = λ n e. let same : n ≡ client = cc (own, e) in same }

-- a call that claims nothing lets nobody in
pub waits_unclaimed : (before now : List ℕ) (claimed claim : Option ℕ) → NobodyComes before now → claimed ≡ None → WaitByClaim before claimed claim now
waits_unclaimed before now claimed claim comes none = record { each = λ n among. inr (comes.each n among, λ e. absurd (cc (none, e))) }

-- one that goes on claiming neither
pub waits_on : (before now : List ℕ) (claimed claim : Option ℕ) → NobodyComes before now → claim ≡ claimed → WaitByClaim before claimed claim now
waits_on before now claimed claim comes same = record { each = λ n among. inr (comes.each n among, λ e. same ∙ e) }

-- one that gives its claim up doesn't wait
pub waits_given_up : (client : ℕ) (before now : List ℕ) (claimed claim : Option ℕ) → IsClaimOf client claimed → NobodyComes before now → IsAbsent client now → WaitByClaim before claimed claim now
waits_given_up client before now claimed claim of comes absent = record { each = λ n among. inr (comes.each n among, λ e. absurd (absent.none (subst (λ (m : ℕ). IsAmong m now) (of.each n e) among))) }

waits_else : (client : ℕ) (before now : List ℕ) (claimed : Option ℕ) → IsClaimOf client claimed → NobodyElseComes client before now → WaitByClaim before claimed (Some client) now
waits_else client before now claimed of comes = record {
  each = λ n among. ⊎_elim (λ (e : n ≡ client). inl (ap Some (sym e))) (λ (was : IsAmong n before). inr (was, λ e. ap Some (sym (of.each n e)))) (comes.each n among);
}

pub waits_after : {D : Type 0} (client : ℕ) (step : AppendStep D) (before now : List ℕ) (claimed : Option ℕ) → IsClaimOf client claimed → WaitAfter client step before now → WaitByClaim before claimed (claim_after client step) now
waits_after client (Answered answer own) before now claimed of after = waits_given_up client before now claimed None of after.0 after.1
waits_after client (Leads flight since) before now claimed of after = waits_else client before now claimed of after
waits_after client Waits before now claimed of after = waits_else client before now claimed of after

pub claim_kept : {D : Type 0} (client : ℕ) (step : AppendStep D) (claim : Option ℕ) → claim ≡ claim_after client step → IsClaimOf client claim
claim_kept client (Answered answer own) claim is = claim_none client claim is
claim_kept client (Leads flight since) claim is = claim_own client claim is
claim_kept client Waits claim is = claim_own client claim is

-- ---- when none is in flight

-- none is while the device is home, or the log is full
pub none_in_flight : (flight : Option Batch) (entries : List EntryKind) (cap : ℕ) (waiting : List Asked) (in_flight : ℕ) → IsFlight flight entries cap waiting in_flight → (is_some flight ≡ false) ⊎ (cap ≤ length entries) → in_flight ≡ 0
none_in_flight None entries cap waiting in_flight is rests = is
none_in_flight (Some (Appends waited count ahead lifted)) entries cap waiting in_flight is rests = ⊎_elim
    (λ (home : true ≡ false). absurd (cc home))
    (λ (full : cap ≤ length entries). let some = is.1 in let room = is.5 in absurd (omega (arith, full, some, room))) rests
none_in_flight (Some (Fillers server count lifted)) entries cap waiting in_flight is rests = is.0

-- a log that stopped is home
pub stopped_home : {D : Type 0} (tells : Bool) (content : D → Content) (leaves : D → (List ℕ → Type 0) → Type 0) (least : ℕ) (faults : D → ℕ) (opened : ℕ) (header : Header) (failed : List EntryKind) (flight : Option Batch) (log : Option (PipeView D)) (entries : List EntryKind)
    → IsPlaced tells content leaves least faults opened header failed flight log entries → halt_in log ≢ None → is_some flight ≡ false
stopped_home tells content leaves least faults opened header failed None None entries placed halted = refl
stopped_home tells content leaves least faults opened header failed None (Some log) entries placed halted = refl
stopped_home tells content leaves least faults opened header failed (Some batch) None entries placed halted = absurd (halted refl)
stopped_home tells content leaves least faults opened header failed (Some batch) (Some log) entries placed halted = absurd placed
