-- Who waits in the content is claimed by a pass.
use Rattle.std.proofs.Common.{◌≡◌, ◌≢◌, ℕ, List, [], ◌∷◌, ◌++◌, set, refl, sym, ap, ◌∙◌, inl, ⊎_elim}
use Rattle.std.specs.Prelude.{Some, None}
use mathlib.Core.Option.{some, some-injective}
use mathlib.Core.Logic.{dite}
use native.Mathlib.Decide.{ℕ_discrete}
use lib.ListN.{get_elem?}
use Rattle.atomic_table.proofs.Lists.{set_else, at_longer}
use Rattle.hy_hist.specs.declared.rule.PassView.{PassView}
use Rattle.hy_hist.specs.Passes.{IsAmong, AreOwn, WaitByClaim}
use Rattle.hy_hist.specs.Rule.{IsClaimed, AreClaimed}
use Rattle.hy_hist.proofs.Lists.{at_set_here}

module _ {T : Type 0} where
  -- the pass that is found at the claimer's place is the claimer
  is_claimer : (views : List (PassView T)) (n : ℕ) (c : IsClaimed views n) (id : ℕ) (v : PassView T) → get_elem? views id ≡ some v → id ≡ c.claimer → v.claim ≡ Some n
  is_claimer views n c id v at here = ap (λ (u : PassView T). u.claim) (some-injective v c.view (sym at ∙ ap (get_elem? views) here ∙ c.at)) ∙ c.claims

  -- a pass changes that goes on claiming, or not
  pub claimed_set : (views : List (PassView T)) (waiting : List ℕ) (id : ℕ) (v w : PassView T) → get_elem? views id ≡ some v → w.claim ≡ v.claim → AreClaimed views waiting → AreClaimed (set views id w) waiting
  claimed_set views waiting id v w at same claimed n among =
      let c = claimed n among in
      dite (ℕ_discrete id c.claimer)
      (λ here. record { claimer = id; view = w; at = at_set_here views id v w at; claims = same ∙ is_claimer views n c id v at here })
      (λ away. record { claimer = c.claimer; view = c.view; at = set_else views id c.claimer w (λ k. away (sym k)) ∙ c.at; claims = c.claims })

  pub claimed_snoc : (views : List (PassView T)) (waiting : List ℕ) (u : PassView T) → AreClaimed views waiting → AreClaimed (views ++ u ∷ []) waiting
  claimed_snoc views waiting u claimed n among =
      let c = claimed n among in record { claimer = c.claimer; view = c.view; at = at_longer views (u ∷ []) c.claimer c.view c.at; claims = c.claims }

  -- a pass claims another number, or none, as others come to wait
  pub claimed_count : (views : List (PassView T)) (before now : List ℕ) (id : ℕ) (v w : PassView T) → get_elem? views id ≡ some v → WaitByClaim before v.claim w.claim now → AreClaimed views before → AreClaimed (set views id w) now
  claimed_count views before now id v w at waits claimed n among = ⊎_elim
      (λ (mine : w.claim ≡ Some n). record { claimer = id; view = w; at = at_set_here views id v w at; claims = mine })
      (λ (was : IsAmong n before × (v.claim ≡ Some n → w.claim ≡ Some n)).
      let c = claimed n was.0 in
      dite (ℕ_discrete id c.claimer)
      (λ here. record { claimer = id; view = w; at = at_set_here views id v w at; claims = was.1 (is_claimer views n c id v at here) })
      (λ away. record { claimer = c.claimer; view = c.view; at = set_else views id c.claimer w (λ k. away (sym k)) ∙ c.at; claims = c.claims }))
      (waits.each n among)

  -- where all others claim nothing, who waits is one's own
  pub all_own : (views : List (PassView T)) (waiting : List ℕ) (id : ℕ) (v : PassView T) → get_elem? views id ≡ some v → ((j : ℕ) (u : PassView T) → get_elem? views j ≡ some u → j ≢ id → u.claim ≡ None) → AreClaimed views waiting → AreOwn v.claim waiting
  all_own views waiting id v at others claimed = record {
    each = λ n among.
        let c = claimed n among in
        dite (ℕ_discrete id c.claimer)
        (λ here. is_claimer views n c id v at here)
        (λ away. absurd (cc (sym (others c.claimer c.view c.at (λ k. away (sym k))) ∙ c.claims)));
  }

pub nobody : (waiting : List ℕ) → ((n : ℕ) → IsAmong n waiting → ⊥) → waiting ≡ []
nobody [] none = refl
nobody (n ∷ ns) none = absurd (none n (inl refl))
