-- Items at a place in a list, and events in turn.
use Rattle.std.proofs.Common.{◌≡◌, ◌∙◌, ℕ, zero, suc, ◌+◌, ◌<◌, ◌≤◌, true, List, [], ◌∷◌, ◌++◌, length, map, refl, ap, arith, Option, Some, None}
use Rattle.std.specs.Prelude.{option_and_then, slice_get}
use Rattle.std.specs.List.{range_with_len}
use Rattle.hy_base.specs.declared.workload.Event.{Event}
use Rattle.hy_base.specs.Lists.{change_nth, nth}
use Rattle.hy_base.specs.Script.{Workload}
use Rattle.hy_rules.specs.Moves.{State}
use Rattle.hy_rules.specs.Runs.{may_happen, run, step}
use Rattle.hy_rules.proofs.Backward.{next_state}

module _ {X : Type 0} where
  get_middle : (done : List X) (x : X) (todo : List X) → slice_get (done ++ x ∷ todo) (length done) ≡ Some x
  get_middle [] x todo = refl
  get_middle (d ∷ done) x todo = get_middle done x todo

  -- the item behind the first ones
  pub nth_middle : (done : List X) (x : X) (todo : List X) (n : ℕ) → n ≡ length done + 1 → nth (done ++ x ∷ todo) n ≡ Some x
  nth_middle done x todo n at =
      let next : n ≡ suc (length done) = omega (arith, at) in ap (nth (done ++ x ∷ todo)) next ∙ get_middle done x todo

  change_next : (f : X → X) (done : List X) (x : X) (todo : List X) → change_nth f (done ++ x ∷ todo) (suc (length done)) ≡ done ++ f x ∷ todo
  change_next f [] x todo = refl
  change_next f (d ∷ done) x todo = ap (λ xs. d ∷ xs) (change_next f done x todo)

  -- and the list with it changed
  pub change_middle : (f : X → X) (done : List X) (x : X) (todo : List X) (n : ℕ) → n ≡ length done + 1 → change_nth f (done ++ x ∷ todo) n ≡ done ++ f x ∷ todo
  change_middle f done x todo n at =
      let next : n ≡ suc (length done) = omega (arith, at) in ap (change_nth f (done ++ x ∷ todo)) next ∙ change_next f done x todo

-- an item of a list over numbers
pub get_ranged : {X : Type 0} (f : ℕ → X) (a n k : ℕ) → k < n → slice_get (map f (range_with_len a n)) k ≡ Some (f (a + k))
get_ranged f a zero k below = absurd (omega (arith, below))
get_ranged f a (suc n) zero below = let at : a ≡ a + 0 = omega arith in ap (λ i. Some (f i)) at
get_ranged f a (suc n) (suc k) below =
    let at : a + 1 + k ≡ a + suc k = omega arith in get_ranged f (a + 1) n k (omega (arith, below)) ∙ ap (λ i. Some (f i)) at

pub get_past : {X : Type 0} (f : ℕ → X) (a n k : ℕ) → n ≤ k → slice_get (map f (range_with_len a n)) k ≡ None
get_past f a zero k past = refl
get_past f a (suc n) zero past = absurd (omega (arith, past))
get_past f a (suc n) (suc k) past = get_past f (a + 1) n k (omega (arith, past))

-- events in turn, and then others
pub run_both : (script : Workload) (s t u : State) (first second : List Event) → run script s first ≡ Some t → run script t second ≡ Some u → run script s (first ++ second) ≡ Some u
run_both script s t u [] second p q = let same : s ≡ t = cc p in ap (λ (x : State). run script x second) same ∙ q
run_both script s t u (event ∷ first) second p q = go (step script s event) refl p (λ n. run_both script n t u first second)
  where
    go : (next : Option State) → step script s event ≡ next → option_and_then (λ n. run script n first) next ≡ Some t → ((n : State) → run script n first ≡ Some t → run script t second ≡ Some u → run script n (first ++ second) ≡ Some u)
        → option_and_then (λ n. run script n (first ++ second)) (step script s event) ≡ Some u
    go None is h rest = cc h
    go (Some n) is h rest = rw is (rest n h q)

-- one event that may happen
pub run_one : (script : Workload) (s : State) (event : Event) → may_happen script s event ≡ true → run script s (event ∷ []) ≡ Some (next_state script s event)
run_one script s event may = rw may refl
