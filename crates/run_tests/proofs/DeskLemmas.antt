-- The desk of the tests, with one more mark.
use Rattle.std.proofs.Common.{◌≡◌, ◌⊎◌, ◌↔◌, ℕ, suc, ◌+◌, List, [], ◌∷◌, ◌++◌, length, Option, Some, None, IfSome, refl, ap, ◌∙◌, subst, inr, arith, length-append}
use Rattle.std.specs.Prelude.{not, slice_get}
use Rattle.hy_hist.specs.Passes.{Known, Makes, made, WaitByClaim}
use Rattle.hy_hist.specs.Turns.{Turns}
use Rattle.run_tests.specs.Desk.{is_away, moves, Counts, CountsAt}
use Rattle.hy_hist.proofs.Turned.{makes_last}

pub away_number : (marks : List (Option ℕ)) (n : ℕ) → is_away (marks ++ Some n ∷ []) ≡ is_away marks
away_number [] n = refl
away_number (Some m ∷ marks) n = away_number marks n
away_number (None ∷ marks) n = ap not (away_number marks n)

pub moves_number : (marks : List (Option ℕ)) (n : ℕ) → moves (marks ++ Some n ∷ []) ≡ moves marks
moves_number [] n = refl
moves_number (Some m ∷ marks) n = moves_number marks n
moves_number (None ∷ marks) n = ap suc (moves_number marks n)

pub away_moved : (marks : List (Option ℕ)) → is_away (marks ++ None ∷ []) ≡ not (is_away marks)
away_moved [] = refl
away_moved (Some m ∷ marks) = away_moved marks
away_moved (None ∷ marks) = ap not (away_moved marks)

-- the item at the place that a turn names is made by its pass
pub made_own : {T : Type 0} (held new : Known T) (mine : Option ℕ) (list : List T) (x : T) → ((k : ℕ) (y : T) → Makes new k y ↔ (Makes held k y ⊎ ((mine ≡ Some k) × (slice_get new.seen k ≡ Some y)))) → new.seen ≡ list → IfSome mine (λ k. slice_get list k ≡ Some x)
    → IfSome mine (λ k. Makes new k x)
made_own held new None list x made seen at = tt
made_own held new (Some k) list x made seen at = (made k x).1 (inr (refl, ap (λ l. slice_get l k) seen ∙ at))

pub one_more : (old new : Known (Option ℕ)) (number : ℕ) (place : Option ℕ) → Turns old new (CountsAt number place) → IfSome place (λ _. length (made new) ≡ length (made old) + 1)
one_more old new number None t = tt
one_more old new number (Some k) t =
    let done : (k ≡ length t.before) × (t.added ≡ Some number ∷ []) = subst (λ m. Counts number t.before t.added m) t.done.0 t.done.1 in
    let last = makes_last old new (CountsAt number (Some k)) t (Some number) (t.done.0 ∙ ap Some done.0) done.1 in
    omega (arith, ap length last, length-append (made old) ((length t.before, Some number) ∷ []))

-- nobody waits at the desk
pub none_wait : (before : List ℕ) (claimed claim : Option ℕ) → WaitByClaim before claimed claim []
none_wait before claimed claim = record { each = λ n among. absurd among }
