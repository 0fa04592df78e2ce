-- The boards that servers keep besides their last ones.
use Rattle.std.proofs.Common.{◌≡◌, ℕ, zero, suc, ◌-◌, ◌≤◌, Bool, true, false, cond, List, [], ◌∷◌, ◌++◌, length, map, take, replicate, Some, None, refl, ap, sym, ◌∙◌, subst, arith}
use Rattle.std.specs.Prelude.{Option, IsSome, option_map, option_to_list, find, nat_le, slice_get, unwrap_or}
use Rattle.std.specs.List.{AllByRecursion, last_or}
use Rattle.std.proofs.lemmas.List.{take-map}
use Rattle.std.proofs.lemmas.Bool.{le-leb}
use Rattle.hy_base.specs.declared.record.EntryKind.{EntryKind}
use Rattle.hy_base.specs.Lists.{nth, change_nth}
use Rattle.hy_base.specs.Script.{Workload}
use Rattle.hy_base.proofs.ListLemmas.{all_map}
use Rattle.hy_base.proofs.NthLemmas.{all_nth, nth_in_map}
use Rattle.hy_roll_laws.specs.Rolling.{Roll, rolled_upto}
use Rattle.hy_rules.specs.Moves.{board_of, keeping, least_kept}
use Rattle.hy_core.specs.CoreParts.{Holding, IsHolding, IsServerBoard, kept_rollers, keeping_rolls, newest_upto, state_in_course}
use Rattle.hy_core.proofs.Boards.{boards_grow}

-- ---- a log that grows

pub earlier_grow : (script : Workload) (log more : List EntryKind) (hs : List (List Roll)) → AllByRecursion (AllByRecursion (IsServerBoard script log)) hs → AllByRecursion (AllByRecursion (IsServerBoard script (log ++ more))) hs
earlier_grow script log more hs all = all_map (AllByRecursion (IsServerBoard script log)) (AllByRecursion (IsServerBoard script (log ++ more))) (boards_grow script log more) hs all

-- ---- a server that moves on

all_taken : {X : Type 0} (P : X → Type 0) (n : ℕ) (xs : List X) → AllByRecursion P xs → AllByRecursion P (take n xs)
all_taken P zero xs all = tt
all_taken P (suc n) [] all = tt
all_taken P (suc n) (x ∷ xs) all = (all.0, all_taken P n xs all.1)

pub all_keeping : (P : Roll → Type 0) (keeps : ℕ) (r : Roll) (hs : List (List Roll)) (n : ℕ) → P r → AllByRecursion (AllByRecursion P) hs → AllByRecursion (AllByRecursion P) (change_nth (keeping_rolls keeps r) hs n)
all_keeping P keeps r [] n p all = tt
all_keeping P keeps r (h ∷ hs) zero p all = all
all_keeping P keeps r (h ∷ hs) (suc zero) p all = (all_taken P (keeps - 1) (r ∷ h) (p, all.0), all.1)
all_keeping P keeps r (h ∷ hs) (suc (suc n)) p all = (all.0, all_keeping P keeps r hs (suc n) p all.1)

-- its positions are those of the rules
pub keeping_is : (keeps : ℕ) (r : Roll) (hs : List (List Roll)) (n : ℕ) → map (map rolled_upto) (change_nth (keeping_rolls keeps r) hs n) ≡ change_nth (keeping keeps (rolled_upto r)) (map (map rolled_upto) hs) n
keeping_is keeps r [] n = refl
keeping_is keeps r (h ∷ hs) zero = refl
keeping_is keeps r (h ∷ hs) (suc zero) = ap (λ l. l ∷ map (map rolled_upto) hs) (sym (take-map rolled_upto (keeps - 1) (r ∷ h)))
keeping_is keeps r (h ∷ hs) (suc (suc n)) = ap (λ l. map rolled_upto h ∷ l) (keeping_is keeps r hs (suc n))

-- ---- a restart, and an opening

pub all_cleared : (P : Roll → Type 0) (hs : List (List Roll)) → AllByRecursion (AllByRecursion P) (map (λ older. []) hs)
all_cleared P [] = tt
all_cleared P (h ∷ hs) = (tt, all_cleared P hs)

pub cleared : (hs : List (List Roll)) → map (map rolled_upto) (map (λ older. []) hs) ≡ map (λ older. []) (map (map rolled_upto) hs)
cleared [] = refl
cleared (h ∷ hs) = ap (λ l. [] ∷ l) (cleared hs)

pub all_empty : (P : Roll → Type 0) (n : ℕ) → AllByRecursion (AllByRecursion P) (replicate n [])
all_empty P zero = tt
all_empty P (suc n) = (tt, all_empty P n)

pub empty_is : (n : ℕ) → map (map rolled_upto) (replicate n []) ≡ replicate n []
empty_is zero = refl
empty_is (suc n) = ap (λ l. [] ∷ l) (empty_is n)

-- ---- the oldest

last_is : {X : Type 0} (o : Option X) (x : X) (xs : List X) → slice_get (x ∷ xs) (length xs) ≡ last_or o (x ∷ xs)
last_is o x [] = refl
last_is o x (y ∷ xs) = last_is (Some x) y xs

last_mapped : {X Y : Type 0} (f : X → Y) (o : Option X) (xs : List X) → last_or (option_map f o) (map f xs) ≡ option_map f (last_or o xs)
last_mapped f o [] = refl
last_mapped f o (x ∷ xs) = last_mapped f (Some x) xs

-- the last item of a list, by its place
pub last_at : (xs : List Roll) → last_or None (map rolled_upto xs) ≡ option_map rolled_upto (slice_get xs (length xs - 1))
last_at [] = refl
last_at (x ∷ xs) = last_mapped rolled_upto None (x ∷ xs) ∙ ap (option_map rolled_upto) (sym (last_is None x xs) ∙ (let e : length xs ≡ length (x ∷ xs) - 1 = omega arith in ap (slice_get (x ∷ xs)) e))

-- ---- the newest that hasn't passed a position

-- what all are, the one that is found is, and it passes the test
pub found_all : {X : Type 0} (P : X → Type 0) (p : X → Bool) (xs : List X) (x : X) → find p xs ≡ Some x → AllByRecursion P xs → P x × (p x ≡ true)
found_all P p [] x e all = absurd (cc)
found_all {X} P p (y ∷ ys) x e all = by (p y) refl e (λ h. found_all P p ys x h all.1)
  where
    by : (b : Bool) → p y ≡ b → cond b (Some y) (find p ys) ≡ Some x → (find p ys ≡ Some x → P x × (p x ≡ true)) → P x × (p x ≡ true)
    by true t h rest = let same : y ≡ x = cc h in (subst P same all.0, subst (λ (z : X). p z ≡ true) same t)
    by false t h rest = rest h

-- where an item passes the test, one is found
found_first : {X : Type 0} (p : X → Bool) (x : X) (xs : List X) → p x ≡ true → IsSome (find p (x ∷ xs))
found_first p x xs is = subst (λ b. IsSome (cond b (Some x) (find p xs))) (sym is) refl

found_later : {X : Type 0} (p : X → Bool) (x : X) (xs : List X) → IsSome (find p xs) → IsSome (find p (x ∷ xs))
found_later p x xs some = by (p x)
  where
    by : (b : Bool) → IsSome (cond b (Some x) (find p xs))
    by true = refl
    by false = some

-- the board doesn't lie past the position, or the oldest one doesn't
pub board_found : (pos : ℕ) (r : Roll) (rs : List Roll) → rolled_upto r ≤ pos → IsSome (newest_upto pos (r ∷ rs))
board_found pos r rs low = found_first (λ x. nat_le (rolled_upto x) pos) r rs (le-leb (rolled_upto r) pos low)

pub oldest_found : (pos : ℕ) (r : Roll) (rs : List Roll) → unwrap_or (last_or None (map rolled_upto rs)) (rolled_upto r) ≤ pos → IsSome (newest_upto pos (r ∷ rs))
oldest_found pos r [] low = board_found pos r [] low
oldest_found pos r (s ∷ rs) low = found_later (λ x. nat_le (rolled_upto x) pos) r (s ∷ rs) (last_found s rs (Some 0) low)
  where
    last_found : (x : Roll) (xs : List Roll) (o : Option ℕ) → unwrap_or (last_or (Some (rolled_upto x)) (map rolled_upto xs)) (rolled_upto r) ≤ pos → IsSome (newest_upto pos (x ∷ xs))
    last_found x [] o below = board_found pos x [] below
    last_found x (y ∷ ys) o below = found_later (λ z. nat_le (rolled_upto z) pos) x (y ∷ ys) (last_found y ys o below)

-- ---- what a server keeps

-- its board and its earlier ones
pub kept_are : (h : Holding) (server : ℕ) (r : Roll) (rs : List Roll) → nth h.rollers server ≡ Some r → nth h.earlier server ≡ Some rs → kept_rollers h server ≡ r ∷ rs
kept_are h server r rs own older = λ i. option_to_list (own i) ++ unwrap_or (older i) []

pub kept_boards : (script : Workload) (h : Holding) (server : ℕ) (r : Roll) (rs : List Roll) → IsHolding script h → nth h.rollers server ≡ Some r → nth h.earlier server ≡ Some rs → AllByRecursion (IsServerBoard script h.log) (r ∷ rs)
kept_boards script h server r rs is own older =
    (all_nth (IsServerBoard script h.log) h.rollers server r is.boards own, all_nth (AllByRecursion (IsServerBoard script h.log)) h.earlier server rs is.earlier older)

-- the least position that it keeps
pub least_is : (h : Holding) (server : ℕ) (rs : List Roll) → nth h.earlier server ≡ Some rs → least_kept (state_in_course h) server ≡ unwrap_or (last_or None (map rolled_upto rs)) (board_of (state_in_course h) server)
least_is h server rs older =
    ap (λ o. unwrap_or (last_or None (unwrap_or o [])) (board_of (state_in_course h) server)) (nth_in_map (map rolled_upto) h.earlier server ∙ ap (option_map (map rolled_upto)) older)

pub least_none : (h : Holding) (server : ℕ) → nth h.earlier server ≡ None → least_kept (state_in_course h) server ≡ board_of (state_in_course h) server
least_none h server none =
    ap (λ o. unwrap_or (last_or None (unwrap_or o [])) (board_of (state_in_course h) server)) (nth_in_map (map rolled_upto) h.earlier server ∙ ap (option_map (map rolled_upto)) none)
