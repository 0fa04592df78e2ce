-- The first clash depends only on the last writer of each key.
use Rattle.std.proofs.Common.{◌≡◌, ℕ, ◌<◌, ◌≤◌, ◌⊎◌, Bool, true, false, cond, List, [], ◌∷◌, Option, Some, None, refl, sym, ap, ◌∙◌, subst, arith}
use Rattle.std.specs.Prelude.{IsTrue, ◌||◌, ◌&&◌, ◌==◌, nat_le}
use Rattle.std.specs.List.{list_any}
use Rattle.std.proofs.lemmas.Bool.{false≢true}
use Rattle.hy_base.specs.declared.record.Row.{Row}
use Rattle.hy_base.specs.declared.record.Clash.{Clash}
use Rattle.hy_base.specs.Lists.{put}
use Rattle.hy_base.specs.Rows.{Each, IsOrdered, WritersRise, row_before, applied, newest}
use Rattle.hy_base.specs.Marks.{is_past, late, first_late}
use Rattle.hy_base.proofs.EachLemmas.{Each-map, Each-filter}
use Rattle.hy_base.proofs.RowLemmas.{Each-newest, ordered_newest}
use Rattle.hy_rules.specs.Validation.{first_clash, earlier, comes_first}
use Rattle.hy_rules.specs.RuleLaws.{NotBefore, is_of}
use Rattle.hy_roll_laws.specs.RollingLaws.{LastWritersAreEnough}
use Rattle.hy_rules.proofs.Clashes.{first_is_first, no_first}

-- a row of the key stands among these, with no earlier writer
abbrev is_reached : Row → Row → Bool
is_reached r s = (s.key == r.key) && nat_le r.writer s.writer

abbrev pub Reaches : List Row → Row → Type 0
Reaches rows r = IsTrue (list_any (is_reached r) rows)

-- with first clashes: both none, or the same
precedes : (c d : Clash) → Type 0
precedes c d = (c.key < d.key) ⊎ ((c.key ≡ d.key) × (d.by ≤ c.by))

pick_case : (p : Row → Bool) (P : Row → Type 0) (Q : Type 0) (x : Row) (xs : List Row) (b : Bool) → p x ≡ b → ((r : Row) → p r ≡ true → P r → Q) → P x → IsTrue (b || list_any p xs) → (IsTrue (list_any p xs) → Q) → Q
pick_case p P Q x xs true e f here h later = f x e here
pick_case p P Q x xs false e f here h later = later h

-- of the rows one passes the test, and what holds of each holds of it
pick : (p : Row → Bool) (P : Row → Type 0) (Q : Type 0) → ((r : Row) → p r ≡ true → P r → Q) → (xs : List Row) → IsTrue (list_any p xs) → Each P xs → Q
pick p P Q f [] h a = absurd (false≢true h)
pick p P Q f (x ∷ xs) h a = pick_case p P Q x xs (p x) refl f a.0 h (λ h'. pick p P Q f xs h' a.1)

reach_before : (c d : Clash) (r s : Row) → is_of c r ≡ true → is_reached r s ≡ true → NotBefore d s → precedes d c
unfolding precedes
reach_before c d r s is reached first = grind arith

-- where each of the one list is reached in the other, the other's first clash is no later
first_no_later : (xs ys : List Row) (c d : Clash) → first_clash xs ≡ Some c → first_clash ys ≡ Some d → Each (Reaches ys) xs → precedes d c
first_no_later xs ys c d ex ey a =
    pick (is_of c) (Reaches ys) (precedes d c)
    (λ r is reached. pick (is_reached r) (NotBefore d) (precedes d c) (λ s up first. reach_before c d r s is up first) ys reached ((first_is_first ys).0 d ey).least)
    xs ((first_is_first xs).0 c ex).among a

same_clash : (c d : Clash) → precedes c d → precedes d c → c ≡ d
unfolding precedes
same_clash c d p q =
    let key : c.key ≡ d.key = grind arith in
    let by : c.by ≡ d.by = grind arith in
    λ i. record { key = key i; by = by i }

none_reached : (xs : List Row) → Each (Reaches []) xs → first_clash xs ≡ None
none_reached [] a = refl
none_reached (x ∷ xs) a = absurd (false≢true a.0)

same_first_of : (xs ys : List Row) (o p : Option Clash) → first_clash xs ≡ o → first_clash ys ≡ p → Each (Reaches ys) xs → Each (Reaches xs) ys → o ≡ p
same_first_of xs ys None None ex ey a b = refl
same_first_of xs ys None (Some d) ex ey a b = sym (none_reached ys (subst (λ l. Each (Reaches l) ys) (no_first xs ex) b)) ∙ ey
same_first_of xs ys (Some c) None ex ey a b = sym (sym (none_reached xs (subst (λ l. Each (Reaches l) xs) (no_first ys ey) a)) ∙ ex)
same_first_of xs ys (Some c) (Some d) ex ey a b = ap (λ x. Some x) (same_clash c d (first_no_later ys xs d c ey ex b) (first_no_later xs ys c d ex ey a))

pub same_first : (xs ys : List Row) → Each (Reaches ys) xs → Each (Reaches xs) ys → first_clash xs ≡ first_clash ys
same_first xs ys a b = same_first_of xs ys (first_clash xs) (first_clash ys) refl refl a b

-- ---- the newest rows reach all

reached_of : (r s : Row) (xs : List Row) → s.key ≡ r.key → r.writer ≤ s.writer → Reaches (s ∷ xs) r
reached_of r s xs key up = grind arith

pub reached_more : (r s : Row) (xs : List Row) → Reaches xs r → Reaches (s ∷ xs) r
reached_more r s xs h = any_more (is_reached r s) (list_any (is_reached r) xs) h
  where
    any_more : (a b : Bool) → IsTrue b → IsTrue (a || b)
    any_more true b h = refl
    any_more false b h = h

-- what is reached is reached still where a row is put that is no older than it
reached_put : (r w : Row) (xs : List Row) → r.writer ≤ w.writer → Reaches xs r → Reaches (put row_before w xs) r
reached_put r w [] up h = absurd (false≢true h)
reached_put r w (x ∷ xs) up h = put_case (row_before w x) (row_before x w) refl refl (λ t. reached_put r w xs up t)
  where
    either : (a b : Bool) (Q : Type 0) → IsTrue (a || b) → (a ≡ true → Q) → (IsTrue b → Q) → Q
    either true b Q h f g = f refl
    either false b Q h f g = g h

    put_case : (a b : Bool) → row_before w x ≡ a → row_before x w ≡ b → (Reaches xs r → Reaches (put row_before w xs) r) → Reaches (cond a (w ∷ x ∷ xs) (cond b (x ∷ put row_before w xs) (w ∷ xs))) r
    put_case true b e f rest = reached_more r w (x ∷ xs) h
    put_case false true e f rest =
        either (is_reached r x) (list_any (is_reached r) xs) (Reaches (x ∷ put row_before w xs) r) h
        (λ t. let u : (x.key ≡ r.key) × (r.writer ≤ x.writer) = (grind arith, grind arith) in reached_of r x (put row_before w xs) u.0 u.1)
        (λ t. reached_more r x (put row_before w xs) (rest t))
    put_case false false e f rest =
        either (is_reached r x) (list_any (is_reached r) xs) (Reaches (w ∷ xs) r) h
        (λ t. let u : w.key ≡ r.key = grind arith in reached_of r w xs u up)
        (λ t. reached_more r w xs t)

reached_own : (w : Row) (xs : List Row) → Reaches (put row_before w xs) w
reached_own w [] = reached_of w w [] refl (omega arith)
reached_own w (x ∷ xs) = own_case (row_before w x) (row_before x w) (reached_own w xs)
  where
    own_case : (a b : Bool) → Reaches (put row_before w xs) w → Reaches (cond a (w ∷ x ∷ xs) (cond b (x ∷ put row_before w xs) (w ∷ xs))) w
    own_case true b rest = reached_of w w (x ∷ xs) refl (omega arith)
    own_case false true rest = reached_more w x (put row_before w xs) rest
    own_case false false rest = reached_of w w xs refl (omega arith)

reached_applied : (r : Row) (found rows : List Row) → Each (λ s. r.writer ≤ s.writer) rows → Reaches found r → Reaches (applied found rows) r
reached_applied r found [] a h = h
reached_applied r found (w ∷ rows) a h = reached_applied r (put row_before w found) rows a.1 (reached_put r w found a.0 h)

all_reached : (found rows : List Row) → WritersRise rows → Each (Reaches (applied found rows)) rows
all_reached found [] rise = tt
all_reached found (w ∷ rows) rise = (reached_applied w (put row_before w found) rows rise.0 (reached_own w found), all_reached (put row_before w found) rows rise.1)

-- ---- late rows

-- of one key, a row no older than a late one is late
late_reached : (known : ℕ → Option ℕ) (r : Row) (xs : List Row) → IsTrue (is_past (known r.key) r.writer) → Reaches xs r → Reaches (late known xs) r
late_reached known r [] past h = absurd (false≢true h)
late_reached known r (x ∷ xs) past h = late_case (is_reached r x) (is_past (known x.key) x.writer) refl refl h (λ t. late_reached known r xs past t)
  where
    past_up : (o : Option ℕ) (v w : ℕ) → v ≤ w → IsTrue (is_past o v) → IsTrue (is_past o w)
    past_up None v w up h = h
    past_up (Some d) v w up h = grind arith

    late_case : (a b : Bool) → is_reached r x ≡ a → is_past (known x.key) x.writer ≡ b → IsTrue (a || list_any (is_reached r) xs) → (Reaches xs r → Reaches (late known xs) r) → Reaches (cond b (x ∷ late known xs) (late known xs)) r
    late_case true true e f h rest = let u : (x.key ≡ r.key) × (r.writer ≤ x.writer) = (grind arith, grind arith) in reached_of r x (late known xs) u.0 u.1
    late_case true false e f h rest =
        let u : (x.key ≡ r.key) × (r.writer ≤ x.writer) = (grind arith, grind arith) in
        absurd (false≢true (sym f ∙ past_up (known x.key) r.writer x.writer u.1 (subst (λ k. IsTrue (is_past (known k) r.writer)) (sym u.0) past)))
    late_case false true e f h rest = reached_more r x (late known xs) (rest h)
    late_case false false e f h rest = rest h

-- each row reaches itself
each_own : (xs : List Row) → Each (Reaches xs) xs
each_own [] = tt
each_own (x ∷ xs) = (reached_of x x xs refl (omega arith), Each-map (Reaches xs) _ (λ r h. reached_more r x xs h) xs (each_own xs))

pub late_own : (known : ℕ → Option ℕ) (xs : List Row) → Each (λ r. IsTrue (is_past (known r.key) r.writer) → Reaches (late known xs) r) xs
late_own known xs = Each-map (Reaches xs) _ (λ r h past. late_reached known r xs past h) xs (each_own xs)

-- the first clash of the late ones among the newest rows is that among all rows
pub late_newest : (known : ℕ → Option ℕ) (rows : List Row) → WritersRise rows → first_clash (late known (newest rows)) ≡ first_clash (late known rows)
late_newest known rows rise =
    same_first (late known (newest rows)) (late known rows)
    (Each-filter (Reaches (late known rows)) _ (newest rows) (Each-newest _ rows (late_own known rows)))
    (Each-filter (Reaches (late known (newest rows))) _ rows
    (Each-map (Reaches (newest rows)) _ (λ r h past. late_reached known r (newest rows) past h) rows
    (all_reached [] rows rise)))

-- ---- in key order the first late row is the first clash

first_of_least : (c : Clash) (rows : List Row) → Each (λ s. c.key < s.key) rows → earlier c (first_clash rows) ≡ Some c
first_of_least c rows a = least_case (first_clash rows) refl
  where
    least_one : (d : Clash) → c.key < d.key → earlier c (Some d) ≡ Some c
    least_one d lt = let t : comes_first c d ≡ true = grind arith in rw t refl

    least_case : (o : Option Clash) → first_clash rows ≡ o → earlier c o ≡ Some c
    least_case None e = refl
    least_case (Some d) e =
        least_one d (pick (is_of d) (λ s. c.key < s.key) (c.key < d.key) (λ r is lt. grind arith) rows ((first_is_first rows).0 d e).among a)

pub first_late_is : (known : ℕ → Option ℕ) (rows : List Row) → IsOrdered rows → first_late known rows ≡ first_clash (late known rows)
first_late_is known [] o = refl
first_late_is known (r ∷ rows) o = here_case (is_past (known r.key) r.writer) (first_late_is known rows o.1)
  where
    here_case : (b : Bool) → first_late known rows ≡ first_clash (late known rows) → cond b (Some (record { key = r.key; by = r.writer })) (first_late known rows) ≡ first_clash (cond b (r ∷ late known rows) (late known rows))
    here_case true rest = sym (first_of_least (record { key = r.key; by = r.writer }) (late known rows) (Each-filter (λ s. r.key < s.key) _ rows (Each-map (λ s. r.key < s.key) _ (λ s h t. h) rows o.0)))
    here_case false rest = rest

-- by the last writers of keys, the first clash of all rows
pub by_last_writers : LastWritersAreEnough
by_last_writers known rows rise = first_late_is known (newest rows) (ordered_newest rows) ∙ late_newest known rows rise
