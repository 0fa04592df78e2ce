-- The fate of a group, and the rows after it.
use Rattle.std.proofs.Common.{◌≡◌, ℕ, ◌+◌, ◌≤◌, ◌⊎◌, Bool, true, false, List, [], ◌∷◌, ◌++◌, Option, Some, None, refl, sym, ap, ◌∙◌, arith, inl, inr, max}
use Rattle.std.proofs.lemmas.List.{append-nil}
use Rattle.std.specs.Prelude.{flat_map, map, IsTrue, ◌||◌, nat_lt, IfSome}
use Rattle.std.specs.List.{list_any}
use Rattle.std.proofs.lemmas.Bool.{false≢true}
use Rattle.hy_base.specs.declared.record.Row.{Row}
use Rattle.hy_base.specs.declared.record.Intention.{Intention}
use Rattle.hy_base.specs.declared.record.EntryKind.{EntryKind}
use Rattle.hy_base.specs.declared.record.EntryKind.TheVariants.{Filler, Txn}
use Rattle.hy_base.specs.declared.record.Clash.{Clash}
use Rattle.hy_base.specs.declared.record.Verdict.{Verdict}
use Rattle.hy_base.specs.declared.record.Verdict.TheVariants.{Commit, Old, Pre, Mate, Final}
use Rattle.hy_base.specs.Rows.{Each, WritersRise, IsOrdered, applied, newest, purged, Agrees}
use Rattle.hy_base.proofs.PurgeLemmas.{late_purged, purged_again, agree_applied, ordered_purged}
use Rattle.hy_base.specs.Marks.{lesser, dep, is_past, late, first_late, known_to}
use Rattle.hy_base.proofs.EachLemmas.{Each-append, Each-map, Each-both, Each-filter}
use Rattle.hy_base.proofs.RowLemmas.{newest-append, applied_newest, ordered_newest}
use Rattle.hy_base.proofs.MarkLemmas.{same_late}
use Rattle.hy_rules.proofs.Growth.{all_up_to}
use Rattle.hy_rules.specs.History.{written_between, history_from}
use Rattle.hy_rules.specs.Validation.{Standing, Filling, Dropped, Joined, touched, first_clash, dropped_or_joined, joined_writes, group_writes, standings, late_conflicts, fate_of, fated}
use Rattle.hy_rules.specs.Members.{earliest}
use Rattle.hy_roll_laws.specs.Rolling.{known_of, least_known, after_fate}
use Rattle.hy_roll_laws.specs.RollingLaws.{FinishIsFate, FinishIsRows}
use Rattle.hy_rules.proofs.Groups.{first_clash-append}
use Rattle.hy_roll_laws.proofs.LastWriters.{by_last_writers, Reaches, reached_more, late_own, same_first}
use Rattle.hy_roll_laws.proofs.Advance.{late_is_touched}
use Rattle.hy_roll_laws.proofs.Mates.{least_from}

none_late : (rows : List Row) → late (λ key. None) rows ≡ []
none_late [] = refl
none_late (r ∷ rows) = none_late rows

member_late : (committed : List Row) (base upto : ℕ) (m : Standing) → Each (λ r. r.writer ≤ upto) committed → late_conflicts committed base upto m ≡ late (known_of base m) committed
member_late committed base upto Filling a = sym (none_late committed)
member_late committed base upto (Dropped v) a = sym (none_late committed)
member_late committed base upto (Joined i) a =
    sym (late_is_touched i (max i.snap base) upto committed) ∙ ap (late (known_to (max i.snap base) i)) (all_up_to upto committed a)

past_left : (a b : Option ℕ) (w : ℕ) → IsTrue (is_past a w) → IsTrue (is_past (lesser a b) w)
past_left None b w h = absurd (false≢true h)
past_left (Some a) None w h = h
past_left (Some a) (Some b) w h = grind arith

past_right : (a b : Option ℕ) (w : ℕ) → IsTrue (is_past b w) → IsTrue (is_past (lesser a b) w)
past_right None b w h = h
past_right (Some a) None w h = absurd (false≢true h)
past_right (Some a) (Some b) w h = grind arith

past_either : (a b : Option ℕ) (w : ℕ) → IsTrue (is_past (lesser a b) w) → IsTrue (is_past a w) ⊎ IsTrue (is_past b w)
past_either None b w h = inr h
past_either (Some a) None w h = inl h
past_either (Some a) (Some b) w h = grind arith

reaches_right : (xs ys : List Row) (r : Row) → Reaches ys r → Reaches (xs ++ ys) r
reaches_right [] ys r h = h
reaches_right (x ∷ xs) ys r h = reached_more r x (xs ++ ys) (reaches_right xs ys r h)

any_left : {X : Type 0} (p : X → Bool) (xs ys : List X) → IsTrue (list_any p xs) → IsTrue (list_any p (xs ++ ys))
any_left p [] ys h = absurd (false≢true h)
any_left p (x ∷ xs) ys h = or_case (p x) (list_any p xs) (list_any p (xs ++ ys)) h (any_left p xs ys)
  where
    or_case : (a b c : Bool) → IsTrue (a || b) → (IsTrue b → IsTrue c) → IsTrue (a || c)
    or_case true b c h f = refl
    or_case false b c h f = f h

reaches_left : (xs ys : List Row) (r : Row) → Reaches xs r → Reaches (xs ++ ys) r
reaches_left xs ys r h = any_left _ xs ys h

-- the first clash by either is that by the lesser of both
either_late : (a b : ℕ → Option ℕ) (rows : List Row) → first_clash (late a rows ++ late b rows) ≡ first_clash (late (λ key. lesser (a key) (b key)) rows)
either_late a b rows =
    let both : ℕ → Option ℕ = λ key. lesser (a key) (b key) in
    let PastA : Row → Type 0 = λ r. IsTrue (is_past (a r.key) r.writer) → Reaches (late a rows) r in
    let PastB : Row → Type 0 = λ r. IsTrue (is_past (b r.key) r.writer) → Reaches (late b rows) r in
    let Past : Row → Type 0 = λ r. IsTrue (is_past (both r.key) r.writer) → Reaches (late both rows) r in
    same_first (late a rows ++ late b rows) (late both rows)
    (Each-append (Reaches (late both rows)) (late a rows) (late b rows)
    (Each-filter (Reaches (late both rows)) _ rows (Each-map Past _ (λ r h past. h (past_left (a r.key) (b r.key) r.writer past)) rows (late_own both rows)))
    (Each-filter (Reaches (late both rows)) _ rows (Each-map Past _ (λ r h past. h (past_right (a r.key) (b r.key) r.writer past)) rows (late_own both rows))))
    (Each-filter (Reaches (late a rows ++ late b rows)) _ rows
    (Each-both PastA PastB _ (λ r h k past. elim (past_either (a r.key) (b r.key) r.writer past) [
      | inl t ↦ reaches_left (late a rows) (late b rows) r (h t)
      | inr t ↦ reaches_right (late a rows) (late b rows) r (k t)
    ]) rows (late_own a rows) (late_own b rows)))

members_late : (committed : List Row) (base upto : ℕ) (ms : List Standing) → Each (λ r. r.writer ≤ upto) committed → first_clash (flat_map (late_conflicts committed base upto) ms) ≡ first_clash (late (least_known base ms) committed)
members_late committed base upto [] a = ap first_clash (sym (none_late committed))
members_late committed base upto (m ∷ ms) a =
    first_clash-append (late_conflicts committed base upto m) (flat_map (late_conflicts committed base upto) ms)
    ∙ ((λ i. earliest (first_clash (member_late committed base upto m a i)) (members_late committed base upto ms a i))
    ∙ (sym (first_clash-append (late (known_of base m) committed) (late (least_known base ms) committed))
    ∙ either_late (known_of base m) (least_known base ms) committed))

pub known_past : (line base : ℕ) (o : Option ℕ) → line ≤ base → IfSome o (λ d. base ≤ d) → IfSome o (λ d. line ≤ d)
known_past line base None le h = tt
known_past line base (Some d) le h = omega (arith, le, h)

-- whichever tombstones at or below the line the tree has
pub fate_known : (committed tree : List Row) (line base upto : ℕ) (ms : List Standing) → WritersRise committed → Each (λ r. r.writer ≤ upto) committed → line ≤ base → Agrees line tree (purged line (newest committed))
    → first_late (least_known base ms) tree ≡ first_clash (flat_map (late_conflicts committed base upto) ms)
fate_known committed tree line base upto ms rise bounded le agrees =
    let from : (key : ℕ) → IfSome (least_known base ms key) (λ d. line ≤ d) = λ key. known_past line base (least_known base ms key) le (least_from base ms key) in
    sym (late_purged line (least_known base ms) tree from)
    ∙ (ap (first_late (least_known base ms)) agrees
    ∙ (late_purged line (least_known base ms) (newest committed) from
    ∙ (by_last_writers (least_known base ms) committed rise ∙ sym (members_late committed base upto ms bounded))))

pub finish_is_fate : FinishIsFate
finish_is_fate committed tree line base pos upto ms m rise bounded le agrees are = same_late (dep m.pairs) (least_known base ms) are.deps tree ∙ fate_known committed tree line base upto ms rise bounded le agrees

-- ---- the rows

module _ (committed : List Row) (oldest base : ℕ) where
  commits_txn : (pos : ℕ) (i : Intention) (es : List EntryKind) (joined : List Row) (old : Bool) (pre mate : Option Clash)
      → ((joined' : List Row) → history_from (pos + 1) es (map (fated Commit) (standings committed oldest base (pos + 1) joined' es)) ≡ group_writes (pos + 1) (standings committed oldest base (pos + 1) joined' es))
      → let m = dropped_or_joined old pre mate i in
      let ms = m ∷ standings committed oldest base (pos + 1) (joined ++ joined_writes pos m) es in history_from pos (Txn i ∷ es) (map (fated Commit) ms) ≡ group_writes pos ms
  commits_txn pos i es joined true pre mate rest = rest (joined ++ [])
  commits_txn pos i es joined false (Some c) mate rest = rest (joined ++ [])
  commits_txn pos i es joined false None (Some c) rest = rest (joined ++ [])
  commits_txn pos i es joined false None None rest = ap (λ rows. joined_writes pos (Joined i) ++ rows) (rest (joined ++ joined_writes pos (Joined i)))

  -- where the members commit, the history grows by what the joined ones write
  commits_write : (pos : ℕ) (es : List EntryKind) (joined : List Row) → history_from pos es (map (fated Commit) (standings committed oldest base pos joined es)) ≡ group_writes pos (standings committed oldest base pos joined es)
  commits_write pos [] joined = refl
  commits_write pos (Filler server ∷ es) joined = commits_write (pos + 1) es (joined ++ [])
  commits_write pos (Txn i ∷ es) joined =
      commits_txn pos i es joined (nat_lt i.snap oldest) (first_clash (touched i (written_between i.snap base committed))) (first_clash (touched i joined)) (λ joined'. commits_write (pos + 1) es joined')

  fails_txn : (c : Clash) (pos : ℕ) (i : Intention) (es : List EntryKind) (joined : List Row) (old : Bool) (pre mate : Option Clash)
      → ((joined' : List Row) → history_from (pos + 1) es (map (fated (Final c)) (standings committed oldest base (pos + 1) joined' es)) ≡ [])
      → let m = dropped_or_joined old pre mate i in history_from pos (Txn i ∷ es) (map (fated (Final c)) (m ∷ standings committed oldest base (pos + 1) (joined ++ joined_writes pos m) es)) ≡ []
  fails_txn c pos i es joined true pre mate rest = rest (joined ++ [])
  fails_txn c pos i es joined false (Some d) mate rest = rest (joined ++ [])
  fails_txn c pos i es joined false None (Some d) rest = rest (joined ++ [])
  fails_txn c pos i es joined false None None rest = rest (joined ++ joined_writes pos (Joined i))

  -- where they fail, by nothing
  fails_write : (c : Clash) (pos : ℕ) (es : List EntryKind) (joined : List Row) → history_from pos es (map (fated (Final c)) (standings committed oldest base pos joined es)) ≡ []
  fails_write c pos [] joined = refl
  fails_write c pos (Filler server ∷ es) joined = fails_write c (pos + 1) es (joined ++ [])
  fails_write c pos (Txn i ∷ es) joined =
      fails_txn c pos i es joined (nat_lt i.snap oldest) (first_clash (touched i (written_between i.snap base committed))) (first_clash (touched i joined)) (λ joined'. fails_write c (pos + 1) es joined')

  pub fated_rows : (pos : ℕ) (es : List EntryKind) (o : Option Clash)
      → newest (committed ++ history_from pos es (map (fated (fate_of o)) (standings committed oldest base pos [] es))) ≡ after_fate (fate_of o) (newest committed) (group_writes pos (standings committed oldest base pos [] es))
  fated_rows pos es None = newest-append committed (history_from pos es (map (fated Commit) (standings committed oldest base pos [] es))) ∙ ap (applied (newest committed)) (commits_write pos es [])
  fated_rows pos es (Some c) = ap newest (ap (λ rows. committed ++ rows) (fails_write c pos es []) ∙ append-nil committed)

pub after_newest : (v : Verdict) (rows writes : List Row) → after_fate v (newest rows) (newest writes) ≡ after_fate v (newest rows) writes
after_newest Commit rows writes = applied_newest (newest rows) writes (ordered_newest rows)
after_newest (Old snap) rows writes = refl
after_newest (Pre c) rows writes = refl
after_newest (Mate c) rows writes = refl
after_newest (Final c) rows writes = refl

-- trees of which the same is left past a line, after a fate
pub after_agrees : (v : Verdict) (line next : ℕ) (xs ys writes : List Row) → IsOrdered xs → IsOrdered ys → purged line xs ≡ purged line ys → line ≤ next → purged next (after_fate v xs writes) ≡ purged next (after_fate v ys writes)
after_agrees v line next xs ys writes ox oy e le =
    let more : purged next xs ≡ purged next ys = sym (purged_again line next xs ox le) ∙ (ap (purged next) e ∙ purged_again line next ys oy le) in
    by_fate v more
  where
    by_fate : (v : Verdict) → purged next xs ≡ purged next ys → purged next (after_fate v xs writes) ≡ purged next (after_fate v ys writes)
    by_fate Commit more = agree_applied next xs ys writes ox oy more
    by_fate (Old snap) more = more
    by_fate (Pre c) more = more
    by_fate (Mate c) more = more
    by_fate (Final c) more = more

pub finish_is_rows : FinishIsRows
finish_is_rows committed tree line next oldest base upto es m rise bounded le up ordered agrees are =
    let ms : List Standing = standings committed oldest base (upto + 1) [] es in
    let o : Option Clash = first_clash (flat_map (late_conflicts committed base upto) ms) in
    let same : purged line (newest committed) ≡ purged line tree = sym agrees in
    ap (purged next) (fated_rows committed oldest base (upto + 1) es o ∙ sym (after_newest (fate_of o) committed (group_writes (upto + 1) ms)))
    ∙ (after_agrees (fate_of o) line next (newest committed) tree (newest (group_writes (upto + 1) ms)) (ordered_newest committed) ordered same up
    ∙ (λ j. purged next (after_fate (fate_of (sym (finish_is_fate committed tree line base (upto + 1) upto ms m rise bounded le agrees are) j)) tree (sym are.puts j))))
