-- What is checked against the members that joined before, and the group as a whole.
use Rattle.std.proofs.Common.{◌≡◌, ℕ, suc, ◌+◌, ◌<◌, ◌≤◌, Bool, true, false, cond, List, [], ◌∷◌, ◌++◌, length, Option, Some, None, refl, sym, ap, ◌∙◌, subst, arith, max}
use Rattle.std.proofs.lemmas.Bool.{lt-ltb, ltb-false}
use Rattle.std.specs.Prelude.{IfSome, nat_lt}
use Rattle.hy_rules.specs.History.{written_between}
use Rattle.hy_base.specs.declared.record.Row.{Row}
use Rattle.hy_base.specs.declared.record.Intention.{Intention}
use Rattle.hy_base.specs.declared.record.EntryKind.{EntryKind}
use Rattle.hy_base.specs.declared.record.EntryKind.TheVariants.{Filler, Txn}
use Rattle.hy_base.specs.Entry.{touches}
use Rattle.hy_base.specs.Rows.{Each, WritersRise, newest, up_to, purged}
use Rattle.hy_base.specs.Marks.{lesser, dep, late, first_late, known_to}
use Rattle.hy_base.proofs.EachLemmas.{Each-append, Each-map, rise_append}
use Rattle.hy_base.proofs.RowLemmas.{Each-newest}
use Rattle.hy_base.proofs.MarkLemmas.{same_late}
use Rattle.hy_rules.proofs.Growth.{same_rise}
use Rattle.hy_rules.specs.Validation.{Standing, Filling, Dropped, Joined, touched, first_clash, dropped_or_joined, joined_writes, group_writes, standing_of, standings}
use Rattle.hy_roll_laws.specs.Rolling.{staged_as, staged_members, known_of, least_known}
use Rattle.hy_roll_laws.specs.RollingLaws.{JoinIsMate, SnapsUpTo, StagedAreStandings, GroupMarksAreOwn}
use Rattle.hy_roll_laws.proofs.LastWriters.{by_last_writers}
use Rattle.hy_roll_laws.proofs.Advance.{past_known, advance_known}
use Rattle.hy_rules.proofs.Serial.{rows_at_pos}

-- where all are past the position, the late ones are those touched
all_late : (i : Intention) (pos : ℕ) (rows : List Row) → Each (λ r. pos < r.writer) rows → late (known_to pos i) rows ≡ touched i rows
all_late i pos [] a = refl
all_late i pos (r ∷ rows) a = step (touches i r.key) refl (all_late i pos rows a.1)
  where
    step : (t : Bool) → touches i r.key ≡ t → late (known_to pos i) rows ≡ touched i rows → late (known_to pos i) (r ∷ rows) ≡ cond t (r ∷ touched i rows) (touched i rows)
    step true e rest = rw (past_known (touches i r.key) pos r.writer, e, lt-ltb pos r.writer a.0) (ap (λ l. r ∷ l) rest)
    step false e rest = rw (past_known (touches i r.key) pos r.writer, e) rest

mate_known : (joined : List Row) (pos : ℕ) (i : Intention) → WritersRise joined → Each (λ r. pos < r.writer) joined → first_late (known_to pos i) (newest joined) ≡ first_clash (touched i joined)
mate_known joined pos i rise above = by_last_writers (known_to pos i) joined rise ∙ ap first_clash (all_late i pos joined above)

pub join_is_mate : JoinIsMate
join_is_mate joined pos i m writes rise above are = same_late (dep m.pairs) (known_to pos i) are.deps (newest joined) ∙ mate_known joined pos i rise above

-- ---- the members of a group

joined_at : (pos : ℕ) (m : Standing) → Each (λ r. r.writer ≡ pos) (joined_writes pos m)
joined_at pos Filling = tt
joined_at pos (Dropped v) = tt
joined_at pos (Joined i) = rows_at_pos pos i.writes

-- what the members that joined before a position wrote
record AreJoined (upto pos : ℕ) (joined : List Row) : Type 0 where
  pub rise : WritersRise joined
  pub above : Each (λ r. upto < r.writer) joined
  pub below : Each (λ r. r.writer < pos) joined

one_more : (upto pos : ℕ) (joined : List Row) (m : Standing) → upto < pos → AreJoined upto pos joined → AreJoined upto (pos + 1) (joined ++ joined_writes pos m)
one_more upto pos joined m lt are = record {
  rise = rise_append joined (joined_writes pos m) are.rise (same_rise pos (joined_writes pos m) (joined_at pos m))
      (Each-map (λ r. r.writer < pos) _ (λ r h. Each-map (λ s. s.writer ≡ pos) _ (λ s e. omega (arith, h, e)) (joined_writes pos m) (joined_at pos m)) joined are.below);
  above = Each-append (λ r. upto < r.writer) joined (joined_writes pos m) are.above (Each-map (λ r. r.writer ≡ pos) _ (λ r e. omega (arith, e, lt)) (joined_writes pos m) (joined_at pos m));
  below = Each-append (λ r. r.writer < pos + 1) joined (joined_writes pos m) (Each-map (λ r. r.writer < pos) _ (λ r h. omega (arith, h)) joined are.below) (Each-map (λ r. r.writer ≡ pos) _ (λ r e. omega (arith, e)) (joined_writes pos m) (joined_at pos m));
}

later_snaps : (upto : ℕ) (e : EntryKind) (es : List EntryKind) → SnapsUpTo upto (e ∷ es) → SnapsUpTo upto es
later_snaps upto (Filler server) es snaps = snaps
later_snaps upto (Txn i) es snaps = snaps.1

-- staging on the base rows of a history whose writers rise
module _ (committed : List Row) (line oldest base upto : ℕ) (rise : WritersRise committed) (below : line ≤ oldest) (within : base ≤ upto) where
  -- the snapshot of a member that isn't too old is at or past the line
  staged_txn : (joined : List Row) (i : Intention) (old : Bool) → nat_lt i.snap oldest ≡ old → first_late (known_to (max i.snap base) i) (newest joined) ≡ first_clash (touched i joined)
      → dropped_or_joined old (first_late (known_to i.snap i) (purged line (newest (up_to base committed)))) (first_late (known_to (max i.snap base) i) (newest joined)) i
      ≡ dropped_or_joined old (first_clash (touched i (written_between i.snap base committed))) (first_clash (touched i joined)) i
  staged_txn joined i true e mate = refl
  staged_txn joined i false e mate = λ j. dropped_or_joined false (advance_known committed line base i.snap i rise (omega (arith, below, ltb-false i.snap oldest e)) j) (mate j) i

  staged_is : (pos : ℕ) (joined : List Row) (e : EntryKind) (es : List EntryKind) → SnapsUpTo upto (e ∷ es) → AreJoined upto pos joined
      → staged_as (purged line (newest (up_to base committed))) oldest base joined e ≡ standing_of committed oldest base joined e
  staged_is pos joined (Filler server) es snaps are = refl
  staged_is pos joined (Txn i) es snaps are =
      staged_txn joined i (nat_lt i.snap oldest) refl (mate_known joined (max i.snap base) i are.rise (Each-map (λ r. upto < r.writer) _ (λ r h. omega (arith, h, within, snaps.0)) joined are.above))

  staged_from : (pos : ℕ) (joined : List Row) (es : List EntryKind) → upto < pos → SnapsUpTo upto es → AreJoined upto pos joined
      → staged_members (purged line (newest (up_to base committed))) oldest base pos joined es ≡ standings committed oldest base pos joined es
  staged_from pos joined [] lt snaps are = refl
  staged_from pos joined (e ∷ es) lt snaps are =
      let here : staged_as (purged line (newest (up_to base committed))) oldest base joined e ≡ standing_of committed oldest base joined e = staged_is pos joined e es snaps are in
      (λ j. here j ∷ staged_members (purged line (newest (up_to base committed))) oldest base (pos + 1) (joined ++ joined_writes pos (here j)) es)
      ∙ ap (λ ms. standing_of committed oldest base joined e ∷ ms)
      (staged_from (pos + 1) (joined ++ joined_writes pos (standing_of committed oldest base joined e)) es (omega (arith, lt)) (later_snaps upto e es snaps) (one_more upto pos joined (standing_of committed oldest base joined e) lt are))

pub staged_are_standings : StagedAreStandings
staged_are_standings committed line oldest base upto es rise below within snaps = staged_from committed line oldest base upto rise below within (upto + 1) [] es (omega arith) snaps (record { rise = tt; above = tt; below = tt })

-- ---- what the members know and write

known_from : (base : ℕ) (m : Standing) (key : ℕ) → IfSome (known_of base m key) (λ d. base ≤ d)
known_from base Filling key = tt
known_from base (Dropped v) key = tt
known_from base (Joined i) key = touched_from (touches i key)
  where
    touched_from : (b : Bool) → IfSome (cond b (Some (max i.snap base)) None) (λ d. base ≤ d)
    touched_from true = omega arith
    touched_from false = tt

lesser_from : (base : ℕ) (a b : Option ℕ) → IfSome a (λ d. base ≤ d) → IfSome b (λ d. base ≤ d) → IfSome (lesser a b) (λ d. base ≤ d)
lesser_from base None b h k = k
lesser_from base (Some a) None h k = h
lesser_from base (Some a) (Some b) h k = omega (arith, h, k)

pub least_from : (base : ℕ) (ms : List Standing) (key : ℕ) → IfSome (least_known base ms key) (λ d. base ≤ d)
least_from base [] key = tt
least_from base (m ∷ ms) key = lesser_from base (known_of base m key) (least_known base ms key) (known_from base m key) (least_from base ms key)

pub writes_from : (pos : ℕ) (ms : List Standing) → Each (λ r. pos ≤ r.writer) (group_writes pos ms)
writes_from pos [] = tt
writes_from pos (m ∷ ms) =
    Each-append (λ r. pos ≤ r.writer) (joined_writes pos m) (group_writes (pos + 1) ms) (Each-map (λ r. r.writer ≡ pos) _ (λ r e. omega (arith, e)) (joined_writes pos m) (joined_at pos m))
    (Each-map (λ r. pos + 1 ≤ r.writer) _ (λ r h. omega (arith, h)) (group_writes (pos + 1) ms) (writes_from (pos + 1) ms))

pub writes_below : (pos : ℕ) (ms : List Standing) → Each (λ r. r.writer < pos + length ms) (group_writes pos ms)
writes_below pos [] = tt
writes_below pos (m ∷ ms) =
    Each-append (λ r. r.writer < pos + suc (length ms)) (joined_writes pos m) (group_writes (pos + 1) ms) (Each-map (λ r. r.writer ≡ pos) _ (λ r e. omega (arith, e)) (joined_writes pos m) (joined_at pos m))
    (Each-map (λ r. r.writer < pos + 1 + length ms) _ (λ r h. omega (arith, h)) (group_writes (pos + 1) ms) (writes_below (pos + 1) ms))

pub group_marks_are_own : GroupMarksAreOwn
group_marks_are_own base pos ms = (
  record { from_base = least_from base ms; low = writes_from pos ms; high = writes_below pos ms },
  λ m are. record {
    from_base = λ key. subst (λ o. IfSome o (λ d. base ≤ d)) (sym (are.deps key)) (least_from base ms key);
    low = subst (Each (λ r. pos ≤ r.writer)) (sym are.puts) (Each-newest (λ r. pos ≤ r.writer) (group_writes pos ms) (writes_from pos ms));
    high = subst (Each (λ r. r.writer < pos + length ms)) (sym are.puts) (Each-newest (λ r. r.writer < pos + length ms) (group_writes pos ms) (writes_below pos ms));
  },
)
