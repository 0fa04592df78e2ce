-- A group that is judged by the last rows of keys is judged as by all that committed.
use Rattle.std.proofs.Common.{◌≡◌, ℕ, ◌+◌, ◌≤◌, max, arith, false, subst, List, [], ◌∷◌, ◌++◌, Option, refl, sym, ap, ◌∙◌}
use Rattle.std.proofs.lemmas.Bool.{le-ltb}
use Rattle.std.specs.Prelude.{nat_lt, flat_map, map, Result, Ok, Err, IfOk}
use Rattle.hy_base.specs.declared.record.EntryKind.{EntryKind}
use Rattle.hy_base.specs.declared.record.EntryKind.TheVariants.{Filler, Txn}
use Rattle.hy_base.specs.declared.record.Intention.{Intention}
use Rattle.hy_base.specs.declared.record.Row.{Row}
use Rattle.hy_base.specs.declared.record.Verdict.{Verdict}
use Rattle.hy_base.specs.declared.record.Clash.{Clash}
use Rattle.hy_base.specs.declared.record.Member.{Member}
use Rattle.hy_base.specs.Rows.{Each, IsOrdered, WritersRise, newest, up_to}
use Rattle.hy_base.specs.Marks.{first_late, late, known_to}
use Rattle.hy_base.proofs.EachLemmas.{Each-all, Each-filter, rise_filter}
use Rattle.hy_base.proofs.RowLemmas.{ordered_newest, Each-newest}
use Rattle.hy_rules.specs.History.{written_between}
use Rattle.hy_rules.specs.Members.{standing_as, earliest}
use Rattle.hy_rules.specs.Validation.{Standing, Filling, Dropped, Joined, touched, first_clash, dropped_or_joined, standing_of, joined_writes, standings, late_conflicts, fate_of, fated, group_verdicts}
use Rattle.hy_rules.proofs.Groups.{first_clash-append}
use Rattle.hy_rules.proofs.Growth.{all_up_to}
use Rattle.hy_roll_laws.proofs.LastWriters.{by_last_writers, first_late_is}
use Rattle.hy_roll_laws.proofs.Advance.{late_is_touched}

-- in rows up to a position, the first that an intention touches past another
pub first_between : (i : Intention) (after upto : ℕ) (rows : List Row) → IsOrdered rows → Each (λ r. r.writer ≤ upto) rows → first_late (known_to after i) rows ≡ first_clash (touched i (written_between after upto rows))
first_between i after upto rows o a =
    first_late_is (known_to after i) rows o ∙ (ap (λ l. first_clash (late (known_to after i) l)) (sym (all_up_to upto rows a)) ∙ ap first_clash (late_is_touched i after upto rows))

pub each_up_to : (upto : ℕ) (rows : List Row) → Each (λ r. r.writer ≤ upto) (up_to upto rows)
each_up_to upto rows = Each-filter (λ r. r.writer ≤ upto) _ rows (Each-all _ (λ r t. grind arith) rows)

-- the last rows up to a position tell the same as all rows
pub same_between : (i : Intention) (after upto : ℕ) (committed : List Row) → WritersRise committed
    → first_clash (touched i (written_between after upto (newest (up_to upto committed)))) ≡ first_clash (touched i (written_between after upto committed))
same_between i after upto committed rise =
    sym (first_between i after upto (newest (up_to upto committed)) (ordered_newest (up_to upto committed)) (Each-newest _ (up_to upto committed) (each_up_to upto committed)))
    ∙ (by_last_writers (known_to after i) (up_to upto committed) (rise_filter _ committed rise) ∙ ap first_clash (late_is_touched i after upto committed))

module _ (committed : List Row) (base : ℕ) (rise : WritersRise committed) where
  same_standing : (oldest : ℕ) (joined : List Row) (e : EntryKind) → standing_of (newest (up_to base committed)) oldest base joined e ≡ standing_of committed oldest base joined e
  same_standing oldest joined (Filler server) = refl
  same_standing oldest joined (Txn i) = ap (λ pre. dropped_or_joined (nat_lt i.snap oldest) pre (first_clash (touched i joined)) i) (same_between i i.snap base committed rise)

  pub same_standings : (oldest pos : ℕ) (joined : List Row) (es : List EntryKind) → standings (newest (up_to base committed)) oldest base pos joined es ≡ standings committed oldest base pos joined es
  same_standings oldest pos joined [] = refl
  same_standings oldest pos joined (e ∷ es) =
      let m : Standing = standing_of (newest (up_to base committed)) oldest base joined e in
      (λ k. m ∷ same_standings oldest (pos + 1) (joined ++ joined_writes pos m) es k)
      ∙ ap (λ n. n ∷ standings committed oldest base (pos + 1) (joined ++ joined_writes pos n) es) (same_standing oldest joined e)

module _ (committed : List Row) (base upto : ℕ) (rise : WritersRise committed) (low : Each (λ r. r.writer ≤ upto) committed) where
  same_late_of : (m : Standing) → first_clash (late_conflicts (newest committed) base upto m) ≡ first_clash (late_conflicts committed base upto m)
  same_late_of Filling = refl
  same_late_of (Dropped v) = refl
  same_late_of (Joined i) =
      ap (λ rows. first_clash (touched i (written_between (max i.snap base) upto (newest rows)))) (sym (all_up_to upto committed low))
      ∙ same_between i (max i.snap base) upto committed rise

  pub same_late_conflicts : (ms : List Standing) → first_clash (flat_map (late_conflicts (newest committed) base upto) ms) ≡ first_clash (flat_map (late_conflicts committed base upto) ms)
  same_late_conflicts [] = refl
  same_late_conflicts (m ∷ ms) =
      first_clash-append (late_conflicts (newest committed) base upto m) (flat_map (late_conflicts (newest committed) base upto) ms)
      ∙ ((λ k. earliest (same_late_of m k) (same_late_conflicts ms k))
      ∙ sym (first_clash-append (late_conflicts committed base upto m) (flat_map (late_conflicts committed base upto) ms)))

-- an entry whose snapshot isn't too old stands by what is found
pub stands_by : (tree : List Row) (oldest base : ℕ) (joined : List Row) (e : EntryKind) (i : Intention) (pre mate : Option Clash) (member : Member) → e ≡ Txn i → oldest ≤ i.snap → IsOrdered tree → Each (λ r. r.writer ≤ base) tree
    → first_late (known_to i.snap i) tree ≡ pre → first_clash (touched i joined) ≡ mate → standing_as (Txn i) member ≡ dropped_or_joined false pre mate i → standing_as e member ≡ standing_of tree oldest base joined e
stands_by tree oldest base joined e i pre mate member is young o low p m stands =
    let old : nat_lt i.snap oldest ≡ false = le-ltb i.snap oldest young in
    let found : first_clash (touched i (written_between i.snap base tree)) ≡ pre = sym (first_between i i.snap base tree o low) ∙ p in
    subst (λ x. standing_as x member ≡ standing_of tree oldest base joined x) (sym is) (stands ∙ sym (λ k. dropped_or_joined (old k) (found k) (m k) i))

pub if_ok : {E A : Type 0} (P Q : A → Type 0) → ((x : A) → P x → Q x) → (r : Result A E) → IfOk r P → IfOk r Q
if_ok P Q f (Ok x) h = f x h
if_ok P Q f (Err e) h = tt

-- by the last rows up to the base and those up to a position, the verdicts are those by all that committed
pub by_last_rows : (committed base_rows rows : List Row) (oldest base upto : ℕ) (group : List EntryKind) (ms : List Standing) (fate : Verdict) (vs : List (Option Verdict)) → WritersRise committed → Each (λ r. r.writer ≤ upto) committed
    → base_rows ≡ newest (up_to base committed) → rows ≡ newest committed
    → (Each (λ r. r.writer ≤ base) base_rows → ms ≡ standings base_rows oldest base (upto + 1) [] group)
    → (Each (λ r. r.writer ≤ upto) rows → fate ≡ fate_of (first_clash (flat_map (late_conflicts rows base upto) ms)))
    → vs ≡ map (fated fate) ms → vs ≡ group_verdicts committed oldest base upto group
by_last_rows committed base_rows rows oldest base upto group ms fate vs rise low is_base is_rows stands shared verdicts =
    let low_base : Each (λ r. r.writer ≤ base) base_rows = subst (Each (λ r. r.writer ≤ base)) (sym is_base) (Each-newest _ (up_to base committed) (each_up_to base committed)) in
    let low_rows : Each (λ r. r.writer ≤ upto) rows = subst (Each (λ r. r.writer ≤ upto)) (sym is_rows) (Each-newest _ committed low) in
    let all : ms ≡ standings committed oldest base (upto + 1) [] group =
    stands low_base ∙ (ap (λ h. standings h oldest base (upto + 1) [] group) is_base ∙ same_standings committed base rise oldest (upto + 1) [] group) in
    let own : fate ≡ fate_of (first_clash (flat_map (late_conflicts committed base upto) ms)) =
    shared low_rows ∙ (ap (λ h. fate_of (first_clash (flat_map (late_conflicts h base upto) ms))) is_rows ∙ ap fate_of (same_late_conflicts committed base upto rise low ms)) in
    verdicts ∙ (ap (λ f. map (fated f) ms) own ∙ ap (λ ns. map (fated (fate_of (first_clash (flat_map (late_conflicts committed base upto) ns)))) ns) all)
