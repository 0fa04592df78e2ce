-- A roller that stands for the first entries of a log, and its next groups.
use Rattle.std.proofs.Common.{◌≡◌, ℕ, zero, suc, ◌+◌, ◌*◌, ◌%◌, ◌<◌, ◌≤◌, cond, List, [], ◌∷◌, ◌++◌, length, take, drop, Option, refl, sym, ap, ◌∙◌, subst, arith, inl, inr, append_assoc, add-one, length-append, length-drop}
use Rattle.std.proofs.lemmas.List.{append-nil, take_all, take-append-drop, length-take-le}
use Rattle.std.proofs.Math.Seq.{drop-append_seam}
use Rattle.std.proofs.Math.Nat.{mul-suc, mul-div_cancel_left}
use Rattle.std.specs.Prelude.{◌==◌, ◌/◌, map, flat_map}
use Rattle.hy_base.specs.declared.layout.Shape.{Shape}
use Rattle.hy_base.specs.declared.record.EntryKind.{EntryKind}
use Rattle.hy_base.specs.declared.record.Row.{Row}
use Rattle.hy_base.specs.declared.record.Clash.{Clash}
use Rattle.hy_base.specs.Shape.{IsGoodShape, IsWithin, base_groups, kept_groups, oldest_snap, line_after}
use Rattle.hy_base.specs.Log.{HaveLawfulSnaps}
use Rattle.hy_base.specs.Rows.{Each, newest, up_to, purged}
use Rattle.hy_base.proofs.RowLemmas.{ordered_newest}
use Rattle.hy_base.proofs.PurgeLemmas.{purged_again, ordered_purged}
use Rattle.hy_base.proofs.ShapeLemmas.{base_before, kept_before, line_base}
use Rattle.hy_rules.specs.Validation.{Standing, first_clash, group_writes, standings, late_conflicts, fate_of, fated, group_after, verdicts_after, history_after, rows_after}
use Rattle.hy_roll_laws.specs.Rolling.{staged_members, fate_on, after_fate, Rolled, not_rolled, roll_group, roll_groups, AreWritten, HasRolled}
use Rattle.hy_roll_laws.specs.RollingLaws.{SnapsUpTo, NewRollerStands, RollExtends, StandingIsOne}
use Rattle.hy_roll_laws.proofs.Mates.{staged_are_standings}
use Rattle.hy_roll_laws.proofs.Fates.{fate_known, fated_rows, after_agrees}
use Rattle.hy_roll_laws.proofs.Windows.{OpensWindow, StaysInWindow, next_window, opened_base, stayed_base, stayed_kept, base_low, kept_low, line_rises, base_line_oldest}
use Rattle.hy_rules.proofs.Growth.{history_rise, history_next, up_to_earlier, growth_keeps_rows, snaps_drop}
use Rattle.hy_roll_laws.proofs.GroupSnaps.{group_snaps}
use Rattle.hy_rules.proofs.Serial.{history_is_before}

-- the roller that stands for so many groups of a log
abbrev pub roller_after : Shape → List EntryKind → ℕ → Rolled
roller_after s log n =
    record { groups = n; tree = rows_after s log n; base_tree = rows_after s log (base_groups s n); kept = rows_after s log (kept_groups s n); verdicts = verdicts_after s log n }

pub stands_is : (s : Shape) (front : List EntryKind) (r : Rolled) → HasRolled s front r → r ≡ roller_after s front r.groups
stands_is s front r st = λ j. record { groups = r.groups; tree = st.tree_is j; base_tree = st.base_is j; kept = st.kept_is j; verdicts = st.verdicts_are j }

pub is_stands : (s : Shape) (front : List EntryKind) (n : ℕ) (r : Rolled) → length front ≡ s.group * n → r ≡ roller_after s front n → HasRolled s front r
is_stands s front n r whole e = subst (HasRolled s front) (sym e) (record { whole = whole; tree_is = refl; base_is = refl; kept_is = refl; verdicts_are = refl })

pub new_roller_stands : NewRollerStands
new_roller_stands s =
    let base : 0 ≡ base_groups s 0 = omega (arith, base_before s 0) in
    let kept : 0 ≡ kept_groups s 0 = omega (arith, kept_before s 0) in
    is_stands s [] 0 not_rolled (omega arith) (λ j. record { groups = 0; tree = []; base_tree = rows_after s [] (base j); kept = rows_after s [] (kept j); verdicts = [] })

same_groups : (s : Shape) (m n : ℕ) → 0 < s.group → s.group * m ≡ s.group * n → m ≡ n
same_groups s m n some e = sym (mul-div_cancel_left m some) ∙ (ap (λ p. p / s.group) e ∙ mul-div_cancel_left n some)

pub standing_is_one : StandingIsOne
standing_is_one s front r r' good st st' =
    let count : r.groups ≡ r'.groups = same_groups s r.groups r'.groups good.group.at_least (sym st.whole ∙ st'.whole) in
    stands_is s front r st ∙ (ap (roller_after s front) count ∙ sym (stands_is s front r' st'))

-- what is appended doesn't change it
longer_roller : (s : Shape) (log more : List EntryKind) (n : ℕ) → s.group * n ≤ length log → roller_after s log n ≡ roller_after s (log ++ more) n
longer_roller s log more n within =
    let here = growth_keeps_rows s log more n within in
    let base = growth_keeps_rows s log more (base_groups s n) (omega (arith, base_low s n, within)) in
    let kept = growth_keeps_rows s log more (kept_groups s n) (omega (arith, kept_low s n, within)) in
    λ j. record { groups = n; tree = sym here.rows j; base_tree = sym base.rows j; kept = sym kept.rows j; verdicts = sym here.verdicts j }

-- ---- the next group of a log

module _ (s : Shape) (log : List EntryKind) (n : ℕ) (good : IsGoodShape s) (within : s.group * n + s.group ≤ length log) (snaps : SnapsUpTo (s.group * n) (group_after s n log)) where
  abbrev start : ℕ
  start = s.group * n

  abbrev base : ℕ
  base = s.group * base_groups s n

  abbrev committed : List Row
  committed = history_after s log n

  abbrev part : List EntryKind
  part = group_after s n log

  abbrev found : List Standing
  found = staged_members (rows_after s log (base_groups s n)) (oldest_snap s n) (s.group * base_groups s n) (s.group * n + 1) [] (group_after s n log)

  abbrev own : List Standing
  own = standings (history_after s log n) (oldest_snap s n) (s.group * base_groups s n) (s.group * n + 1) [] (group_after s n log)

  -- the rows at the base are those of what was written up to it
  base_rows : purged (line_after s (base_groups s n)) (newest (up_to base committed)) ≡ rows_after s log (base_groups s n)
  base_rows = ap (λ h. purged (line_after s (base_groups s n)) (newest h)) (up_to_earlier s log (base_groups s n) n (base_before s n) (omega (arith, within)))

  found_own : found ≡ own
  found_own =
      ap (λ rs. staged_members rs (oldest_snap s n) base (start + 1) [] part) (sym base_rows)
      ∙ staged_are_standings committed (line_after s (base_groups s n)) (oldest_snap s n) base start part (history_rise s log n) (base_line_oldest s n) (base_low s n) snaps

  abbrev conflict : Option Clash
  conflict = first_clash (flat_map (late_conflicts (history_after s log n) (s.group * base_groups s n) (s.group * n)) own)

  fate_found : fate_on (rows_after s log n) base found ≡ fate_of conflict
  fate_found = ap (fate_on (rows_after s log n) base) found_own ∙ ap fate_of (fate_known committed (rows_after s log n) (line_after s n) base start own (history_rise s log n) (history_is_before s log n) (line_base s n good) (purged_again (line_after s n) (line_after s n) (newest committed) (ordered_newest committed) (omega arith)))

  one_next : suc n ≡ n + 1
  one_next = sym (add-one n)

  tree_next : purged (line_after s (n + 1)) (after_fate (fate_on (rows_after s log n) base found) (rows_after s log n) (group_writes (start + 1) found)) ≡ rows_after s log (n + 1)
  tree_next =
      (λ j. purged (line_after s (n + 1)) (after_fate (fate_found j) (rows_after s log n) (group_writes (start + 1) (found_own j))))
      ∙ (after_agrees (fate_of conflict) (line_after s n) (line_after s (n + 1)) (rows_after s log n) (newest committed) (group_writes (start + 1) own) (ordered_purged (line_after s n) (newest committed) (ordered_newest committed)) (ordered_newest committed)
      (purged_again (line_after s n) (line_after s n) (newest committed) (ordered_newest committed) (omega arith)) (line_rises s n (n + 1) good.window.at_least (omega arith))
      ∙ ap (purged (line_after s (n + 1))) (sym (fated_rows committed (oldest_snap s n) base (start + 1) part conflict) ∙ (sym (ap newest (history_next s log n within)) ∙ ap (λ k. newest (history_after s log k)) one_next)))

  verdicts_next : verdicts_after s log n ++ map (fated (fate_on (rows_after s log n) base found)) found ≡ verdicts_after s log (n + 1)
  verdicts_next = (λ j. verdicts_after s log n ++ map (fated (fate_found j)) (found_own j)) ∙ ap (verdicts_after s log) one_next

  -- a window that opens has the kept rows as base rows, and its own first ones are kept
  opens_next : OpensWindow s.window n → roll_group s (roller_after s log n) part ≡ roller_after s log (n + 1)
  opens_next o =
      let base_is : cond ((n + 1) % s.window == 0) (rows_after s log (kept_groups s n)) (rows_after s log (base_groups s n)) ≡ rows_after s log (base_groups s (n + 1)) =
      ap (λ b. cond b (rows_after s log (kept_groups s n)) (rows_after s log (base_groups s n))) o.told ∙ ap (rows_after s log) (sym (opened_base s n o)) in
      let kept_is : (tree : List Row) → tree ≡ rows_after s log (n + 1) → cond ((n + 1) % s.window == 0) tree (rows_after s log (kept_groups s n)) ≡ rows_after s log (kept_groups s (n + 1)) =
      λ tree e. ap (λ b. cond b tree (rows_after s log (kept_groups s n))) o.told ∙ (e ∙ ap (rows_after s log) (sym o.start)) in
      λ j. record {
        groups = n + 1;
        tree = tree_next j;
        base_tree = base_is j;
        kept = kept_is (purged (line_after s (n + 1)) (after_fate (fate_on (rows_after s log n) base found) (rows_after s log n) (group_writes (start + 1) found))) tree_next j;
        verdicts = verdicts_next j;
      }

  stays_next : StaysInWindow s.window n → roll_group s (roller_after s log n) part ≡ roller_after s log (n + 1)
  stays_next o =
      let base_is : cond ((n + 1) % s.window == 0) (rows_after s log (kept_groups s n)) (rows_after s log (base_groups s n)) ≡ rows_after s log (base_groups s (n + 1)) =
      ap (λ b. cond b (rows_after s log (kept_groups s n)) (rows_after s log (base_groups s n))) o.told ∙ ap (rows_after s log) (sym (stayed_base s n o)) in
      let kept_is : (tree : List Row) → cond ((n + 1) % s.window == 0) tree (rows_after s log (kept_groups s n)) ≡ rows_after s log (kept_groups s (n + 1)) =
      λ tree. ap (λ b. cond b tree (rows_after s log (kept_groups s n))) o.told ∙ ap (rows_after s log) (sym (stayed_kept s n o)) in
      λ j. record {
        groups = n + 1;
        tree = tree_next j;
        base_tree = base_is j;
        kept = kept_is (purged (line_after s (n + 1)) (after_fate (fate_on (rows_after s log n) base found) (rows_after s log n) (group_writes (start + 1) found))) j;
        verdicts = verdicts_next j;
      }

  pub roll_next : roll_group s (roller_after s log n) part ≡ roller_after s log (n + 1)
  roll_next = elim (next_window s.window n good.window.at_least) [ inl o ↦ opens_next o | inr o ↦ stays_next o ]

-- ---- entries that follow

one_extends : (s : Shape) (front es : List EntryKind) (r : Rolled) → IsGoodShape s → SnapsUpTo (s.group * r.groups) es → length es ≡ s.group → HasRolled s front r → HasRolled s (front ++ es) (roll_group s r es)
one_extends s front es r good snaps size st =
    let n : ℕ = r.groups in
    let log : List EntryKind = front ++ es in
    let more : s.group * (n + 1) ≡ s.group * n + s.group = ap (λ k. s.group * k) (add-one n) ∙ mul-suc s.group n in
    let all : length log ≡ s.group * n + s.group = omega (arith, length-append front es, st.whole, size) in
    let part : group_after s n log ≡ es = ap (take s.group) (ap (λ k. drop k log) (sym st.whole) ∙ drop-append_seam front es) ∙ take_all s.group es (omega (arith, size)) in
    let before : r ≡ roller_after s log n = stands_is s front r st ∙ longer_roller s front es n (omega (arith, st.whole)) in
    let next : roll_group s (roller_after s log n) (group_after s n log) ≡ roller_after s log (n + 1) = roll_next s log n good (omega (arith, all)) (subst (SnapsUpTo (s.group * n)) (sym part) snaps) in
    is_stands s log (n + 1) (roll_group s r es) (omega (arith, all, more)) ((λ j. roll_group s (before j) (sym part j)) ∙ next)

pub roll_extends : RollExtends
roll_extends s front [] zero r good snaps size st = subst (λ es. HasRolled s es r) (sym (append-nil front)) st
roll_extends s front (e ∷ es) zero r good snaps size st = absurd (omega (arith, size))
roll_extends s front es (suc k) r good snaps size st =
    let g : ℕ = s.group in
    let more : g * suc k ≡ g * k + g = mul-suc g k in
    let part : List EntryKind = take g es in
    let rest : List EntryKind = drop g es in
    let part_length : length part ≡ g = length-take-le g es (omega (arith, size, more)) in
    let own : SnapsUpTo (g * r.groups) part = group_snaps s r.groups es (subst (λ p. HaveLawfulSnaps s p es) st.whole snaps) in
    let one : HasRolled s (front ++ part) (roll_group s r part) = one_extends s front part r good own part_length st in
    let place : length front + g ≡ length (front ++ part) = omega (arith, length-append front part, part_length) in
    let later : HaveLawfulSnaps s (length (front ++ part)) rest = subst (λ p. HaveLawfulSnaps s p rest) place (snaps_drop s (length front) g es snaps) in
    subst (λ log. HasRolled s log (roll_groups s k (roll_group s r part) rest)) (append_assoc front part rest ∙ ap (λ l. front ++ l) (take-append-drop g es))
    (roll_extends s (front ++ part) rest k (roll_group s r part) good later (omega (arith, length-drop g es, size, more)) one)

-- rows that were written, by writers up to a position
pub writers_within : (high : ℕ) (rows : List Row) → AreWritten rows → Each (λ row. row.writer ≤ high) rows → Each (λ row. IsWithin 1 high row.writer) rows
writers_within high [] low below = tt
writers_within high (row ∷ rows) low below = (record { at_least = low.0; at_most = below.0 }, writers_within high rows low.1 below.1)
