-- Rolls that are cut in two, and rows that grow.
use Rattle.std.proofs.Common.{◌≡◌, ℕ, zero, suc, ◌+◌, ◌*◌, ◌/◌, ◌%◌, ◌<◌, ◌≤◌, cond, List, [], ◌∷◌, ◌++◌, length, take, drop, refl, sym, ap, ◌∙◌, subst, arith, inl, inr, length-take, length-drop}
use Rattle.std.proofs.lemmas.List.{drop-append-le, take-append-le}
use Rattle.std.proofs.Math.Nat.{mul-suc, mul-le-mul_left}
use Rattle.std.proofs.lemmas.Bool.{eq-eqb}
use Rattle.std.specs.Prelude.{◌==◌, ◌⊎◌, Bool, true, false, IfSome}
use Rattle.hy_base.specs.declared.layout.Shape.{Shape}
use Rattle.hy_base.specs.declared.record.EntryKind.{EntryKind}
use Rattle.hy_base.specs.declared.record.Row.{Row}
use Rattle.hy_base.specs.declared.record.Verdict.{Verdict}
use Rattle.hy_base.specs.declared.record.Verdict.TheVariants.{Commit, Old, Pre, Mate, Final}
use Rattle.hy_base.specs.Shape.{IsGoodShape, base_groups, kept_groups, before_horizon, oldest_snap, line_after}
use Rattle.hy_base.specs.Rows.{Each, IsOrdered, applied, newest, purged, Agrees}
use Rattle.hy_base.specs.Later.{Later, HasAll}
use Rattle.hy_base.specs.Marks.{first_late}
use Rattle.hy_base.proofs.PurgeLemmas.{ordered_purged, Each-purged, purged_again, purged_applied, late_purged, later_purged, has_all_purged, has_all_later, has_all_each}
use Rattle.hy_base.proofs.EachLemmas.{Each-map}
use Rattle.hy_base.proofs.GroupLemmas.{whole_count}
use Rattle.hy_base.proofs.ShapeLemmas.{base_before, kept_before, line_base}
use Rattle.hy_base.proofs.RowLemmas.{ordered_applied, ordered_newest, Each-applied, Each-newest, newest-append, later_applied, later_same}
use Rattle.hy_rules.specs.History.{history_from}
use Rattle.hy_rules.specs.Validation.{Standing, joined_writes, group_writes, fate_of, verdicts_after, history_after, rows_after}
use Rattle.hy_roll_laws.specs.Rolling.{staged_as, staged_members, least_known, fate_on, after_fate, Roll, Rolled, rolled_upto, staged_next, finished, roll_group, roll_groups, roll_on, AreWritten, IsRolled, IsTreeOf}
use Rattle.hy_roll_laws.specs.RollingLaws.{AnyCutRollsTheSame, StandingIsLater, RollKeepsLater, TreeFollows}
use Rattle.hy_rules.proofs.Groups.{times_more}
use Rattle.hy_rules.proofs.Serial.{history_from_low, history_is_before}
use Rattle.hy_roll_laws.proofs.Mates.{writes_from, writes_below, least_from}
use Rattle.hy_roll_laws.proofs.Fates.{known_past, after_agrees}
use Rattle.hy_roll_laws.proofs.Windows.{OpensWindow, StaysInWindow, next_window, opened_base, stayed_base, stayed_kept, stayed_line, base_low, kept_low, line_rises, kept_line, base_line}
use Rattle.hy_rules.proofs.Growth.{history_more}
use Rattle.hy_roll_laws.proofs.RollLemmas.{roller_after, stands_is}

pub any_cut_rolls_the_same : AnyCutRollsTheSame
any_cut_rolls_the_same s zero more r [] fs size = let e : zero + more ≡ more = omega arith in ap (λ k. roll_groups s k r fs) e
any_cut_rolls_the_same s zero more r (e ∷ es) fs size = absurd (omega (arith, size))
any_cut_rolls_the_same s (suc k) more r es fs size =
    let g : ℕ = s.group in
    let step : g * suc k ≡ g * k + g = mul-suc g k in
    let count : suc k + more ≡ suc (k + more) = omega arith in
    ap (λ c. roll_groups s c r (es ++ fs)) count
    ∙ ((λ j. roll_groups s (k + more) (roll_group s r (take-append-le g es fs (omega (arith, size, step)) j)) (drop-append-le g es fs (omega (arith, size, step)) j))
    ∙ any_cut_rolls_the_same s k more (roll_group s r (take g es)) (drop g es) fs (omega (arith, length-drop g es, size, step)))

-- ---- later rows

-- the rows after some groups were written at positions of the log
pub rows_written : (s : Shape) (log : List EntryKind) (n : ℕ) → AreWritten (rows_after s log n)
rows_written s log n = Each-purged (λ x. 1 ≤ x.writer) (line_after s n) (newest (history_after s log n)) (Each-newest (λ x. 1 ≤ x.writer) (history_after s log n) (history_from_low 1 log (verdicts_after s log n)))

rows_ordered : (s : Shape) (log : List EntryKind) (n : ℕ) → IsOrdered (rows_after s log n)
rows_ordered s log n = ordered_purged (line_after s n) (newest (history_after s log n)) (ordered_newest (history_after s log n))

rows_bounded : (s : Shape) (log : List EntryKind) (n : ℕ) → Each (λ r. r.writer ≤ s.group * n) (rows_after s log n)
rows_bounded s log n = Each-purged (λ r. r.writer ≤ s.group * n) (line_after s n) (newest (history_after s log n)) (Each-newest (λ r. r.writer ≤ s.group * n) (history_after s log n) (history_is_before s log n))

rows_left : (s : Shape) (log : List EntryKind) (n line : ℕ) → line_after s n ≡ line → Agrees line (rows_after s log n) (rows_after s log n)
rows_left s log n line e = subst (λ k. Agrees k (rows_after s log n) (rows_after s log n)) e (purged_again (line_after s n) (line_after s n) (newest (history_after s log n)) (ordered_newest (history_after s log n)) (omega arith))

-- the rows after more groups grew out of those after the earlier ones
pub rows_later : (s : Shape) (log : List EntryKind) (m n : ℕ) → 0 < s.window → line_after s n ≤ s.group * m → m ≤ n → s.group * n ≤ length log → Later (rows_after s log m) (rows_after s log n) (s.group * m) (line_after s n)
rows_later s log m n some low le within =
    let pos : ℕ = s.group * m in
    let up : line_after s m ≤ line_after s n = line_rises s m n some le in
    let more : List Row = history_from (pos + 1) (drop pos log) (drop pos (verdicts_after s log n)) in
    let above : Each (λ r. pos < r.writer) more = Each-map (λ r. pos + 1 ≤ r.writer) _ (λ r h. omega (arith, h)) more (history_from_low (pos + 1) (drop pos log) (drop pos (verdicts_after s log n))) in
    let grown : purged (line_after s n) (applied (rows_after s log m) more) ≡ rows_after s log n =
    purged_applied (line_after s m) (line_after s n) (newest (history_after s log m)) more (ordered_newest (history_after s log m)) up
    ∙ ap (purged (line_after s n)) (sym (ap newest (history_more s log m n le within) ∙ newest-append (history_after s log m) more)) in
    let here : Later (rows_after s log m) (rows_after s log m) pos (line_after s m) = later_same pos (line_after s m) (rows_after s log m) (omega (arith, up, low)) (rows_ordered s log m) (rows_bounded s log m) in
    subst (λ rs. Later (rows_after s log m) rs pos (line_after s n)) grown
    (later_purged pos (line_after s m) (line_after s n) (rows_after s log m) (applied (rows_after s log m) more) (ordered_applied (rows_after s log m) more (rows_ordered s log m))
    (later_applied pos (line_after s m) (rows_after s log m) (rows_after s log m) more here above) up low)

pub standing_is_later : StandingIsLater
standing_is_later s front r good st =
    let n : ℕ = r.groups in
    let some : 0 < s.window = good.window.at_least in
    let within : s.group * n ≤ length front = omega (arith, st.whole) in
    let low : line_after s n ≤ s.group * base_groups s n = line_base s n good in
    let order : s.group * base_groups s n ≤ s.group * kept_groups s n = mul-le-mul_left s.group (mul-le-mul_left s.window (omega arith)) in
    let stood : IsRolled s (roller_after s front n) = record {
      ordered = rows_ordered s front n;
      bounded = rows_bounded s front n;
      base_later = rows_later s front (base_groups s n) n some low (base_before s n) within;
      kept_later = rows_later s front (kept_groups s n) n some (omega (arith, low, order)) (kept_before s n) within;
      written = rows_written s front n;
      base_written = rows_written s front (base_groups s n);
      kept_written = rows_written s front (kept_groups s n);
      left = rows_left s front n (line_after s n) refl;
      base_left = rows_left s front (base_groups s n) (before_horizon s.horizon (s.group * base_groups s n)) (base_line s n some);
      kept_left = rows_left s front (kept_groups s n) (line_after s n) (kept_line s n some);
    } in
    subst (IsRolled s) (sym (stands_is s front r st)) stood

pub length-staged : (base_rows : List Row) (oldest base pos : ℕ) (joined : List Row) (es : List EntryKind) → length (staged_members base_rows oldest base pos joined es) ≡ length es
length-staged base_rows oldest base pos joined [] = refl
length-staged base_rows oldest base pos joined (e ∷ es) = ap suc (length-staged base_rows oldest base (pos + 1) (joined ++ joined_writes pos (staged_as base_rows oldest base joined e)) es)

ordered_after : (v : Verdict) (rows writes : List Row) → IsOrdered rows → IsOrdered (after_fate v rows writes)
ordered_after Commit rows writes o = ordered_applied rows writes o
ordered_after (Old snap) rows writes o = o
ordered_after (Pre c) rows writes o = o
ordered_after (Mate c) rows writes o = o
ordered_after (Final c) rows writes o = o

each_after : (P : Row → Type 0) (v : Verdict) (rows writes : List Row) → Each P rows → Each P writes → Each P (after_fate v rows writes)
each_after P Commit rows writes a b = Each-applied P rows writes a b
each_after P (Old snap) rows writes a b = a
each_after P (Pre c) rows writes a b = a
each_after P (Mate c) rows writes a b = a
each_after P (Final c) rows writes a b = a

later_after : (base line : ℕ) (earlier rows writes : List Row) (v : Verdict) → Later earlier rows base line → Each (λ w. base < w.writer) writes → Later earlier (after_fate v rows writes) base line
later_after base line earlier rows writes Commit l a = later_applied base line earlier rows writes l a
later_after base line earlier rows writes (Old snap) l a = l
later_after base line earlier rows writes (Pre c) l a = l
later_after base line earlier rows writes (Mate c) l a = l
later_after base line earlier rows writes (Final c) l a = l

-- the fate is the same on each tree that agrees with the rows
pub same_fate : (s : Shape) (r : Rolled) (ms : List Standing) (tree : List Row) → IsGoodShape s → Agrees (line_after s r.groups) tree r.tree → fate_on tree (s.group * base_groups s r.groups) ms ≡ fate_on r.tree (s.group * base_groups s r.groups) ms
same_fate s r ms tree good agrees =
    let line : ℕ = line_after s r.groups in
    let base : ℕ = s.group * base_groups s r.groups in
    let from : (key : ℕ) → IfSome (least_known base ms key) (λ d. line ≤ d) = λ key. known_past line base (least_known base ms key) (line_base s r.groups good) (least_from base ms key) in
    ap fate_of (sym (late_purged line (least_known base ms) tree from) ∙ ap (first_late (least_known base ms)) agrees)

-- ---- one more group, whatever rows the members were staged on

module _ (s : Shape) (r : Rolled) (ms : List Standing) (good : IsGoodShape s) (fits : length ms ≤ s.group) where
  abbrev n : ℕ
  n = r.groups

  abbrev line : ℕ
  line = line_after s r.groups

  abbrev next : ℕ
  next = line_after s (r.groups + 1)

  abbrev base : ℕ
  base = s.group * base_groups s r.groups

  abbrev kept : ℕ
  kept = s.group * kept_groups s r.groups

  abbrev writes : List Row
  writes = group_writes (s.group * r.groups + 1) ms

  more : s.group * (n + 1) ≡ s.group * n + s.group
  more = times_more s.group n

  up : line ≤ next
  up = line_rises s n (n + 1) good.window.at_least (omega arith)

  above : Each (λ w. s.group * n + 1 ≤ w.writer) writes
  above = writes_from (s.group * n + 1) ms

  past : (low : ℕ) → low ≤ s.group * n → Each (λ w. low < w.writer) writes
  past low le = Each-map (λ w. s.group * n + 1 ≤ w.writer) _ (λ w h. omega (arith, h, le)) writes above

  -- what a group leaves of a tree, before the line moves
  module _ (v : Verdict) (tree : List Row) where
    after_ordered : IsOrdered tree → IsOrdered (after_fate v tree writes)
    after_ordered o = ordered_after v tree writes o

    after_bounded : Each (λ x. x.writer ≤ s.group * n) tree → Each (λ x. x.writer ≤ s.group * (n + 1)) (after_fate v tree writes)
    after_bounded a =
        each_after (λ x. x.writer ≤ s.group * (n + 1)) v tree writes (Each-map (λ x. x.writer ≤ s.group * n) _ (λ x h. omega (arith, h, more)) tree a)
        (Each-map (λ x. x.writer < s.group * n + 1 + length ms) _ (λ x h. omega (arith, h, more, fits)) writes (writes_below (s.group * n + 1) ms))

    after_written : AreWritten tree → AreWritten (after_fate v tree writes)
    after_written a = each_after (λ x. 1 ≤ x.writer) v tree writes a (Each-map (λ w. s.group * n + 1 ≤ w.writer) _ (λ w h. omega (arith, h)) writes above)

  pub finished_keeps : IsRolled s r → IsRolled s (finished s r ms)
  finished_keeps is =
      let v : Verdict = fate_on r.tree base ms in
      let end : List Row = after_fate v r.tree writes in
      let tree : List Row = purged next end in
      let ordered : IsOrdered end = after_ordered v r.tree is.ordered in
      let bounded : Each (λ x. x.writer ≤ s.group * (n + 1)) tree = Each-purged (λ x. x.writer ≤ s.group * (n + 1)) next end (after_bounded v r.tree is.bounded) in
      let written : AreWritten tree = Each-purged (λ x. 1 ≤ x.writer) next end (after_written v r.tree is.written) in
      let left : Agrees next tree tree = purged_again next next end ordered (omega arith) in
      let base_later : Later r.base_tree end base line = later_after base line r.base_tree r.tree writes v is.base_later (past base (base_low s n)) in
      let kept_later : Later r.kept end kept line = later_after kept line r.kept r.tree writes v is.kept_later (past kept (kept_low s n)) in
      let low : next ≤ s.group * base_groups s (n + 1) = line_base s (n + 1) good in
      elim (next_window s.window n good.window.at_least) [
        | inl o ↦
            let at_kept : s.group * base_groups s (n + 1) ≡ kept = ap (λ m. s.group * m) (opened_base s n o) in
            record {
              ordered = ordered_purged next end ordered;
              bounded = bounded;
              base_later = subst (λ b. Later (cond b r.kept r.base_tree) tree (s.group * base_groups s (n + 1)) next) (sym o.told) (subst (λ m. Later r.kept tree m next) (sym at_kept) (later_purged kept line next r.kept end ordered kept_later up (omega (arith, low, at_kept))));
              kept_later = subst (λ b. Later (cond b tree r.kept) tree (s.group * kept_groups s (n + 1)) next) (sym o.told) (subst (λ m. Later tree tree (s.group * m) next) (sym o.start)
                  (later_same (s.group * (n + 1)) next tree (omega (arith, low, base_low s (n + 1))) (ordered_purged next end ordered) bounded));
              written = written;
              base_written = subst (λ b. AreWritten (cond b r.kept r.base_tree)) (sym o.told) is.kept_written;
              kept_written = subst (λ b. AreWritten (cond b tree r.kept)) (sym o.told) written;
              left = left;
              base_left = subst (λ b. Agrees (before_horizon s.horizon (s.group * base_groups s (n + 1))) (cond b r.kept r.base_tree) (cond b r.kept r.base_tree)) (sym o.told)
                  (subst (λ m. Agrees (before_horizon s.horizon m) r.kept r.kept) (sym at_kept) is.kept_left);
              kept_left = subst (λ b. Agrees next (cond b tree r.kept) (cond b tree r.kept)) (sym o.told) left;
            }
        | inr o ↦
            let at_base : s.group * base_groups s (n + 1) ≡ base = ap (λ m. s.group * m) (stayed_base s n o) in
            let at_kept : s.group * kept_groups s (n + 1) ≡ kept = ap (λ m. s.group * m) (stayed_kept s n o) in
            let order : base ≤ kept = mul-le-mul_left s.group (mul-le-mul_left s.window (omega arith)) in
            record {
              ordered = ordered_purged next end ordered;
              bounded = bounded;
              base_later = subst (λ b. Later (cond b r.kept r.base_tree) tree (s.group * base_groups s (n + 1)) next) (sym o.told) (subst (λ m. Later r.base_tree tree m next) (sym at_base) (later_purged base line next r.base_tree end ordered base_later up (omega (arith, low, at_base))));
              kept_later = subst (λ b. Later (cond b tree r.kept) tree (s.group * kept_groups s (n + 1)) next) (sym o.told) (subst (λ m. Later r.kept tree m next) (sym at_kept) (later_purged kept line next r.kept end ordered kept_later up (omega (arith, low, at_base, order))));
              written = written;
              base_written = subst (λ b. AreWritten (cond b r.kept r.base_tree)) (sym o.told) is.base_written;
              kept_written = subst (λ b. AreWritten (cond b tree r.kept)) (sym o.told) is.kept_written;
              left = left;
              base_left = subst (λ b. Agrees (before_horizon s.horizon (s.group * base_groups s (n + 1))) (cond b r.kept r.base_tree) (cond b r.kept r.base_tree)) (sym o.told)
                  (subst (λ m. Agrees (before_horizon s.horizon m) r.base_tree r.base_tree) (sym at_base) is.base_left);
              kept_left = subst (λ b. Agrees next (cond b tree r.kept) (cond b tree r.kept)) (sym o.told) (subst (λ m. Agrees m r.kept r.kept) (sym (stayed_line s n o)) is.kept_left);
            }
      ]

  module _ (is : IsRolled s r) (tree end : List Row) (t : IsTreeOf s r tree) (o : IsOrdered end) (h : HasAll line r.base_tree (after_fate (fate_on tree base ms) tree writes) end) where
    abbrev v : Verdict
    v = fate_on tree (s.group * base_groups s r.groups) ms

    abbrev whole : List Row
    whole = after_fate v tree writes

    whole_ordered : IsOrdered whole
    whole_ordered = after_ordered v tree t.ordered

    end_later : Later r.base_tree end base line
    end_later = has_all_later line r.base_tree whole end h base (later_after base line r.base_tree tree writes v t.later (past base (base_low s n)))

    end_bounded : Each (λ x. x.writer ≤ s.group * (n + 1)) end
    end_bounded =
        has_all_each line r.base_tree whole end h (λ x. x.writer ≤ s.group * (n + 1)) (after_bounded v tree t.bounded)
        (Each-map (λ x. x.writer ≤ base) _ (λ x k. omega (arith, k, base_low s n, more)) r.base_tree t.later.old)

    pub end_written : AreWritten end
    end_written = has_all_each line r.base_tree whole end h (λ x. 1 ≤ x.writer) (after_written v tree t.written) is.base_written

    -- what is left of it past the next line are the next rows
    end_left : purged next end ≡ (finished s r ms).tree
    end_left =
        sym (purged_again line next end o up)
        ∙ (ap (purged next) (has_all_purged line r.base_tree whole end h whole_ordered o)
        ∙ (purged_again line next whole whole_ordered up
        ∙ (after_agrees v line next tree r.tree writes t.ordered is.ordered (t.agrees ∙ sym is.left) up ∙ ap (λ f. purged next (after_fate f r.tree writes)) (same_fate s r ms tree good t.agrees))))

    end_follows : (b : Bool) → ((r.groups + 1) % s.window == 0) ≡ b → IsTreeOf s (finished s r ms) (cond b (purged next end) end)
    end_follows true told =
        let open_window : base_groups s (n + 1) ≡ kept_groups s n = opened (next_window s.window n good.window.at_least) in
        let later : Later r.kept (finished s r ms).tree (s.group * base_groups s (n + 1)) next = subst (λ b. Later (cond b r.kept r.base_tree) (finished s r ms).tree (s.group * base_groups s (n + 1)) next) told (finished_keeps is).base_later in
        record {
          ordered = ordered_purged next end o;
          bounded = Each-purged (λ x. x.writer ≤ s.group * (n + 1)) next end end_bounded;
          written = Each-purged (λ x. 1 ≤ x.writer) next end end_written;
          later = subst (λ x. Later (cond ((r.groups + 1) % s.window == 0) r.kept r.base_tree) x (s.group * base_groups s (n + 1)) next) (sym end_left) (finished_keeps is).base_later;
          agrees = purged_again next next end o (omega arith) ∙ end_left;
          at_window_end = λ e. end_left;
        }
      where
        opened : OpensWindow s.window n ⊎ StaysInWindow s.window n → base_groups s (n + 1) ≡ kept_groups s n
        opened (inl w) = opened_base s n w
        opened (inr w) = let bad = sym told ∙ w.told in cc
    end_follows false told = record {
      ordered = o;
      bounded = end_bounded;
      written = end_written;
      later = stays (next_window s.window n good.window.at_least);
      agrees = end_left;
      at_window_end = λ e. absurd (let bad : ((r.groups + 1) % s.window == 0) ≡ true = eq-eqb _ _ e in let worse = sym told ∙ bad in cc);
    }
      where
        stays : OpensWindow s.window n ⊎ StaysInWindow s.window n → Later (cond ((r.groups + 1) % s.window == 0) r.kept r.base_tree) end (s.group * base_groups s (n + 1)) next
        stays (inl w) = let bad = sym told ∙ w.told in cc
        stays (inr w) =
            subst (λ b. Later (cond b r.kept r.base_tree) end (s.group * base_groups s (n + 1)) next) (sym told)
            (subst (λ m. Later r.base_tree end m next) (sym (ap (λ m. s.group * m) (stayed_base s n w))) (subst (λ m. Later r.base_tree end base m) (sym (stayed_line s n w)) end_later))

pub tree_follows : TreeFollows
tree_follows s r ms tree end next good fits is t o h e = subst (IsTreeOf s (finished s r ms)) (sym e) (end_follows s r ms good fits is tree end t o h ((r.groups + 1) % s.window == 0) refl)

pub roll_keeps_later : RollKeepsLater
roll_keeps_later s r entries good fits is =
    let count : length (staged_next s r entries) ≡ length entries = length-staged r.base_tree (oldest_snap s r.groups) (s.group * base_groups s r.groups) (s.group * r.groups + 1) [] entries in
    finished_keeps s r (staged_next s r entries) good (omega (arith, count, fits)) is

-- ---- rolls of more groups

pub rolls_keep : (s : Shape) (k : ℕ) (r : Rolled) (entries : List EntryKind) → IsGoodShape s → IsRolled s r → IsRolled s (roll_groups s k r entries)
rolls_keep s zero r entries good is = is
rolls_keep s (suc k) r entries good is =
    rolls_keep s k (roll_group s r (take s.group entries)) (drop s.group entries) good (roll_keeps_later s r (take s.group entries) good (omega (arith, length-take s.group entries)) is)

-- each roll counts its groups
pub rolled_groups : (s : Shape) (k : ℕ) (r : Rolled) (entries : List EntryKind) → (roll_groups s k r entries).groups ≡ r.groups + k
rolled_groups s zero r entries = omega arith
rolled_groups s (suc k) r entries = let rest = rolled_groups s k (roll_group s r (take s.group entries)) (drop s.group entries) in omega (arith, rest)

pub rolled_on : (r : Roll) (entries : List EntryKind) → length entries % r.shape.group ≡ 0 → rolled_upto (roll_on r entries) ≡ rolled_upto r + length entries
rolled_on r entries whole =
    let g = r.shape.group in
    let n = whole_count g (length entries) whole in
    let k = rolled_groups r.shape (length entries / g) r.rolled entries in
    ap (λ (m : ℕ). g * m) k ∙ (let e : g * (r.rolled.groups + length entries / g) ≡ g * r.rolled.groups + length entries = omega (arith, n) in e)
