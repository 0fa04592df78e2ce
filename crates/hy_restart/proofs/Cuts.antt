-- Past the base of a point two logs decide alike that go on by the same entries.
use Rattle.std.proofs.Common.{◌≡◌, inl, inr, ℕ, ◌+◌, ◌-◌, ◌*◌, ◌/◌, ◌%◌, ◌≤◌, List, ◌++◌, length, take, drop, map, Option, Some, refl, sym, ap, subst, ◌∙◌, arith, take-append-drop}
use Rattle.std.proofs.lemmas.Bool.{cases_lt}
use Rattle.std.proofs.lemmas.List.{length-take-le, drop-drop, drop_all, drop-append-le, take-take, map-append}
use Rattle.std.proofs.Math.Nat.{mul-mod_right, mul-le-mul_left, le_of_mul-le-mul_left}
use Rattle.std.proofs.Math.Seq.{take-length}
use Rattle.hy_base.specs.declared.layout.Shape.{Shape}
use Rattle.hy_base.specs.declared.record.EntryKind.{EntryKind}
use Rattle.hy_base.specs.declared.record.Verdict.{Verdict}
use Rattle.hy_base.specs.Log.{IsLawful}
use Rattle.hy_base.specs.Rows.{applied, purged}
use Rattle.hy_base.specs.Shape.{IsGoodShape, base_groups, line_after, whole_groups}
use Rattle.hy_base.specs.Verdicts.{is_commit}
use Rattle.hy_base.proofs.GroupLemmas.{whole_below, whole_count}
use Rattle.hy_rules.specs.Validation.{verdicts_after, rows_after}
use Rattle.hy_rules.specs.History.{commits_past, flagged_history}
use Rattle.hy_rules.specs.RuleLaws.{AreSame}
use Rattle.hy_rules.specs.SavedPoints.{IsPointOf, PointStands}
use Rattle.hy_rules.proofs.Growth.{Follow, verdicts_follow, verdict_count, past_earlier, growth_keeps_rows, snaps_take}
use Rattle.hy_roll_laws.specs.Rolling.{Roll, resumed, roll_on, Stands}
use Rattle.hy_roll_laws.proofs.CommitLemmas.{commits_cut, commits_give_rows}
use Rattle.hy_formats.specs.Checkpoint.{Checkpoint, IsCheckpoint}
use Rattle.hy_restart.specs.Resuming.{whole_front, restarted_roll}
use Rattle.hy_restart.specs.CutLaws.{DecideAlike}
use Rattle.hy_restart.proofs.Restarts.{RollerLaws, restart_stands, part_is}

-- what the first groups decide, the entries of these groups decide alone
front_same : (s : Shape) (log : List EntryKind) (n : ℕ) → s.group * n ≤ length log → AreSame s log (take (s.group * n) log) n
front_same s log n within =
    let front : List EntryKind = take (s.group * n) log in
    let size : length front ≡ s.group * n = length-take-le (s.group * n) log within in
    subst (λ (l : List EntryKind). AreSame s l front n) (take-append-drop (s.group * n) log) (growth_keeps_rows s front (drop (s.group * n) log) n (omega (arith, size)))

-- two logs that are as long, and have the same entries past a position
pub record AgreePast (from : ℕ) (log other : List EntryKind) : Type 0 where
  pub same : drop from log ≡ drop from other
  pub size : length log ≡ length other

pub agree_further : (from more : ℕ) (log other : List EntryKind) → from ≤ more → AgreePast from log other → AgreePast more log other
agree_further from more log other le agree =
    let sum : from + (more - from) ≡ more = omega (arith, le) in
    record {
      same = ap (λ (n : ℕ). drop n log) (sym sum) ∙ (sym (drop-drop (more - from) from log) ∙ (ap (drop (more - from)) agree.same ∙ (drop-drop (more - from) from other ∙ ap (λ (n : ℕ). drop n other) sum)));
      size = agree.size;
    }

-- parts past that position are the same
pub same_part : (from to : ℕ) (log other : List EntryKind) → from ≤ to → AgreePast from log other → drop from (take to log) ≡ drop from (take to other)
same_part from to log other order agree = sym (part_is from to log order) ∙ (ap (take (to - from)) agree.same ∙ part_is from to other order)

pub same_roll : (s : Shape) (c : Checkpoint) (log other : List EntryKind) → c.base ≤ c.position → c.position ≤ whole_groups s (length log) → AgreePast c.base log other → restarted_roll s log (Some c) ≡ restarted_roll s other (Some c)
same_roll s c log other low high agree =
    let behind : drop c.base (take c.position log) ≡ drop c.base (take c.position other) = same_part c.base c.position log other low agree in
    let later : AgreePast c.position log other = agree_further c.base c.position log other low agree in
    let w : ℕ = whole_groups s (length log) in
    let rest : drop c.position (whole_front s log) ≡ drop c.position (whole_front s other) =
    same_part c.position w log other high later ∙ ap (λ (n : ℕ). drop c.position (take (whole_groups s n) other)) agree.size in
    (λ i. roll_on (resumed s c.position c.rows (behind i) c.flags) (rest i))

module _ (s : Shape) (c : Checkpoint) (good : IsGoodShape s) (valid : IsCheckpoint c) (shape : c.shape ≡ s) where
  -- the point is at the end of these groups
  abbrev at : ℕ
  at = c.position / s.group

  whole : c.position % s.group ≡ 0
  whole = subst (λ (t : Shape). c.position % t.group ≡ 0) shape valid.whole

  pub there : c.position ≡ s.group * (c.position / s.group)
  there = whole_count s.group c.position whole

  pub base_there : c.base ≡ s.group * base_groups s (c.position / s.group)
  base_there = subst (λ (t : Shape). c.base ≡ t.group * base_groups t (c.position / t.group)) shape valid.base_is

  -- which entries past the base committed, up to the point
  flagged : (log : List EntryKind) → IsPointOf s log c → c.flags ≡ commits_past c.base (verdicts_after s log (c.position / s.group))
  flagged log of =
      let within : s.group * at ≤ length log = omega (arith, there, of.within) in
      let told : c.flags ≡ commits_past c.base (verdicts_after s (take c.position log) at) = subst (λ (t : Shape). c.flags ≡ commits_past c.base (verdicts_after t (take c.position log) (c.position / t.group))) shape of.stands.flags_are in
      told ∙ (ap (λ (n : ℕ). commits_past c.base (verdicts_after s (take n log) at)) there ∙ ap (commits_past c.base) (sym (front_same s log at within).verdicts))

  -- the rows at the base
  pub base_rows : (log : List EntryKind) → IsPointOf s log c → rows_after s log (base_groups s (c.position / s.group)) ≡ c.rows
  base_rows log of =
      let m : ℕ = base_groups s at in
      let front : List EntryKind = take c.position log in
      let size : length front ≡ c.position = of.stands.whole in
      let low : c.base ≤ c.position = omega (arith, valid.flag_each) in
      let told : c.rows ≡ rows_after s front m = subst (λ (t : Shape). c.rows ≡ rows_after t front (base_groups t (c.position / t.group))) shape of.stands.rows_are in
      let grown : rows_after s (front ++ drop c.position log) m ≡ rows_after s front m = (growth_keeps_rows s front (drop c.position log) m (omega (arith, size, low, base_there))).rows in
      ap (λ (l : List EntryKind). rows_after s l m) (sym (take-append-drop c.position log)) ∙ (grown ∙ sym told)

  -- the rows after later groups, by which entries past the base committed
  rows_by : (log : List EntryKind) (n : ℕ) → IsPointOf s log c → base_groups s (c.position / s.group) ≤ n → s.group * n ≤ length log
      → rows_after s log n ≡ purged (line_after s n) (applied c.rows (flagged_history (c.base + 1) (drop c.base log) (commits_past c.base (verdicts_after s log n))))
  rows_by log n of low within =
      let m : ℕ = base_groups s at in
      sym (commits_give_rows s log m n good.window.at_least low within)
      ∙ (λ i. purged (line_after s n) (applied (base_rows log of i) (flagged_history (sym base_there i + 1) (drop (sym base_there i) log) (commits_past (sym base_there i) (verdicts_after s log n)))))

  rows_alike : (log other : List EntryKind) (n : ℕ) → IsPointOf s log c → IsPointOf s other c → AgreePast c.base log other → base_groups s (c.position / s.group) ≤ n → s.group * n ≤ length log
      → commits_past c.base (verdicts_after s log n) ≡ commits_past c.base (verdicts_after s other n) → rows_after s log n ≡ rows_after s other n
  rows_alike log other n of of' agree low within commits =
      rows_by log n of low within
      ∙ ((λ i. purged (line_after s n) (applied c.rows (flagged_history (c.base + 1) (agree.same i) (commits i))))
      ∙ sym (rows_by other n of' low (omega (arith, within, agree.size))))

  -- ---- up to the point

  commits_early : (log : List EntryKind) (n : ℕ) → IsPointOf s log c → base_groups s (c.position / s.group) ≤ n → n ≤ c.position / s.group → commits_past c.base (verdicts_after s log n) ≡ take (s.group * n - c.base) c.flags
  commits_early log n of low high =
      let m : ℕ = base_groups s at in
      let cut : commits_past (s.group * m) (verdicts_after s log n) ≡ take (s.group * n - s.group * m) (commits_past (s.group * m) (verdicts_after s log at)) = commits_cut s log m n at low high (omega (arith, there, of.within)) in
      subst (λ (b : ℕ). commits_past b (verdicts_after s log n) ≡ take (s.group * n - b) (commits_past b (verdicts_after s log at))) (sym base_there) cut
      ∙ ap (take (s.group * n - c.base)) (sym (flagged log of))

  early : (log other : List EntryKind) (n : ℕ) → IsPointOf s log c → IsPointOf s other c → AgreePast c.base log other → base_groups s (c.position / s.group) ≤ n → n ≤ c.position / s.group → s.group * n ≤ length log → DecideAlike s c log other n
  early log other n of of' agree low high within =
      let commits : commits_past c.base (verdicts_after s log n) ≡ commits_past c.base (verdicts_after s other n) = commits_early log n of low high ∙ sym (commits_early other n of' low high) in
      let up : s.group * n ≤ s.group * at = mul-le-mul_left s.group high in
      let count : length (verdicts_after s log n) ≡ s.group * n = verdict_count s log n within in
      let count' : length (verdicts_after s other n) ≡ s.group * n = verdict_count s other n (omega (arith, within, agree.size)) in
      record {
        rows = rows_alike log other n of of' agree low within commits;
        commits = commits;
        verdicts = drop_all c.position (verdicts_after s log n) (omega (arith, count, up, there)) ∙ sym (drop_all c.position (verdicts_after s other n) (omega (arith, count', up, there)));
      }

  -- ---- past the point

  commits_late : (log : List EntryKind) (n : ℕ) → IsPointOf s log c → c.position / s.group ≤ n → s.group * n ≤ length log
      → commits_past c.base (verdicts_after s log n) ≡ c.flags ++ map is_commit (drop c.position (verdicts_after s log n))
  commits_late log n of high within =
      let f : Follow (verdicts_after s log at) (verdicts_after s log n) = verdicts_follow s log at n high in
      let vs : List (Option Verdict) = verdicts_after s log at in
      let fits : s.group * at ≤ length log = omega (arith, there, of.within) in
      let count : length vs ≡ s.group * at = verdict_count s log at fits in
      let low : c.base ≤ length vs = omega (arith, count, there, valid.flag_each) in
      let past : drop c.position (verdicts_after s log n) ≡ f.more = ap (λ (k : ℕ). drop k (verdicts_after s log n)) there ∙ past_earlier s log at n f fits in
      ap (commits_past c.base) f.is
      ∙ (ap (map is_commit) (drop-append-le c.base vs f.more low)
      ∙ (map-append is_commit (drop c.base vs) f.more
      ∙ (λ i. sym (flagged log of) i ++ map is_commit (sym past i))))

  -- the roller of these groups, resumed from the point
  abbrev rolled_to : List EntryKind → ℕ → Roll
  rolled_to log n = restarted_roll s (take (s.group * n) log) (Some c)

  pub rolled_stands : RollerLaws → (log : List EntryKind) (n : ℕ) → IsLawful s log → IsPointOf s log c → c.position ≤ s.group * n → s.group * n ≤ length log → Stands (take (s.group * n) log) (restarted_roll s (take (s.group * n) log) (Some c))
  rolled_stands laws log n lawful of low within =
      let front : List EntryKind = take (s.group * n) log in
      let size : length front ≡ s.group * n = length-take-le (s.group * n) log within in
      let is : length front % s.group ≡ 0 = ap (λ (k : ℕ). k % s.group) size ∙ mul-mod_right s.group n in
      let lawful_front : IsLawful s front = record { capacity = omega (arith, size, within, lawful.capacity); snaps = snaps_take s 0 (s.group * n) log lawful.snaps } in
      let same : take c.position front ≡ take c.position log = take-take c.position (s.group * n) log low in
      let of_front : IsPointOf s front c = record { shape_is = shape; within = omega (arith, size, low); stands = subst (λ (l : List EntryKind). PointStands l c) (sym same) of.stands } in
      let all_of : length front - length front % s.group ≡ length front = omega (arith, is) in
      let all : whole_front s front ≡ front = ap (λ (k : ℕ). take k front) all_of ∙ take-length front in
      subst (λ (l : List EntryKind). Stands l (restarted_roll s front (Some c))) all ((restart_stands laws s front (Some c) good lawful_front (shape, valid) (omega (arith, size, low))).stands of_front)

  -- what a roller that stands for the first groups of a log tells of the log
  abbrev from_roll : List EntryKind → ℕ → Roll → Type 0
  from_roll log n r = (rows_after s log n ≡ r.rolled.tree) × (drop c.position (verdicts_after s log n) ≡ r.rolled.verdicts)

  told_by_roll : (log : List EntryKind) (n : ℕ) (r : Roll) → r.shape ≡ s → r.from ≡ c.position → s.group * n ≤ length log → Stands (take (s.group * n) log) r → (rows_after s log n ≡ r.rolled.tree) × (drop c.position (verdicts_after s log n) ≡ r.rolled.verdicts)
  told_by_roll log n r is_s from within stands =
      let front : List EntryKind = take (s.group * n) log in
      let size : length front ≡ s.group * n = length-take-le (s.group * n) log within in
      let same : AreSame s log front n = front_same s log n within in
      let upto : s.group * n ≡ s.group * r.rolled.groups = sym size ∙ (stands.whole ∙ ap (λ (t : Shape). t.group * r.rolled.groups) is_s) in
      let groups : r.rolled.groups ≡ n = omega (arith, le_of_mul-le-mul_left {m = r.rolled.groups} {n = n} {k = s.group} (omega (arith, upto)) good.group.at_least, le_of_mul-le-mul_left {m = n} {n = r.rolled.groups} {k = s.group} (omega (arith, upto)) good.group.at_least) in (
        same.rows ∙ sym (stands.tree_is ∙ (λ i. rows_after (is_s i) front (groups i))),
        ap (drop c.position) same.verdicts ∙ sym (stands.verdicts_are ∙ (λ i. drop (from i) (verdicts_after (is_s i) front (groups i)))),
      )

  late : RollerLaws → (log other : List EntryKind) (n : ℕ) → IsLawful s log → IsLawful s other → IsPointOf s log c → IsPointOf s other c → AgreePast c.base log other → c.position / s.group ≤ n → s.group * n ≤ length log → DecideAlike s c log other n
  late laws log other n lawful lawful' of of' agree high within =
      let up : s.group * at ≤ s.group * n = mul-le-mul_left s.group high in
      let low : c.position ≤ s.group * n = omega (arith, there, up) in
      let within' : s.group * n ≤ length other = omega (arith, within, agree.size) in
      let front : List EntryKind = take (s.group * n) log in
      let front' : List EntryKind = take (s.group * n) other in
      let size : length front ≡ s.group * n = length-take-le (s.group * n) log within in
      let size' : length front' ≡ s.group * n = length-take-le (s.group * n) other within' in
      let base_low : c.base ≤ c.position = omega (arith, valid.flag_each) in
      let agree_front : AgreePast c.base front front' = record { same = same_part c.base (s.group * n) log other (omega (arith, base_low, low)) agree; size = size ∙ sym size' } in
      let fits : c.position ≤ whole_groups s (length front) = whole_below s.group c.position (length front) good.group.at_least whole (omega (arith, size, low)) in
      let one : restarted_roll s front (Some c) ≡ restarted_roll s front' (Some c) = same_roll s c front front' base_low fits agree_front in
      let r : Roll = restarted_roll s front (Some c) in
      let told = told_by_roll log n r refl refl within (rolled_stands laws log n lawful of low within) in
      let told' = told_by_roll other n r refl refl within' (subst (λ (q : Roll). Stands front' q) (sym one) (rolled_stands laws other n lawful' of' low within')) in
      let verdicts_same : drop c.position (verdicts_after s log n) ≡ drop c.position (verdicts_after s other n) = told.1 ∙ sym told'.1 in
      record {
        rows = told.0 ∙ sym told'.0;
        commits = commits_late log n of high within ∙ (ap (λ (vs : List (Option Verdict)). c.flags ++ map is_commit vs) verdicts_same ∙ sym (commits_late other n of' high within'));
        verdicts = verdicts_same;
      }

  pub decide_alike : RollerLaws → (log other : List EntryKind) (n : ℕ) → IsLawful s log → IsLawful s other → IsPointOf s log c → IsPointOf s other c → AgreePast c.base log other → c.base ≤ s.group * n → s.group * n ≤ length log → DecideAlike s c log other n
  decide_alike laws log other n lawful lawful' of of' agree low within =
      let over : s.group * base_groups s at ≤ s.group * n = omega (arith, base_there, low) in
      let m_low : base_groups s at ≤ n = le_of_mul-le-mul_left {k = s.group} over good.group.at_least in
      elim (cases_lt at n) [
        | inl past ↦ late laws log other n lawful lawful' of of' agree (omega (arith, past)) within
        | inr up_to ↦ early log other n of of' agree m_low up_to within
      ]
