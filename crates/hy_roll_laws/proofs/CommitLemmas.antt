-- Commits past a base, as flags.
use Rattle.hy_base.specs.declared.record.Row.{Row}
use Rattle.std.proofs.Common.{◌<◌, ◌≡◌, ℕ, ◌+◌, ◌-◌, ◌*◌, ◌≤◌, List, ◌++◌, length, take, drop, map, Option, sym, ap, ◌∙◌, arith, length-drop}
use Rattle.std.proofs.Math.Nat.{mul-le-mul_left}
use Rattle.std.proofs.Math.Seq.{take-append_seam}
use Rattle.std.proofs.lemmas.List.{drop-drop, drop-append-le, drop-map, take-map, map-append}
use Rattle.hy_base.specs.declared.layout.Shape.{Shape}
use Rattle.hy_base.specs.declared.record.EntryKind.{EntryKind}
use Rattle.hy_base.specs.declared.record.Verdict.{Verdict}
use Rattle.hy_base.specs.Shape.{base_groups, kept_groups, line_after}
use Rattle.hy_base.specs.Rows.{applied, newest, purged}
use Rattle.hy_base.proofs.ShapeLemmas.{kept_before}
use Rattle.hy_base.proofs.RowLemmas.{newest-append, ordered_newest}
use Rattle.hy_base.proofs.PurgeLemmas.{purged_applied}
use Rattle.hy_rules.specs.History.{flagged_history, history_from, commits_past}
use Rattle.hy_base.specs.Verdicts.{is_commit}
use Rattle.hy_rules.specs.Validation.{verdicts_after, history_after, rows_after}
use Rattle.hy_roll_laws.specs.RollingLaws.{CommitsMoveOn, CommitsGiveRows}
use Rattle.hy_roll_laws.proofs.Windows.{base_low, kept_low, base_rises, line_rises, kept_line}
use Rattle.hy_rules.proofs.Growth.{Follow, verdicts_follow, verdict_count, history_more}

pub commits_move_on : CommitsMoveOn
commits_move_on s n vs ws good count =
    let b : ℕ = s.group * base_groups s n in
    let b' : ℕ = s.group * base_groups s (n + 1) in
    let within : b ≤ length vs = omega (arith, base_low s n, count) in
    let order : b + (b' - b) ≡ b' = omega (arith, base_rises s n good.window.at_least) in
    ap (λ k. map is_commit (drop k (vs ++ ws))) (sym order)
    ∙ (ap (map is_commit) (sym (drop-drop (b' - b) b (vs ++ ws)) ∙ ap (drop (b' - b)) (drop-append-le b vs ws within))
    ∙ (sym (drop-map is_commit (b' - b) (drop b vs ++ ws)) ∙ ap (drop (b' - b)) (map-append is_commit (drop b vs) ws)))

-- of the commits past a base, those up to the end of earlier groups: what the rows that a roller keeps are made of, where it is resumed
pub commits_cut : (s : Shape) (log : List EntryKind) (m k n : ℕ) → m ≤ k → k ≤ n → s.group * n ≤ length log
    → commits_past (s.group * m) (verdicts_after s log k) ≡ take (s.group * k - s.group * m) (commits_past (s.group * m) (verdicts_after s log n))
commits_cut s log m k n low high within =
    let pos : ℕ = s.group * m in
    let f : Follow (verdicts_after s log k) (verdicts_after s log n) = verdicts_follow s log k n high in
    let below : s.group * m ≤ s.group * k = mul-le-mul_left s.group low in
    let above : s.group * k ≤ s.group * n = mul-le-mul_left s.group high in
    let vs : List (Option Verdict) = verdicts_after s log k in
    let count : length vs ≡ s.group * k = verdict_count s log k (omega (arith, above, within)) in
    let size : length (drop pos vs) ≡ s.group * k - pos = omega (arith, length-drop pos vs, count) in
    let rest : drop pos (verdicts_after s log n) ≡ drop pos vs ++ f.more = ap (drop pos) f.is ∙ drop-append-le pos vs f.more (omega (arith, count, below)) in
    ap (map is_commit) (sym (take-append_seam (drop pos vs) f.more) ∙ (λ j. take (size j) (sym rest j))) ∙ sym (take-map is_commit (s.group * k - pos) (drop pos (verdicts_after s log n)))

pub commits_give_rows : CommitsGiveRows
commits_give_rows s log m n some le within =
    let pos : ℕ = s.group * m in
    let more : List Row = history_from (pos + 1) (drop pos log) (drop pos (verdicts_after s log n)) in
    purged_applied (line_after s m) (line_after s n) (newest (history_after s log m)) more (ordered_newest (history_after s log m)) (line_rises s m n some le)
    ∙ ap (purged (line_after s n)) (sym (ap newest (history_more s log m n le within) ∙ newest-append (history_after s log m) more))

-- the rows that a roller keeps, from its base rows: for a roller that is resumed
pub commits_give_kept : (s : Shape) (log : List EntryKind) (n : ℕ) → 0 < s.window → s.group * n ≤ length log
    → let base = s.group * base_groups s n in
    purged (line_after s n) (applied (rows_after s log (base_groups s n)) (flagged_history (base + 1) (drop base log) (take (s.group * kept_groups s n - base) (commits_past base (verdicts_after s log n))))) ≡ rows_after s log (kept_groups s n)
commits_give_kept s log n some within =
    let base : ℕ = s.group * base_groups s n in
    let order : base_groups s n ≤ kept_groups s n = mul-le-mul_left s.window (omega arith) in
    (λ j. purged (sym (kept_line s n some) j) (applied (rows_after s log (base_groups s n)) (flagged_history (base + 1) (drop base log) (sym (commits_cut s log (base_groups s n) (kept_groups s n) n order (kept_before s n) within) j))))
    ∙ commits_give_rows s log (base_groups s n) (kept_groups s n) some order (omega (arith, kept_low s n, within))
