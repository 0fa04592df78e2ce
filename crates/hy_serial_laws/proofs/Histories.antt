-- The map that the recorded writes of the committed entries leave, position by position.
use Rattle.std.proofs.Common.{◌≡◌, ◌∙◌, ℕ, zero, suc, ◌+◌, ◌*◌, ◌/◌, ◌%◌, ◌<◌, ◌≤◌, Bool, false, List, [], ◌∷◌, ◌++◌, length, take, drop, map, sym, ap, subst, arith, append_assoc, length-take}
use Rattle.std.proofs.lemmas.List.{append-nil, take-append-drop, take-take}
use Rattle.std.proofs.lemmas.Nat.{le-div}
use Rattle.std.proofs.Math.Nat.{div-add-mod, mul_comm}
use Rattle.std.proofs.Math.Seq.{take-append_seam}
use Rattle.std.specs.Prelude.{Option, Some, slice_get}
use Rattle.std.specs.List.{AllByRecursion}
use Rattle.hy_base.specs.declared.layout.Shape.{Shape}
use Rattle.hy_base.specs.declared.record.EntryKind.{EntryKind}
use Rattle.hy_base.specs.declared.record.Intention.{Intention}
use Rattle.hy_base.specs.declared.record.Row.{Row}
use Rattle.hy_base.specs.declared.record.Verdict.{Verdict}
use Rattle.hy_base.specs.declared.report.Pair.{Pair}
use Rattle.hy_base.specs.Entry.{touches}
use Rattle.hy_base.specs.Rows.{Each, newest}
use Rattle.hy_base.proofs.EachLemmas.{Each-left, Each-right, Each-both, Each-map}
use Rattle.hy_base.proofs.RowLemmas.{newest-append, ordered_newest}
use Rattle.hy_rules.specs.Exec.{after_writes}
use Rattle.hy_rules.specs.History.{committed_at, history, history_from, pairs_of}
use Rattle.hy_base.specs.Verdicts.{is_commit}
use Rattle.hy_rules.specs.RuleLaws.{NothingWrittenSince}
use Rattle.hy_rules.specs.Validation.{verdicts_after, verdicts, live}
use Rattle.hy_rules.proofs.Groups.{history_from-append}
use Rattle.hy_rules.proofs.Growth.{Follow, verdicts_follow, verdict_count}
use Rattle.hy_rules.proofs.Serial.{history_from_low, history_from_high}
use Rattle.hy_serial_laws.proofs.Pairs.{PairsRise, kept, writes_out}
use Rattle.hy_base.specs.Shape.{line_after}
use Rattle.hy_rules.proofs.Purged.{pairs_purged}
use Rattle.hy_serial_laws.proofs.Maps.{write_of, pairs_rise, pairs_applied}

-- what the first n entries committed, by these verdicts, and the map that this leaves
abbrev pub first_history : List EntryKind → List (Option Verdict) → ℕ → List Row
first_history log vs n = history log (take n vs)

abbrev pub first_map : List EntryKind → List (Option Verdict) → ℕ → List Pair
first_map log vs n = pairs_of (newest (first_history log vs n))

pub first_map_rises : (log : List EntryKind) (vs : List (Option Verdict)) (n : ℕ) → PairsRise (first_map log vs n)
first_map_rises log vs n = pairs_rise (newest (first_history log vs n)) (ordered_newest (first_history log vs n))

-- ---- one more entry

one_more : (pos n : ℕ) (log : List EntryKind) (vs : List (Option Verdict)) (e : EntryKind) (v : Option Verdict) → slice_get log n ≡ Some e → slice_get vs n ≡ Some v
    → history_from pos log (take (suc n) vs) ≡ history_from pos log (take n vs) ++ committed_at (pos + n) e (is_commit v)
one_more pos n [] vs e v p q = absurd (cc)
one_more pos n (x ∷ log) [] e v p q = absurd (cc)
one_more pos zero (x ∷ log) (w ∷ vs) e v p q =
    let entry : x ≡ e = cc in
    let verdict : w ≡ v = cc in
    let at : pos ≡ pos + 0 = omega arith in
    append-nil (committed_at pos x (is_commit w)) ∙ (λ i. committed_at (at i) (entry i) (is_commit (verdict i)))
one_more pos (suc n) (x ∷ log) (w ∷ vs) e v p q =
    let at : pos + 1 + n ≡ pos + suc n = omega arith in
    ap (λ rows. committed_at pos x (is_commit w) ++ rows) (one_more (pos + 1) n log vs e v p q ∙ (λ i. history_from (pos + 1) log (take n vs) ++ committed_at (at i) e (is_commit v)))
    ∙ sym (append_assoc (committed_at pos x (is_commit w)) (history_from (pos + 1) log (take n vs)) (committed_at (pos + suc n) e (is_commit v)))

-- further rows, written to the map
pub map_more : (rows more : List Row) → pairs_of (newest (rows ++ more)) ≡ after_writes (pairs_of (newest rows)) (map write_of more)
map_more rows more = ap pairs_of (newest-append rows more) ∙ pairs_applied (newest rows) more (ordered_newest rows)

pub next_map : (log : List EntryKind) (vs : List (Option Verdict)) (n : ℕ) (e : EntryKind) (v : Option Verdict) → slice_get log n ≡ Some e → slice_get vs n ≡ Some v
    → first_map log vs (suc n) ≡ after_writes (first_map log vs n) (map write_of (committed_at (suc n) e (is_commit v)))
next_map log vs n e v p q =
    let at : 1 + n ≡ suc n = omega arith in
    ap (λ rows. pairs_of (newest rows)) (one_more 1 n log vs e v p q ∙ (λ i. first_history log vs n ++ committed_at (at i) e (is_commit v)))
    ∙ map_more (first_history log vs n) (committed_at (suc n) e (is_commit v))

-- ---- whole groups

-- the verdicts of the first whole groups are the first verdicts of the whole log
pub first_verdicts : (s : Shape) (log : List EntryKind) (pos : ℕ) → 1 ≤ s.group → length log % s.group ≡ 0 → pos % s.group ≡ 0 → pos ≤ length log
    → take pos (verdicts s log (length log)) ≡ verdicts s log pos
first_verdicts s log pos some all whole within =
    let m : ℕ = pos / s.group in
    let n : ℕ = length log / s.group in
    let at_pos : s.group * m + pos % s.group ≡ pos = div-add-mod pos s.group in
    let at_end : s.group * n + length log % s.group ≡ length log = div-add-mod (length log) s.group in
    let turned : m * s.group ≡ s.group * m = mul_comm m s.group in
    let order : m ≤ n = le-div m (length log) s.group (omega (arith, some)) (omega (arith, turned, at_pos, whole, within)) in
    let f : Follow (verdicts_after s log m) (verdicts_after s log n) = verdicts_follow s log m n order in
    let count : length (verdicts_after s log m) ≡ pos = verdict_count s log m (omega (arith, at_pos, whole, within)) ∙ omega (arith, at_pos, whole) in
    ap (take pos) f.is ∙ (ap (λ k. take k (verdicts_after s log m ++ f.more)) (sym count) ∙ take-append_seam (verdicts_after s log m) f.more)

pub live_is_first : (s : Shape) (log : List EntryKind) (pos : ℕ) → 1 ≤ s.group → length log % s.group ≡ 0 → pos % s.group ≡ 0 → pos ≤ length log
    → first_map log (verdicts s log (length log)) pos ≡ live s log pos
live_is_first s log pos some all whole within =
    ap (λ vs. pairs_of (newest (history log vs))) (first_verdicts s log pos some all whole within)
    ∙ sym (pairs_purged (line_after s (pos / s.group)) (newest (history log (verdicts_after s log (pos / s.group)))))

pub all_judged : (s : Shape) (log : List EntryKind) → length log % s.group ≡ 0 → length (verdicts s log (length log)) ≡ length log
all_judged s log all =
    let n : ℕ = length log / s.group in
    let at_end : s.group * n + length log % s.group ≡ length log = div-add-mod (length log) s.group in
    verdict_count s log n (omega (arith, at_end)) ∙ omega (arith, at_end, all)

-- ---- what a committed entry touches

-- what was committed past the first entries, up to some more of them
record Middle (log : List EntryKind) (vs : List (Option Verdict)) (k n : ℕ) : Type 0 where
  rows : List Row
  is : first_history log vs n ≡ first_history log vs k ++ rows
  low : Each (λ r. k + 1 ≤ r.writer) rows

middle : (log : List EntryKind) (vs : List (Option Verdict)) (k n : ℕ) → k ≤ n → n ≤ length vs → length vs ≤ length log → Middle log vs k n
middle log vs k n le within fits =
    let front : take k (take n vs) ≡ take k vs = take-take k n vs le in
    let split : take n vs ≡ take k vs ++ drop k (take n vs) = sym (take-append-drop k (take n vs)) ∙ ap (λ us. us ++ drop k (take n vs)) front in
    let count : length (take k vs) ≡ k = omega (arith, length-take k vs, le, within) in
    let back : List EntryKind = drop (length (take k vs)) log in
    record {
      rows = history_from (k + 1) back (drop k (take n vs));
      is = ap (history log) split ∙ history_from-append 1 log (take k vs) (drop k (take n vs)) (k + 1) (omega (arith, count, le, within, fits)) (omega (arith, count));
      low = history_from_low (k + 1) back (drop k (take n vs));
    }

first_high : (log : List EntryKind) (vs : List (Option Verdict)) (n : ℕ) → Each (λ r. r.writer < suc n) (first_history log vs n)
first_high log vs n = Each-map (λ r. r.writer < 1 + length (take n vs)) _ (λ r h. omega (arith, h, length-take n vs)) (first_history log vs n) (history_from_high 1 log (take n vs))

kept_out : (q : ℕ → Bool) (rows : List Row) → Each (λ r. q r.key ≡ false) rows → AllByRecursion (λ w. q w.key ≡ false) (map write_of rows)
kept_out q [] a = tt
kept_out q (r ∷ rows) a = (a.0, kept_out q rows a.1)

-- the map right before a committed entry is as its snapshot at each key that it touches
pub same_as_snapshot : (log : List EntryKind) (vs : List (Option Verdict)) (n : ℕ) (i : Intention) → length vs ≤ length log → n ≤ length vs → i.snap ≤ n → NothingWrittenSince (history log vs) (suc n) i
    → kept (touches i) (first_map log vs i.snap) ≡ kept (touches i) (first_map log vs n)
same_as_snapshot log vs n i fits within le unwritten =
    let k : ℕ = i.snap in
    let m : Middle log vs k n = middle log vs k n le within fits in
    let count : length (take n vs) ≡ n = omega (arith, length-take n vs, within) in
    let all : history log vs ≡ first_history log vs n ++ history_from (n + 1) (drop (length (take n vs)) log) (drop n vs) =
    ap (history log) (sym (take-append-drop n vs)) ∙ history_from-append 1 log (take n vs) (drop n vs) (n + 1) (omega (arith, count, within, fits)) (omega (arith, count)) in
    let IsUntouched : Row → Type 0 = λ r. i.snap < r.writer → r.writer < suc n → touches i r.key ≡ false in
    let seen : Each IsUntouched (first_history log vs n) = Each-left IsUntouched (first_history log vs n) _ (subst (Each IsUntouched) all unwritten) in
    let clean : Each (λ r. i.snap < r.writer → touches i r.key ≡ false) (first_history log vs n) =
    Each-both IsUntouched (λ r. r.writer < suc n) (λ r. i.snap < r.writer → touches i r.key ≡ false) (λ r h high past. h past high) (first_history log vs n) seen (first_high log vs n) in
    let late : Each (λ r. i.snap < r.writer → touches i r.key ≡ false) m.rows = Each-right (λ r. i.snap < r.writer → touches i r.key ≡ false) (first_history log vs k) m.rows (subst (Each (λ r. i.snap < r.writer → touches i r.key ≡ false)) m.is clean) in
    let out : Each (λ r. touches i r.key ≡ false) m.rows =
    Each-both (λ r. i.snap < r.writer → touches i r.key ≡ false) (λ r. k + 1 ≤ r.writer) (λ r. touches i r.key ≡ false) (λ r h low. h (omega (arith, low))) m.rows late m.low in
    sym (ap (λ rows. kept (touches i) (pairs_of (newest rows))) m.is
    ∙ (ap (kept (touches i)) (map_more (first_history log vs k) m.rows) ∙ writes_out (touches i) (map write_of m.rows) (first_map log vs k) (kept_out (touches i) m.rows out)))
