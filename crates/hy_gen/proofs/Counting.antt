-- In a log that counts, the live rows of the counted keys are numbers.
use Rattle.std.proofs.Common.{◌≡◌, ℕ, ◌+◌, ◌/◌, ◌<◌, ◌≤◌, Bool, true, false, List, [], ◌∷◌, map, refl, subst, arith, inl, inr, Option, Some, None}
use Rattle.std.proofs.lemmas.Bool.{cases_eq, eq-eqb, ne_eqb}
use Rattle.std.specs.Prelude.{decimal}
use Rattle.std.specs.List.{AllByRecursion}
use Rattle.hy_base.specs.declared.layout.Shape.{Shape}
use Rattle.hy_base.specs.declared.record.EntryKind.{EntryKind}
use Rattle.hy_base.specs.declared.record.EntryKind.TheVariants.{Filler, Txn}
use Rattle.hy_base.specs.declared.record.Row.{Row}
use Rattle.hy_base.specs.declared.record.Write.{Write}
use Rattle.hy_base.specs.Rows.{Each, newest, rows_at}
use Rattle.hy_base.specs.Shape.{line_after}
use Rattle.hy_base.proofs.EachLemmas.{Each-append}
use Rattle.hy_base.proofs.PurgeLemmas.{Each-purged}
use Rattle.hy_base.proofs.RowLemmas.{Each-newest}
use Rattle.hy_rules.specs.History.{committed_at, flagged_history, pairs_of, writes_at}
use Rattle.hy_base.specs.Verdicts.{is_commit}
use Rattle.hy_rules.specs.Exec.{value_in}
use Rattle.hy_rules.specs.Validation.{live, rows, verdicts_after}
use Rattle.hy_gen.specs.LoadLaws.{CountsUpTo, EntryCounts}

-- a value, where there is one, is the spelling of a number up to a bound
abbrev pub IsCountUpTo : ℕ → Option (List ℕ) → Type 0
IsCountUpTo bound None = Unit {0}
IsCountUpTo bound (Some v) = (n : ℕ) × (n ≤ bound) × (v ≡ decimal n)

abbrev pub RowCounts : ℕ → Row → Type 0
RowCounts bound r = r.key < 500 → IsCountUpTo bound r.value

row_of : (bound : ℕ) (v : Option (List ℕ)) → (n : ℕ) × (n ≤ bound) × (v ≡ Some (decimal n)) → IsCountUpTo bound v
row_of bound None h = cc h.2
row_of bound (Some v) h = (h.0, h.1, cc h.2)

rows_count : (bound pos : ℕ) (ws : List Write) → AllByRecursion (CountsUpTo bound) ws → Each (RowCounts bound) (rows_at pos ws)
rows_count bound pos [] a = tt
rows_count bound pos (w ∷ ws) a = ((λ low. row_of bound w.value (a.0 low)), rows_count bound pos ws a.1)

writes_count : (bound pos : ℕ) (e : EntryKind) → EntryCounts bound e → Each (RowCounts bound) (writes_at pos e)
writes_count bound pos (Filler server) a = tt
writes_count bound pos (Txn i) a = rows_count bound pos i.writes a

committed_count : (bound pos : ℕ) (e : EntryKind) (flag : Bool) → EntryCounts bound e → Each (RowCounts bound) (committed_at pos e flag)
committed_count bound pos e true a = writes_count bound pos e a
committed_count bound pos e false a = tt

history_counts : (bound pos : ℕ) (log : List EntryKind) (flags : List Bool) → AllByRecursion (EntryCounts bound) log → Each (RowCounts bound) (flagged_history pos log flags)
history_counts bound pos log [] a = tt
history_counts bound pos [] (flag ∷ flags) a = tt
history_counts bound pos (e ∷ es) (flag ∷ flags) a =
    Each-append (RowCounts bound) (committed_at pos e flag) (flagged_history (pos + 1) es flags) (committed_count bound pos e flag a.0) (history_counts bound (pos + 1) es flags a.1)

-- the rows of any part of the log
pub rows_of_log : (bound : ℕ) (s : Shape) (log : List EntryKind) (pos : ℕ) → AllByRecursion (EntryCounts bound) log → Each (RowCounts bound) (rows s log pos)
rows_of_log bound s log pos a =
    let flags = map is_commit (verdicts_after s log (pos / s.group)) in
    Each-purged (RowCounts bound) (line_after s (pos / s.group)) (newest (flagged_history 1 log flags)) (Each-newest (RowCounts bound) (flagged_history 1 log flags) (history_counts bound 1 log flags a))

-- the value that is found at a counted key
found_next : (bound key : ℕ) (r : Row) (rs : List Row) → key < 500 → RowCounts bound r → (v : Option (List ℕ)) → r.value ≡ v → IsCountUpTo bound (value_in (pairs_of rs) key)
    → IsCountUpTo bound (value_in (pairs_of (r ∷ rs)) key)
found_next bound key r rs low a None is rest = rw is rest
found_next bound key r rs low a (Some v) is rest =
    rw is (elim (cases_eq r.key key) [
      | inl same ↦ rw (eq-eqb r.key key same) (subst (IsCountUpTo bound) is (a (omega (arith, same, low))))
      | inr other ↦ rw (ne_eqb r.key key other) rest
    ])

found : (bound key : ℕ) (rs : List Row) → key < 500 → Each (RowCounts bound) rs → IsCountUpTo bound (value_in (pairs_of rs) key)
found bound key [] low a = tt
found bound key (r ∷ rs) low a = found_next bound key r rs low a.0 r.value refl (found bound key rs low a.1)

pub live_counts : (bound : ℕ) (s : Shape) (log : List EntryKind) (pos key : ℕ) → key < 500 → AllByRecursion (EntryCounts bound) log → IsCountUpTo bound (value_in (live s log pos) key)
live_counts bound s log pos key low a = found bound key (rows s log pos) low (rows_of_log bound s log pos a)
