-- What is checked in advance, on the rows at the base.
use Rattle.std.proofs.Common.{◌≡◌, ℕ, ◌≤◌, Bool, true, false, cond, List, [], ◌∷◌, Some, None, IfSome, refl, ap, ◌∙◌}
use Rattle.std.specs.Prelude.{◌&&◌, nat_le, nat_lt}
use Rattle.hy_base.specs.declared.record.Row.{Row}
use Rattle.hy_base.specs.declared.record.Intention.{Intention}
use Rattle.hy_base.specs.Entry.{touches}
use Rattle.hy_base.specs.Rows.{WritersRise, newest, up_to, purged}
use Rattle.hy_base.proofs.PurgeLemmas.{late_purged}
use Rattle.hy_base.specs.Marks.{dep, first_late, late, is_past, known_to}
use Rattle.hy_base.proofs.EachLemmas.{rise_filter}
use Rattle.hy_base.proofs.MarkLemmas.{same_late}
use Rattle.hy_rules.specs.History.{written_between}
use Rattle.hy_rules.specs.Validation.{first_clash, touched}
use Rattle.hy_roll_laws.specs.RollingLaws.{AdvanceIsPre}
use Rattle.hy_roll_laws.proofs.LastWriters.{by_last_writers}

pub past_known : (t : Bool) (pos writer : ℕ) → is_past (cond t (Some pos) None) writer ≡ (t && nat_lt pos writer)
past_known true pos writer = refl
past_known false pos writer = refl

-- the late rows up to a position are the touched ones among those between
pub late_is_touched : (i : Intention) (pos upto : ℕ) (rows : List Row) → late (known_to pos i) (up_to upto rows) ≡ touched i (written_between pos upto rows)
late_is_touched i pos upto [] = refl
late_is_touched i pos upto (r ∷ rows) = step (nat_le r.writer upto) (nat_lt pos r.writer) (touches i r.key) refl refl (late_is_touched i pos upto rows)
  where
    step : (l a t : Bool) → nat_lt pos r.writer ≡ a → touches i r.key ≡ t → late (known_to pos i) (up_to upto rows) ≡ touched i (written_between pos upto rows)
        → late (known_to pos i) (cond l (r ∷ up_to upto rows) (up_to upto rows)) ≡ touched i (cond (a && l) (r ∷ written_between pos upto rows) (written_between pos upto rows))
    step true true true e f rest = rw (past_known (touches i r.key) pos r.writer, e, f) (ap (λ l. r ∷ l) rest)
    step true true false e f rest = rw (past_known (touches i r.key) pos r.writer, e, f) rest
    step true false true e f rest = rw (past_known (touches i r.key) pos r.writer, e, f) rest
    step true false false e f rest = rw (past_known (touches i r.key) pos r.writer, e, f) rest
    step false true t e f rest = rest
    step false false t e f rest = rest

touched_past : (line pos : ℕ) (b : Bool) → line ≤ pos → IfSome (cond b (Some pos) None) (λ d. line ≤ d)
touched_past line pos true le = le
touched_past line pos false le = tt

-- tombstones that are left out matter to none that knows their line
pub advance_known : (committed : List Row) (line base pos : ℕ) (i : Intention) → WritersRise committed → line ≤ pos → first_late (known_to pos i) (purged line (newest (up_to base committed))) ≡ first_clash (touched i (written_between pos base committed))
advance_known committed line base pos i rise le =
    late_purged line (known_to pos i) (newest (up_to base committed)) (λ key. touched_past line pos (touches i key) le) ∙ by_last_writers (known_to pos i) (up_to base committed) (rise_filter _ committed rise) ∙ ap first_clash (late_is_touched i pos base committed)

pub advance_is_pre : AdvanceIsPre
advance_is_pre committed line base i m writes rise le are =
    same_late (dep m.pairs) (known_to i.snap i) are.deps (purged line (newest (up_to base committed))) ∙ advance_known committed line base i.snap i rise le
