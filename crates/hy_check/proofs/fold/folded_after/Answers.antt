use Rattle.std.proofs.Common.{◌≡◌, ℕ, ◌+◌, ◌*◌, ◌-◌, ◌/◌, ◌≤◌, ◌∙◌, ◌++◌, List, length, take, drop, sym, ap, subst, arith, length-append, length-take, length-drop}
use Rattle.std.specs.Prelude.{slice_range}
use Rattle.hy_base.specs.declared.record.Row.{Row}
use Rattle.hy_base.specs.Shape.{base_groups, oldest_snap, line_after}
use Rattle.hy_base.specs.Rows.{Each, applied, newest, purged, up_to}
use Rattle.hy_base.proofs.RowLemmas.{newest-append}
use Rattle.hy_base.proofs.ShapeLemmas.{base_before}
use Rattle.hy_rules.specs.History.{history, history_from}
use Rattle.hy_rules.specs.Validation.{group_verdicts, verdicts_after, history_after, rows_after}
use Rattle.hy_rules.proofs.Groups.{next_group, history-group, times_more, whole_number, base_of_next, slice_taken}
use Rattle.hy_rules.proofs.Growth.{history_rise, up_to_earlier}
use Rattle.hy_rules.proofs.Serial.{history_is_before}
use Rattle.hy_check.proofs.Folding.{kept_next, base_next}
use Rattle.hy_check.proofs.fold.folded_after.Goals as goal

pub loop-upto-preserved : goal.loop-upto-preserved
loop-upto-preserved c =
    let s = c.args.shape in
    let log = c.args.entries.now in
    let g = c.args.shape.group in
    let upto = c.loop-upto.upto in
    let n = c.loop-upto.groups in
    let vs = c.loop-upto.verdicts.items in
    let ws = c.in_ok-judged.judged.items in
    let so_far = c.loop-upto.invariant in
    let more = c.in_ok-add_group.ensures in
    let viewed = c.deref.ensures.value in
    let base = c.base-base.ensures ∙ base_of_next s n in
    let within : upto + g ≤ length log = omega (arith, c.loop-upto-test.true) in
    let committed : List Row = history_after s log n in
    let by_verdicts : history log vs ≡ committed = ap (history log) so_far.verdicts in
    let fits : g * n ≤ length log = omega (arith, so_far.place, so_far.within) in
    let low : Each (λ r. r.writer ≤ upto) committed = subst (λ p. Each (λ r. r.writer ≤ p) committed) (sym so_far.place) (history_is_before s log n) in
    let at_base : c.loop-upto.last.base ≡ newest (up_to c.base-base.result committed) =
    so_far.base ∙ ap newest (sym (ap (λ b. up_to b committed) base ∙ up_to_earlier s log (base_groups s n) n (base_before s n) fits)) in
    let part : slice_range log upto (upto + g) ≡ take g (drop upto log) = slice_taken log upto g in
    let judged : ws ≡ group_verdicts (history log vs) (oldest_snap s n) (g * base_groups s n) upto (take g (drop upto log)) =
    c.in_ok-judged.ensures.verdicts committed (history_rise s log n) low at_base so_far.now
    ∙ (λ i. group_verdicts (sym by_verdicts i) (c.oldest_snap-oldest.ensures i) (base i) upto (part i)) in
    let size : length ws ≡ g = omega (arith, c.in_ok-judged.ensures.count, length-take (upto + g - upto) (drop upto log), length-drop upto log, within) in
    let added : c.add_group.new.verdicts.items ≡ vs ++ ws = more.verdicts ∙ ap (λ judged. vs ++ judged) viewed in
    let next : vs ++ ws ≡ verdicts_after s log (n + 1) = next_group s log n upto vs ws so_far.place so_far.verdicts judged in
    let new : List Row = history_from (upto + 1) (slice_range log upto (upto + g)) c.deref.result.now in
    let written : c.add_group.new.rows.items ≡ new = more.rows ∙ ap (λ l. l ++ new) c.new-rows.ensures.items in
    let all : committed ++ new ≡ history_after s log (n + 1) =
    (λ i. sym by_verdicts i ++ history_from (upto + 1) (part i) (viewed i))
    ∙ (sym (history-group log vs ws upto g so_far.count within (omega (arith, size))) ∙ ap (history log) next) in
    let rows : applied c.loop-upto.last.now c.add_group.new.rows.items ≡ newest (history_after s log (n + 1)) =
    (λ i. applied (so_far.now i) (written i)) ∙ (sym (newest-append committed new) ∙ ap newest all) in
    let rows_at : ℕ → List Row = λ k. newest (history_after s log k) in
    record {
      place = omega (arith, so_far.place, times_more g n);
      within = within;
      count = ap length added ∙ omega (arith, length-append vs ws, so_far.count, size);
      verdicts = added ∙ next;
      now = c.in_ok-last.ensures.now ∙ rows;
      kept = c.in_ok-last.ensures.kept ∙ kept_next s n c.requires.good.window.at_least rows_at _ c.loop-upto.last.kept rows so_far.kept;
      base = c.in_ok-last.ensures.base ∙ base_next s n c.requires.good.window.at_least rows_at c.loop-upto.last.kept c.loop-upto.last.base so_far.kept so_far.base;
    }

pub returns : goal.returns
returns c =
    let s = c.args.shape in
    let log = c.args.entries.now in
    let so_far = c.loop-upto.invariant in
    let whole : c.loop-upto.groups ≡ length log / c.args.shape.group =
    sym (whole_number c.args.shape.group c.loop-upto.groups c.loop-upto.upto (length log) so_far.place so_far.within (omega (arith, c.loop-upto-test.false))) in
    let verdicts : c.from_vec.result ≡ verdicts_after s log (length log / c.args.shape.group) = c.from_vec.ensures ∙ so_far.verdicts ∙ ap (verdicts_after s log) whole in
    let rows : c.from_vec-2.result ≡ rows_after s log (length log / c.args.shape.group) =
    c.from_vec-2.ensures ∙ c.in_ok-unpurged.ensures ∙ (λ i. purged ((c.line.ensures ∙ ap (line_after s) whole) i) ((so_far.now ∙ ap (λ k. newest (history_after s log k)) whole) i)) in
    (λ i. record { groups = whole i; verdicts = verdicts i; rows = rows i })
