use Rattle.std.proofs.Common.{◌+◌, sym, ap, ◌∙◌}
use Rattle.std.specs.Prelude.{count_by}
use Rattle.std.proofs.lemmas.List.{take_all}
use Rattle.std.proofs.lemmas.List.Sums.{count_by_more_yes, count_by_more_no}
use Rattle.hy_formats.specs.Texts.{is_filler}
use Rattle.hy_text.proofs.summary.fillers.Goals as goal
use Rattle.hy_text.proofs.summary.fillers.Goals.{then-is_filler, else-is_filler}

pub loop-entry-preserved : goal.loop-entry-preserved
loop-entry-preserved c =
    let entries = c.args.entries.now in
    let at = c.loop-entry.entry-index in
    let told = ap is_filler (sym c.entry-item.is ∙ sym c.get.ensures) ∙ sym c.is_filler.ensures in
    elim c.if-is_filler.branch [
      | then-is_filler w ↦ w.count-is ∙ ap (λ n. n + 1) c.loop-entry.invariant ∙ sym (count_by_more_yes is_filler entries at c.entry-item.result c.loop-entry-test.true (told ∙ w.if-is_filler.true))
      | else-is_filler w ↦ w.count-is ∙ c.loop-entry.invariant ∙ sym (count_by_more_no is_filler entries at c.entry-item.result c.loop-entry-test.true (told ∙ w.if-is_filler.false))
    ]

pub returns : goal.returns
returns c = c.loop-entry.invariant ∙ ap (count_by is_filler) (take_all c.loop-entry.entry-index c.args.entries.now c.loop-entry-test.false)
