use Rattle.std.proofs.Common.{◌≡◌, ◌+◌, ◌++◌, ◌∷◌, [], ◌∙◌, List, ap, sym, take}
use Rattle.std.proofs.lemmas.List.{take_more}
use Rattle.hy_base.specs.declared.record.Write.{Write}
use Rattle.hy_base.specs.Rows.{newest, rows_at}
use Rattle.hy_mark.proofs.Writing.{newest_more}
use Rattle.hy_mark.proofs.marks.rows_of.Goals as goal

pub loop-write-preserved : goal.loop-write-preserved
loop-write-preserved c =
    let before = take c.loop-write.write-index c.args.writes.now in
    let item = take_more c.args.writes.now c.loop-write.write-index c.write-item.result c.loop-write-test.true in
    let more : take (c.loop-write.write-index + 1) c.args.writes.now ≡ before ++ c.write-item.result ∷ [] = item ∙ ap (λ (w : Write). before ++ w ∷ []) (sym c.write-item.is) in
    c.in_ok-add.ensures.ok
    ∙ rw (c.in_ok-row.ensures, c.loop-write.invariant) (sym (ap (λ (ws : List Write). newest (rows_at c.args.pos ws)) more ∙ newest_more c.args.pos before c.write-item.result))
