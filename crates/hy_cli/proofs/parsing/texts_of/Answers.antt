use Rattle.std.proofs.Common.{◌∙◌, ap, subst, ◌<◌, ℕ, map}
use Rattle.hy_cli.proofs.Texts.{not_past, one_more}
use Rattle.hy_cli.proofs.parsing.texts_of.Goals.{in-Some+in_ok-push, in_default}
use Rattle.hy_cli.proofs.parsing.texts_of.Goals as goal

pub loop-at-preserved : goal.loop-at-preserved
loop-at-preserved c = elim c.match-word.branch [
  | in-Some+in_ok-push w ↦
      ap (λ t. map (λ t. t.now) t.items) w.texts-is ∙ ap (map (λ t. t.now)) w.in_ok-push.ensures.items
      ∙ one_more (λ t. t.now) c.loop-at.texts.items w.in-Some.word c.args.words.now c.loop-at.at c.loop-at.invariant w.in-Some.ensures
  | in_default w ↦ absurd (not_past c.args.words.now c.loop-at.at (subst (λ (n : ℕ). c.loop-at.at < n) c.len-at-end.ensures c.loop-at-test.true) w.in_default.ensures)
]
