use Rattle.std.proofs.Common.{◌≡◌, ◌++◌, drop}
use Rattle.std.specs.Prelude.{flat_map}
use Rattle.hy_formats.specs.Texts.{answer_text}
use Rattle.hy_text.proofs.texts.put_answers.Given as goal

-- what was written so far, and what is left
abbrev pub invariant-loop-answer : goal.invariant-loop-answer
invariant-loop-answer l = l.out.items ++ flat_map answer_text (drop l.answer-index l.answers) ≡ l.initial.out.items ++ flat_map answer_text l.answers
