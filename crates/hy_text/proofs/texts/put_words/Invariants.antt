use Rattle.std.proofs.Common.{◌≡◌, ◌++◌, drop}
use Rattle.std.specs.Prelude.{map}
use Rattle.hy_text.specs.LineWords.{spaced, word_text}
use Rattle.hy_text.proofs.texts.put_words.Given as goal

-- what was written so far, and the words that are left
abbrev pub invariant-loop-word : goal.invariant-loop-word
invariant-loop-word l = l.out.items ++ spaced (map word_text (drop l.word-index l.words)) ≡ l.initial.out.items ++ spaced (map word_text l.words)
