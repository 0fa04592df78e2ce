-- The words of a line that is written.
use Rattle.std.specs.Prelude.{List, ◌∷◌, flat_map, decimal}
use Rattle.hy_base.specs.Spelling.{Text}
use Rattle.hy_text.specs.declared.texts.Word.{Word}
use Rattle.hy_text.specs.declared.texts.Word.TheVariants.{Plain, Number}

abbrev pub word_text : Word → Text
word_text (Plain word) = word.now
word_text (Number n) = decimal n

-- each word after a space
unfoldable pub spaced : List Text → Text
spaced words = flat_map (λ word. 32 ∷ word) words
