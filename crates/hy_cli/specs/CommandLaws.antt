-- What the words of a line ask for.
use Rattle.std.specs.Prelude.{◌≡◌, ◌⊎◌, List, Some}
use Rattle.hy_base.specs.Spelling.{Text}
use Rattle.hy_cli.specs.CommandLine.{line_of}
use Rattle.hy_cli.specs.Matches.{Asks, refuses}
use Rattle.hy_cli.specs.declared.commands.Line.{Line}

-- words that are a line ask for just that line
abbrev pub LineAsksForItself : Type 0
LineAsksForItself = (words : List Text) (line other : Line) → line_of words ≡ Some line → Asks words other → other ≡ line

-- and no words ask for two
abbrev pub WordsAskForOne : Type 0
WordsAskForOne = (words : List Text) (line other : Line) → Asks words line → Asks words other → other ≡ line

-- and words that clap doesn't refuse ask for one
abbrev pub WordsAskOrAreRefused : Type 0
WordsAskOrAreRefused = (words : List Text) → refuses words ⊎ ((line : Line) × Asks words line)
