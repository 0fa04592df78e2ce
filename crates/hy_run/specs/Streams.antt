-- What is made of a log's stream that a source gives.
use Rattle.std.specs.Prelude.{◌≡◌, List, length, Option, Result, Ok, Err, nat_lt, if◌then◌else◌}
use Rattle.hy_base.specs.declared.layout.Shape.{Shape}
use Rattle.hy_base.specs.declared.record.EntryKind.{EntryKind}
use Rattle.hy_base.specs.Spelling.{Text}
use Rattle.hy_formats.specs.StreamFormat.{streamed}
use Rattle.hy_formats.specs.declared.damage.BadFrame.{BadFrame}
use Rattle.hy_rules.specs.Recovery.{verdicts_text}
use Rattle.hy_run.specs.Output.{AreOf, longest_source, too_long}

-- what a source tells as a stream: too long a one is refused behind its last byte
abbrev pub read_stream : Text → Result (Option Shape × List EntryKind) BadFrame
read_stream bytes = if nat_lt longest_source (length bytes) then Err too_long else streamed bytes

-- The text tells what became of the entries of the stream that a source gives, and the rows that they leave.
pub record IsFollowed (told : Option Text) (text : Text) : Type 0 where
  pub bytes : Text
  pub are_of : AreOf told bytes
  pub shape : Option Shape
  pub entries : List EntryKind
  pub whole : read_stream bytes ≡ Ok (shape, entries)
  pub text_is : text ≡ verdicts_text shape entries

-- the stream that a source gives is refused at this place, for this cause
pub record IsStreamRefused (told : Option Text) (bad : BadFrame) : Type 0 where
  pub bytes : Text
  pub are_of : AreOf told bytes
  pub is : read_stream bytes ≡ Err bad
