use Rattle.std.proofs.Common.{◌≡◌, ◌++◌, List, [], ◌+◌, length}
use Rattle.std.specs.Option.{option_map_or}
use Rattle.hy_base.specs.Spelling.{Text}
use Rattle.hy_script.specs.Lines.{pieces_of}
use Rattle.hy_script.specs.Fields.{HasFields}
use Rattle.hy_script.proofs.words.fields_of.Given as goal

-- the fields so far, and what is still to be cut
abbrev pub invariant-loop-rest : goal.invariant-loop-rest
invariant-loop-rest l = (words : List Text) × HasFields l.fields words
    × (option_map_or (λ bytes. pieces_of 32 bytes.now) l.fn.rest [] ≡ words ++ option_map_or (λ bytes. pieces_of 32 bytes.now) l.rest [])

abbrev pub decreases-loop-rest : goal.decreases-loop-rest
decreases-loop-rest l = option_map_or (λ bytes. 1 + length bytes.now) l.rest 0
