use Rattle.std.proofs.Common.{◌≡◌, take}
use Rattle.std.specs.Prelude.{count_by}
use Rattle.hy_formats.specs.Texts.{is_filler}
use Rattle.hy_text.proofs.summary.fillers.Given as goal

abbrev pub invariant-loop-entry : goal.invariant-loop-entry
invariant-loop-entry l = l.count ≡ count_by is_filler (take l.entry-index l.entries)
