use Rattle.std.proofs.Common.{◌≡◌, ◌++◌, drop}
use Rattle.std.specs.Prelude.{flat_map}
use Rattle.hy_formats.specs.Texts.{row_text}
use Rattle.hy_text.proofs.texts.put_rows.Given as goal

-- what was written so far, and what is left
abbrev pub invariant-loop-row : goal.invariant-loop-row
invariant-loop-row l = l.out.items ++ flat_map row_text (drop l.row-index l.rows) ≡ l.initial.out.items ++ flat_map row_text l.rows
