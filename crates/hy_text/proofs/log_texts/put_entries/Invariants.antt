use Rattle.std.proofs.Common.{◌≡◌, ◌+◌, ◌++◌, drop}
use Rattle.std.specs.Prelude.{flat_map}
use Rattle.std.specs.List.{enumerate_from}
use Rattle.hy_formats.specs.Texts.{entry_text}
use Rattle.hy_text.proofs.log_texts.put_entries.Given as goal

-- what was written so far, and what is left
abbrev pub invariant-loop-at : goal.invariant-loop-at
invariant-loop-at l = l.out.items ++ flat_map (entry_text l.version) (enumerate_from (l.at + (l.from + 1)) (drop l.at l.entries)) ≡ l.initial.out.items ++ flat_map (entry_text l.version) (enumerate_from (l.from + 1) l.entries)
