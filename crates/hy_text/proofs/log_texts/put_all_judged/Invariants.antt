use Rattle.std.proofs.Common.{◌≡◌, ◌+◌, ◌++◌, drop}
use Rattle.std.specs.Prelude.{flat_map}
use Rattle.std.specs.List.{enumerate_from}
use Rattle.hy_formats.specs.Texts.{judged_text}
use Rattle.hy_text.proofs.log_texts.put_all_judged.Given as goal

-- what was written so far, and what is left
abbrev pub invariant-loop-at : goal.invariant-loop-at
invariant-loop-at l = l.out.items ++ flat_map judged_text (enumerate_from (l.at + 1) (drop l.at l.verdicts)) ≡ l.initial.out.items ++ flat_map judged_text (enumerate_from 1 l.verdicts)
