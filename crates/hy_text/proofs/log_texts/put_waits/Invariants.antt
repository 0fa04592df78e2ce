use Rattle.std.proofs.Common.{◌≡◌, ◌-◌, ◌++◌}
use Rattle.hy_formats.specs.Texts.{waiting_text}
use Rattle.hy_text.proofs.log_texts.put_waits.Given as goal

-- what was written so far, and the positions that are left
abbrev pub invariant-loop-at : goal.invariant-loop-at
invariant-loop-at l = l.out.items ++ waiting_text l.at (l.count - l.at) ≡ l.initial.out.items ++ waiting_text l.judged (l.count - l.judged)
