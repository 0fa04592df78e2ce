use Rattle.std.proofs.Common.{◌≡◌, ◌+◌, ◌++◌, drop}
use Rattle.std.specs.Prelude.{flat_map}
use Rattle.std.specs.List.{enumerate_from}
use Rattle.hy_formats.specs.Texts.{client_text}
use Rattle.hy_text.proofs.texts.put_clients.Given as goal

-- what was written so far, and what is left
abbrev pub invariant-loop-at : goal.invariant-loop-at
invariant-loop-at l = l.out.items ++ flat_map client_text (enumerate_from (l.at + 1) (drop l.at l.clients)) ≡ l.initial.out.items ++ flat_map client_text (enumerate_from 1 l.clients)
