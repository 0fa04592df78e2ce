use Rattle.std.proofs.Common.{◌≡◌, ◌++◌, map, string_bytes}
use Rattle.std.specs.Vec.Iter.{into_iter_items}
use Rattle.hyder.proofs.words_from.Given as goal

-- the words so far, and the arguments that are left
abbrev pub invariant-loop-arg : goal.invariant-loop-arg
invariant-loop-arg l = l.words ++ map string_bytes (into_iter_items l.arg-iterator) ≡ map string_bytes (into_iter_items l.initial.arg-iterator)
