use Rattle.std.specs.Io.KnownBytes.{Keeps}
use Rattle.hy_file.proofs.preallocated.read_some.Given as goal

-- the tries so far took nothing
abbrev pub invariant-loop : goal.invariant-loop
invariant-loop g l = Keeps (g.F.Read.remaining l.initial.file) (g.F.Read.remaining l.file)
