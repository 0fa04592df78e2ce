use Rattle.std.proofs.Common.{◌≡◌, [], replicate}
use Rattle.hy_core.proofs.earlier.open_earlier.Given as goal

abbrev pub invariant-loop-server : goal.invariant-loop-server
invariant-loop-server l = l.earlier.items ≡ replicate l._server []
