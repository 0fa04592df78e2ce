use Rattle.std.proofs.Common.{◌≡◌}
use Rattle.hy_roll_laws.specs.Rolling.{roll_on, rolled_upto}
use Rattle.hy_hub.specs.Calls.{IsRollable, len_of}
use Rattle.hy_clients.specs.Passing.{IsRunPass}
use Rattle.hy_clients.proofs.closing.nearest_look.Given as goal

-- the pass sees no more than before, and the look of one of the first servers may be rolled up to the log's end
abbrev pub invariant-loop-at : goal.invariant-loop-at
invariant-loop-at g l =
    IsRunPass g.B.Since.suits l.fn.service.hub.now l.fn.service.script.now l.pass × (l.pass.parts ≡ l.fn.pass.parts) × (l.pass.seen ≡ l.fn.pass.seen)
    × IsRollable l.fn.pass.seen l.nearest × (rolled_upto (roll_on l.nearest.roller l.nearest.entries) ≡ len_of l.fn.pass.seen)
