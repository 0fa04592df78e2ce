use Rattle.std.proofs.Common.{◌∙◌, List, [], ap, arith}
use Rattle.std.specs.Prelude.{slice_set}
use Rattle.hy_roll_laws.specs.Rolling.{Roll}
use Rattle.hy_core.proofs.Settling.{changed_next}
use Rattle.hy_core.proofs.earlier.clear_all.Goals as goal

pub loop-at-preserved : goal.loop-at-preserved
loop-at-preserved c =
    let hs : List (List Roll) = c.args.earlier.now.items in
    let at = c.loop-at.at in
    ap (λ (ys : List (List Roll)). slice_set ys at c.clear.new.self) c.loop-at.invariant
    ∙ changed_next (λ (older : List Roll). let none : List Roll = [] in none) hs at [] c.clear.new.self (omega (arith, c.loop-at-test.true, c.len-at-end.ensures)) c.clear.ensures
