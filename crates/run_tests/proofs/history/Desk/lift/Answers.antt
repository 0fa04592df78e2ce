use Rattle.std.proofs.Common.{rules, ◌≡◌, false, [], ◌∷◌, ◌++◌, None, sym, ap, ◌∙◌}
use Rattle.std.specs.Prelude.{not}
use Rattle.run_tests.specs.Desk.{is_away}
use Rattle.run_tests.proofs.DeskLemmas.{away_moved}
use Rattle.run_tests.proofs.history.Desk.lift.Goals as goal

pub invariant_of-self-2 : goal.invariant_of-self-2
invariant_of-self-2 c =
    let grown : c.push.new.self.items ≡ c.self.inside.marks.items ++ None ∷ [] = search rules in
    let was : is_away c.self.inside.marks.items ≡ false = search rules in
    rw grown (sym (away_moved c.self.inside.marks.items ∙ ap not was))

pub returns-clause-lifted : goal.returns-clause-lifted
returns-clause-lifted c =
    let grown : c.push.new.self.items ≡ c.self.inside.marks.items ++ None ∷ [] = search rules in
    let was : is_away c.self.inside.marks.items ≡ false = search rules in
    rw (← c.self.view_is, grown) (was, away_moved c.self.inside.marks.items ∙ ap not was)
