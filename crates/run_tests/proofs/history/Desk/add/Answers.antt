use Rattle.std.proofs.Common.{rules, ◌≡◌, [], ◌∷◌, ◌++◌, Some, sym, ◌∙◌}
use Rattle.run_tests.proofs.DeskLemmas.{away_number, moves_number}
use Rattle.hy_hist.proofs.Made.{at_front}
use Rattle.run_tests.proofs.history.Desk.add.Goals as goal

pub invariant_of-self-2 : goal.invariant_of-self-2
invariant_of-self-2 c =
    let grown : c.push.new.self.items ≡ c.self.inside.marks.items ++ Some c.args.number ∷ [] = search rules in
    rw grown (c.self.invariant ∙ sym (away_number c.self.inside.marks.items c.args.number))

pub returns-clause-place : goal.returns-clause-place
returns-clause-place c =
    let grown : c.push.new.self.items ≡ c.self.inside.marks.items ++ Some c.args.number ∷ [] = search rules in
    rw grown (at_front c.self.inside.marks.items (Some c.args.number) [] _ (search rules))

pub returns-clause-tool : goal.returns-clause-tool
returns-clause-tool c =
    let grown : c.push.new.self.items ≡ c.self.inside.marks.items ++ Some c.args.number ∷ [] = search rules in
    rw (← c.self.view_is, grown) (away_number c.self.inside.marks.items c.args.number, moves_number c.self.inside.marks.items c.args.number)
