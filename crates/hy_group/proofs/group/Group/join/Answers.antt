use Rattle.std.proofs.Common.{rules, None, sym, subst, ◌∙◌}
use Rattle.hy_base.specs.Marks.{MarkSet, IsMerged}
use Rattle.hy_roll_laws.proofs.Dependencies.{joined_group}
use Rattle.hy_group.proofs.Mating.{mate}
use Rattle.hy_group.proofs.group.Group.join.Goals as goal

pub returns-in-Some-clause-mate : goal.returns-in-Some-clause-mate
returns-in-Some-clause-mate c = λ joined known i writes rise past same are.
    mate c.args.self.now.writes joined known i c.args.marks writes _ rise past same are (rw (sym c.self.view_is) (sym c.check_writes.ensures ∙ c.in-Some.is))

pub returns-clause-member : goal.returns-clause-member
returns-clause-member c = λ base pos ms i group own. joined_group base pos ms i c.args.self.now c.args.marks _ group own (subst (λ (m : MarkSet). IsMerged m c.args.marks c.in_ok-both.both) c.self.view_is c.in_ok-both.ensures)

pub returns-clause-mate : goal.returns-clause-mate
returns-clause-mate c = λ joined known i writes rise past same are.
    mate c.args.self.now.writes joined known i c.args.marks writes None rise past same are (search rules)
