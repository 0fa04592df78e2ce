use Rattle.std.proofs.Common.{Some, None, refl, sym, ◌∙◌}
use Rattle.hy_base.specs.declared.record.Verdict.TheVariants.{Pre, Mate}
use Rattle.hy_base.specs.declared.record.Member.TheVariants.{Dropped, Joined}
use Rattle.hy_rules.specs.Validation.{touched, first_clash}
use Rattle.hy_check.proofs.Judging.{stands_by}
use Rattle.hy_check.proofs.group.member_of.Goals as goal

pub returns-in-Some : goal.returns-in-Some
returns-in-Some c = λ base low.
    stands_by c.args.tree.now c.args.oldest base c.args.joined.now c.args.entry.now c.in-Txn.intention (Some c.in-Some.clash) (first_clash (touched c.in-Txn.intention c.args.joined.now)) (Dropped (Pre c.in-Some.clash))
    (sym c.kind.ensures.kind ∙ c.in-Txn.is) c.if-intention-oldest.false c.conflict.ensures.valid.ordered low (sym c.conflict.ensures.late ∙ c.in-Some.is) refl refl

pub returns-in-Some-mate : goal.returns-in-Some-mate
returns-in-Some-mate c = λ base low.
    stands_by c.args.tree.now c.args.oldest base c.args.joined.now c.args.entry.now c.in-Txn.intention None (Some c.in-Some-mate.clash) (Dropped (Mate c.in-Some-mate.clash))
    (sym c.kind.ensures.kind ∙ c.in-Txn.is) c.if-intention-oldest.false c.conflict.ensures.valid.ordered low (sym c.conflict.ensures.late ∙ c.in_default.is) (sym c.mate.ensures ∙ c.in-Some-mate.is) refl

pub returns-in_default-mate : goal.returns-in_default-mate
returns-in_default-mate c = λ base low.
    stands_by c.args.tree.now c.args.oldest base c.args.joined.now c.args.entry.now c.in-Txn.intention None None Joined
    (sym c.kind.ensures.kind ∙ c.in-Txn.is) c.if-intention-oldest.false c.conflict.ensures.valid.ordered low (sym c.conflict.ensures.late ∙ c.in_default.is) (sym c.mate.ensures ∙ c.in_default-mate.is) refl
