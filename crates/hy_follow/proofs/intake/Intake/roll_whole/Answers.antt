use Rattle.std.proofs.Common.{◌≡◌, List, length, sym, subst}
use Rattle.std.specs.Prelude.{◌%◌}
use Rattle.hy_base.specs.declared.layout.Shape.{Shape}
use Rattle.hy_base.specs.declared.record.EntryKind.{EntryKind}
use Rattle.hy_follow.proofs.Rolled.{front_whole}
use Rattle.hy_follow.proofs.intake.Intake.roll_whole.Goals as goal

pub roll-requires-clause-whole : goal.roll-requires-clause-whole
roll-requires-clause-whole g c κs within =
    subst (λ (s : Shape). length c.split_whole.result.0.now % s.group ≡ 0) c.shape.ensures
    (subst (λ (es : List EntryKind). length es % c.shape.result.group ≡ 0) (sym c.split_whole.ensures.whole) (front_whole c.shape.result c.deref.result.now))
