-- What the group's writes tell of its members.
use Rattle.std.proofs.Common.{◌≡◌, ℕ, ◌<◌, List, Option, ap, sym, ◌∙◌}
use Rattle.hy_base.specs.declared.record.Row.{Row}
use Rattle.hy_base.specs.declared.record.Intention.{Intention}
use Rattle.hy_base.specs.declared.record.Clash.{Clash}
use Rattle.hy_base.specs.Rows.{Each, WritersRise, newest}
use Rattle.hy_base.specs.Marks.{MarkSet, AreMarks, clash, known_to}
use Rattle.hy_rules.specs.Validation.{touched, first_clash}
use Rattle.hy_roll_laws.proofs.Mates.{join_is_mate}

pub mate : (rows joined : List Row) (known : ℕ) (i : Intention) (m : MarkSet) (writes : List Row) (found : Option Clash) → WritersRise joined → Each (λ r. known < r.writer) joined → rows ≡ newest joined → AreMarks (known_to known i) writes m → clash rows m.pairs ≡ found
    → first_clash (touched i joined) ≡ found
mate rows joined known i m writes found rise past same are is = sym (join_is_mate joined known i m writes rise past are) ∙ (ap (λ (l : List Row). clash l m.pairs) (sym same) ∙ is)
