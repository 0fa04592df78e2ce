-- All that the first groups of a log decide, as the fold keeps it.
use Rattle.std.specs.Prelude.{ℕ, List}
use Rattle.hy_base.specs.declared.layout.Shape.{Shape}
use Rattle.hy_base.specs.declared.record.EntryKind.{EntryKind}
use Rattle.hy_check.specs.declared.fold.Folded.{Folded}
use Rattle.hy_rules.specs.Validation.{verdicts_after, rows_after}

abbrev pub folded_after : Shape → List EntryKind → ℕ → Folded
folded_after s log groups = record {
  groups = groups;
  verdicts = verdicts_after s log groups;
  rows = rows_after s log groups;
}
