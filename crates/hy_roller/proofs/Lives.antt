-- The live rows of a tree that agrees with a roller's rows are those of the roller.
use Rattle.std.proofs.Common.{◌≡◌, ◌∙◌, ℕ, List, sym, ap}
use Rattle.hy_base.specs.declared.record.Row.{Row}
use Rattle.hy_base.specs.Rows.{Agrees}
use Rattle.hy_rules.specs.History.{live_rows, pairs_of}
use Rattle.hy_rules.proofs.Purged.{live_purged, pairs_purged}

pub live_agree : (line : ℕ) (tree rows : List Row) → Agrees line tree rows → live_rows tree ≡ live_rows rows
live_agree line tree rows e = sym (live_purged line tree) ∙ ap live_rows e

pub pairs_agree : (line : ℕ) (tree rows : List Row) → Agrees line tree rows → pairs_of tree ≡ pairs_of rows
pairs_agree line tree rows e = sym (pairs_purged line tree) ∙ ap pairs_of e
