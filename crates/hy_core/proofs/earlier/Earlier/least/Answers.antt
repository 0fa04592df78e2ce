use Rattle.std.proofs.Common.{rules, ◌≡◌, ◌-◌, length, map, Some, None, ap, sym, ◌∙◌}
use Rattle.std.specs.Prelude.{option_map, slice_get}
use Rattle.std.specs.List.{last_or}
use Rattle.hy_roll_laws.specs.Rolling.{rolled_upto}
use Rattle.hy_core.proofs.Kept.{last_at}
use Rattle.hy_core.proofs.earlier.Earlier.least.Goals as goal

pub returns-in-Some : goal.returns-in-Some
returns-in-Some c =
    let items = c.self.inside.rollers.items in
    let at : slice_get items (length items - 1) ≡ Some c.in-Some.roller.now = search rules in
    ap (λ n. Some n) c.at.ensures ∙ (ap (option_map rolled_upto) (sym at) ∙ (sym (last_at items) ∙ ap (λ l. last_or None (map rolled_upto l)) c.self.view_is))
