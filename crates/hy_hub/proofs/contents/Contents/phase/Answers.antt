use Rattle.std.proofs.Common.{rules, ◌≡◌, Some, refl, ap, sym, ◌∙◌}
use Rattle.hy_base.specs.Lists.{nth}
use Rattle.hy_hub.specs.Appends.{isolation_in}
use Rattle.hy_hub.proofs.Keeps.{client_within, home_of, isolation_is}
use Rattle.hy_hub.proofs.Telling.{phase_here}
use Rattle.hy_hub.proofs.Versions.{entry_fits}
use Rattle.hy_hub.proofs.contents.Contents.phase.Goals as goal

pub item-requires : goal.item-requires
item-requires g c =
    let shows : c.deref.result.now ≡ c.self.inside.sessions.items = search rules in
    rw shows (client_within c.self.invariant.0.traced c.args.client (ap (λ s. s.list) c.self.view_is) c.requires.client)

pub returns-clause-phase : goal.returns-clause-phase
returns-clause-phase g c =
    let traced = c.self.invariant.0.traced in
    let x : nth c.self.inside.sessions.items c.args.client ≡ Some c.item.result.now = search rules in
    let home = home_of traced c.args.client (ap (λ s. s.list) c.self.view_is) c.requires.client in
    let isolation = isolation_is traced c.args.client home.0 c.item.result.now home.1 x in (
      refl,
      sym (phase_here traced c.args.client c.item.result.now x (ap (λ s. s.list) c.self.view_is)),
      λ number entry runs. entry_fits c.self.invariant.2 c.args.client home.0 c.item.result.now entry home.1 (sym isolation ∙ (ap (isolation_in c.args.client) (ap (λ s. s.list) c.self.view_is) ∙ runs.1)),
    )
