use Rattle.std.proofs.Common.{rules, ◌≡◌, ◌-◌, take, drop, ap, ◌∙◌}
use Rattle.hy_roll_laws.specs.Rolling.{rolled_upto}
use Rattle.hy_hub.proofs.Wholes.{part_later}
use Rattle.hy_hub.proofs.contents.backlog_of.Goals as goal

pub returns-clause-entries : goal.returns-clause-entries
returns-clause-entries c =
    let at : c.at.result ≡ rolled_upto c.args.board.now = search rules in
    c.in_ok-entries.ensures ∙ ap (λ n. take (c.args.whole - c.args.cut - (n - c.args.cut)) (drop (n - c.args.cut) c.args.entries.now)) at ∙ part_later c.args.cut (rolled_upto c.args.board.now) c.args.whole c.args.entries.now c.requires.past c.requires.within.0
