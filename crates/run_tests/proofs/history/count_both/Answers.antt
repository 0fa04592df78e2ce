use Rattle.std.proofs.Common.{rules, Some, inl, inr}
use Rattle.hy_hist.specs.Passes.{Makes}
use Rattle.run_tests.proofs.history.count_both.Goals as goal

pub returns : goal.returns
returns g c =
    let first : Makes c.join-one.result.0.0 c.in_ok-first.field-0 (Some c.args.x) = search rules in
    let second : Makes c.join-one.result.1.0 c.in_ok-second.field-0 (Some c.args.y) = search rules in
    let one = (c.join.ensures.made c.in_ok-first.field-0 (Some c.args.x)).1 (inl first) in
    let other = (c.join.ensures.made c.in_ok-second.field-0 (Some c.args.y)).1 (inr second) in
    rw (c.desk.view_is, c.close-desk.ensures.list) (c.made_stands.ensures.each c.in_ok-first.field-0 (Some c.args.x) one, c.made_stands.ensures.each c.in_ok-second.field-0 (Some c.args.y) other)
