use Rattle.std.proofs.Common.{◌+◌, ◌++◌, ◌∷◌, [], ◌∙◌, ap, length-append, take, drop, arith}
use Rattle.hy_rules.specs.Validation.{standing_of, standings}
use Rattle.hy_rules.specs.Members.{standings_as}
use Rattle.hy_rules.proofs.Groups.{standings_more}
use Rattle.hy_check.proofs.group.members.Goals as goal

pub loop-entry-preserved : goal.loop-entry-preserved
loop-entry-preserved c =
    let at = c.loop-entry.entry-index in
    let before = c.loop-entry.found.items in
    let pushed = c.in_ok-push.ensures.items in
    let tree = c.args.tree.now in
    record {
      place = ap (λ n. n + 1) c.loop-entry.invariant.place ∙ omega arith;
      count = rw pushed (omega (arith, length-append before (c.member_of-member.result ∷ []), c.loop-entry.invariant.count));
      standings = λ base low. ap (λ found. standings_as (take (at + 1) c.args.group.now) found ++ standings tree c.args.oldest base (c.loop-entry.pos + 1 + 1) c.add_joined.new.joined.items (drop (at + 1) c.args.group.now)) pushed
          ∙ standings_more tree c.args.oldest base c.loop-entry.pos c.loop-entry.joined.items c.add_joined.new.joined.items c.args.group.now before at c.entry-item.result c.member_of-member.result _
          c.loop-entry.invariant.count c.loop-entry-test.true c.entry-item.is (c.member_of-member.ensures base low ∙ ap (λ joined. standing_of tree c.args.oldest base joined c.entry-item.result) c.deref.ensures.value) c.in_ok-add_joined.ensures (c.loop-entry.invariant.standings base low);
    }
