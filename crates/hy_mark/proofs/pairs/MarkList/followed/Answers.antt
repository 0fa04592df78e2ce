use Rattle.std.proofs.Common.{◌≡◌, ◌++◌, ◌∙◌, refl, subst}
use Rattle.hy_mark.specs.Orders.{ArePairs}
use Rattle.hy_mark.proofs.Deps.{dep_append}
use Rattle.hy_mark.proofs.Ordering.{pairs_followed}
use Rattle.hy_mark.proofs.pairs.MarkList.followed.Goals as goal

whole : (c : goal.After-from_vec) → c.from_vec.result ≡ c.args.self ++ c.args.other
whole c = c.from_vec.ensures ∙ (c.in_ok-append.ensures.items ∙ rw (c.into_vec-marks.ensures, c.into_vec-behind.ensures, c.self.view_is, c.other.view_is) refl)

pub invariant_of-result : goal.invariant_of-result
invariant_of-result c = rw (whole c) (pairs_followed c.args.self c.args.other (subst ArePairs c.self.view_is c.self.invariant) (subst ArePairs c.other.view_is c.other.invariant) c.requires)

pub returns : goal.returns
returns c = λ key. rw (c.from_vec.ensures, c.in_ok-append.ensures.items, c.into_vec-marks.ensures, c.into_vec-behind.ensures, c.self.view_is, c.other.view_is) (dep_append c.args.self c.args.other key)
