use Rattle.std.proofs.Common.{◌≡◌, ◌∙◌, ◌⊎◌, ◌<◌, sym, inl, inr, subst, arith, rules}
use Rattle.hy_meld.specs.Purges.{IsPurgedPart}
use Rattle.hy_meld.proofs.Purged.{none_at, some_at, left_shorter, right_shorter, sides_deleted, left_fork, purge_left, purge_both}
use Rattle.hy_meld.proofs.purging.+purge_part.Goals as goal

pub returns-then-low-eq0-clause-left : goal.returns-then-low-eq0-clause-left
returns-then-low-eq0-clause-left g t c =
    let h : (c.low-low.result ≡ 0) ⊎ (c.args.line < c.low-low.result) = elim c.then-low-eq0.either [ inl e ↦ inl e | inr e ↦ inr e.1 ] in
    let none = none_at c.args.line c.low-low.result (g.T.HasRows.rows c.args.tree.now) c.low-low.ensures.least c.requires h in
    (c.in_ok-share.ensures.same ∙ sym none.0, λ n. rw c.in_ok-share.ensures.same n)

pub purge_part-requires : goal.purge_part-requires
purge_part-requires g t c κs within =
    let s = c.in-Fork.ensures.seen in
    (omega (arith, left_shorter s.0 s.1, c.decreases), (search rules, (search rules, (sides_deleted s.0 s.1 c.requires).0)))

pub returns-in_err-left-in-Fork-clause-cost : goal.returns-in_err-left-in-Fork-clause-cost
returns-in_err-left-in-Fork-clause-cost g t c = λ bits prefix i.
    let s = c.in-Fork.ensures.seen in
    purge_left s.0 s.1 c.args.line _ _ _ bits prefix (some_at c.args.line c.low-low.result (g.T.HasRows.rows c.args.tree.now) c.low-low.ensures.least c.if-low-eq0.false c.if-line-low.false) c.in-Fork.ensures.counted c.purge_part.ensures.cost i

pub purge_part-requires-in-Fork : goal.purge_part-requires-in-Fork
purge_part-requires-in-Fork g t c κs within =
    let s = c.in-Fork.ensures.seen in
    (omega (arith, right_shorter s.0 s.1, c.decreases), (search rules, (search rules, (sides_deleted s.0 s.1 c.requires).1)))

pub returns-in_err-right-in-Fork-clause-cost : goal.returns-in_err-right-in-Fork-clause-cost
returns-in_err-right-in-Fork-clause-cost g t c = λ bits prefix i.
    let s = c.in-Fork.ensures.seen in
    purge_both s.0 s.1 c.args.line _ _ _ _ bits prefix (some_at c.args.line c.low-low.result (g.T.HasRows.rows c.args.tree.now) c.low-low.ensures.least c.if-low-eq0.false c.if-line-low.false) c.in-Fork.ensures.counted c.purge_part.ensures.cost c.purge_part-in-Fork.ensures.cost i

pub join-requires : goal.join-requires
join-requires g t c = λ l r el er.
    let s = c.in-Fork.ensures.seen in
    left_fork s.0 s.1 g.T.HasRows.rows c.args.line l r
    (subst (IsPurgedPart g.T.HasRows.rows c.args.line (g.T.HasRows.rows c.in-Fork.left.now)) el c.in_ok-left-in-Fork.ensures.left)
    (subst (IsPurgedPart g.T.HasRows.rows c.args.line (g.T.HasRows.rows c.in-Fork.right.now)) er c.in_ok-right-in-Fork.ensures.left)

pub returns-in_ok-right-in-Fork-clause-cost : goal.returns-in_ok-right-in-Fork-clause-cost
returns-in_ok-right-in-Fork-clause-cost g t c = λ bits prefix i.
    let s = c.in-Fork.ensures.seen in
    purge_both s.0 s.1 c.args.line _ _ _ _ bits prefix (some_at c.args.line c.low-low.result (g.T.HasRows.rows c.args.tree.now) c.low-low.ensures.least c.if-low-eq0.false c.if-line-low.false) c.in-Fork.ensures.counted c.purge_part.ensures.cost c.purge_part-in-Fork.ensures.cost i
