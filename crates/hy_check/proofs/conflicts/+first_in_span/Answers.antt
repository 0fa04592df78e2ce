use Rattle.std.proofs.Common.{◌∙◌, ◌+◌, ◌*◌, sym, arith}
use Rattle.hy_base.specs.Entry.{is_in_span}
use Rattle.hy_check.specs.Conflicts.{known_where}
use Rattle.hy_check.proofs.Lookup.{one_kept, part_below, part_above, first_left, first_right, first_front}
use Rattle.hy_check.proofs.conflicts.+first_in_span.Goals as goal

pub returns-then-top-after-clause-late : goal.returns-then-top-after-clause-late
returns-then-top-after-clause-late g t c = sym (one_kept (λ key. is_in_span key c.args.span) c.args.after c.args.tree.now (omega (arith, c.top.ensures.greatest, c.if-top-after.true)))

pub returns-then-prefix-low-clause-late : goal.returns-then-prefix-low-clause-late
returns-then-prefix-low-clause-late g t c =
    let seen = c.in-Fork.ensures.seen in
    rw seen.1 (sym (first_right (known_where (λ key. is_in_span key c.args.span) c.args.after) _ _ (part_below c.args.span c.args.after c.in-Fork.bit (2 * c.in-Fork.prefix) _ seen.0.left_in (omega (arith, c.if-prefix-low.true)))
    ∙ part_below c.args.span c.args.after c.in-Fork.bit (2 * c.in-Fork.prefix + 1) _ seen.0.right_in (omega (arith, c.if-prefix-low.true))))

pub returns-then-high-prefix-clause-late : goal.returns-then-high-prefix-clause-late
returns-then-high-prefix-clause-late g t c =
    let seen = c.in-Fork.ensures.seen in
    rw seen.1 (sym (first_right (known_where (λ key. is_in_span key c.args.span) c.args.after) _ _ (part_above c.args.span c.args.after c.in-Fork.bit (2 * c.in-Fork.prefix) _ seen.0.left_in (omega (arith, c.if-high-prefix.true)))
    ∙ part_above c.args.span c.args.after c.in-Fork.bit (2 * c.in-Fork.prefix + 1) _ seen.0.right_in (omega (arith, c.if-high-prefix.true))))

pub returns-then-high-prefix-2-clause-late : goal.returns-then-high-prefix-2-clause-late
returns-then-high-prefix-2-clause-late g t c =
    let seen = c.in-Fork.ensures.seen in
    c.first_in_span.ensures.late
    ∙ (rw seen.1 (sym (first_front (known_where (λ key. is_in_span key c.args.span) c.args.after) _ _ (part_above c.args.span c.args.after c.in-Fork.bit (2 * c.in-Fork.prefix + 1) _ seen.0.right_in (omega (arith, c.if-high-prefix-2.true))))))

pub returns-then-prefix-low-2-clause-late : goal.returns-then-prefix-low-2-clause-late
returns-then-prefix-low-2-clause-late g t c =
    let seen = c.in-Fork.ensures.seen in
    c.first_in_span-then-prefix-low-2.ensures.late
    ∙ (rw seen.1 (sym (first_right (known_where (λ key. is_in_span key c.args.span) c.args.after) _ _ (part_below c.args.span c.args.after c.in-Fork.bit (2 * c.in-Fork.prefix) _ seen.0.left_in (omega (arith, c.if-prefix-low-2.true))))))

pub returns-in-Some-clause-late : goal.returns-in-Some-clause-late
returns-in-Some-clause-late g t c = rw c.in-Fork.ensures.seen.1 (sym (first_left (known_where (λ key. is_in_span key c.args.span) c.args.after) _ _ c.in-Some.clash (sym c.in-Some.ensures.late)))

pub returns-in-None-clause-late : goal.returns-in-None-clause-late
returns-in-None-clause-late g t c = c.first_in_span-in-None.ensures.late ∙ (rw c.in-Fork.ensures.seen.1 (sym (first_right (known_where (λ key. is_in_span key c.args.span) c.args.after) _ _ (sym c.in-None.ensures.late))))
