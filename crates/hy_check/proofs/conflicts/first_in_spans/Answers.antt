use Rattle.std.proofs.Common.{ℕ, ◌-◌, ◌∙◌, refl, sym, arith}
use Rattle.hy_base.specs.declared.record.Span.{Span}
use Rattle.hy_base.specs.Entry.{is_in_span}
use Rattle.hy_check.proofs.Lookup.{first_of_none, first_of_more}
use Rattle.hy_check.proofs.conflicts.first_in_spans.Goals as goal

pub loop-at-init : goal.loop-at-init
loop-at-init g c = record { within = omega arith; found = sym (first_of_none (λ (span : Span) (key : ℕ). is_in_span key span) c.args.spans.now c.args.after c.args.tree.now) }

pub loop-at-preserved : goal.loop-at-preserved
loop-at-preserved g c = record {
  within = omega (arith, c.loop-at.invariant.within);
  found = c.earliest_of-found.ensures ∙ first_of_more (λ (span : Span) (key : ℕ). is_in_span key span) c.args.spans.now (c.loop-at.at - 1) c.loop-at.at _ _ c.args.after c.args.tree.now c.first_in_span.result c.loop-at.found
      c.first_in_span.ensures.valid.ordered (omega (arith, c.loop-at.invariant.within, c.loop-at-test.true)) refl (omega (arith, c.loop-at-test.true)) (c.first_in_span.ensures.late) c.loop-at.invariant.found;
}
