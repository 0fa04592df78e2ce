use Rattle.std.proofs.Common.{◌≡◌, ℕ, ◌∙◌, ◌||◌, List, sym, ap, arith}
use Rattle.std.specs.Prelude.{Bool, ◌==◌}
use Rattle.std.specs.List.{list_any}
use Rattle.hy_base.specs.declared.record.Span.{Span}
use Rattle.hy_base.specs.declared.record.Write.{Write}
use Rattle.hy_base.specs.Entry.{is_in_span, touches}
use Rattle.hy_base.specs.Marks.{first_late}
use Rattle.hy_rules.specs.Members.{earliest}
use Rattle.hy_check.specs.Conflicts.{known_where}
use Rattle.hy_check.proofs.Lookup.{one_kept, first_of_either}
use Rattle.hy_check.proofs.conflicts.conflict_counted.Goals as goal

pub returns-then-top-after-clause-late : goal.returns-then-top-after-clause-late
returns-then-top-after-clause-late g c = sym (one_kept (touches c.args.intention.now) c.args.after c.args.tree.now (omega (arith, c.top.ensures.greatest, c.if-top-after.true)))

pub returns-clause-late : goal.returns-clause-late
returns-clause-late g c =
    let tree = c.args.tree.now in
    let after = c.args.after in
    let points : List ℕ → ℕ → Bool = λ xs key. list_any (λ point. point == key) xs in
    let spans : List Span → ℕ → Bool = λ xs key. list_any (is_in_span key) xs in
    let writes : List Write → ℕ → Bool = λ xs key. list_any (λ write. write.key == key) xs in
    let i = c.args.intention.now in
    let ordered = c.top.ensures.valid.ordered in
    let point : c.first_in_points-point.result ≡ first_late (known_where (points i.points) after) tree = c.first_in_points-point.ensures ∙ ap (λ xs. first_late (known_where (points xs) after) tree) c.as_slice.ensures in
    let scanned : c.first_in_spans-scanned.result ≡ first_late (known_where (spans i.spans) after) tree = c.first_in_spans-scanned.ensures ∙ ap (λ xs. first_late (known_where (spans xs) after) tree) c.as_slice-2.ensures in
    let written : c.first_in_writes-written.result ≡ first_late (known_where (writes i.writes) after) tree = c.first_in_writes-written.ensures ∙ ap (λ xs. first_late (known_where (writes xs) after) tree) c.as_slice-3.ensures in
    let other : c.earliest_of.result ≡ first_late (known_where (λ key. spans i.spans key || writes i.writes key) after) tree =
    c.earliest_of.ensures ∙ ((λ j. earliest (scanned j) (written j)) ∙ sym (first_of_either (spans i.spans) (writes i.writes) after tree ordered)) in
    c.earliest_of-2.ensures ∙ ((λ j. earliest (point j) (other j)) ∙ sym (first_of_either (points i.points) (λ key. spans i.spans key || writes i.writes key) after tree ordered))
