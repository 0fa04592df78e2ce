use Rattle.std.proofs.Common.{arith, subst, sym, ◌≡◌, ◌∙◌, ap, None}
use Rattle.hy_base.specs.Later.{Later}
use Rattle.hy_base.specs.declared.record.Row.{Row}
use Rattle.hy_base.specs.Lists.{put}
use Rattle.hy_base.specs.Rows.{row_before}
use Rattle.hy_base.proofs.RowLemmas.{later_same, later_put}
use Rattle.run_tests.proofs.meld.current.Goals as goal

pub returns-then-late : goal.returns-then-late
returns-then-late c =
    let earlier = c.args.earlier.now in
    let row : Row = record { key = 700; writer = 11; value = None } in
    let is : c.in_ok-put.field-0 ≡ put row_before row earlier = c.in_ok-put.ensures ∙ ap (put row_before row) c.in_ok-same.ensures.same in
    subst (λ t. Later earlier t 10 0) (sym is) (later_put 10 0 earlier earlier row (later_same 10 0 earlier (omega arith) c.in_ok-same.ensures.valid.ordered c.requires) (omega arith))

pub returns : goal.returns
returns c =
    let earlier = c.args.earlier.now in
    subst (λ t. Later earlier t 10 0) (sym c.in_ok-same.ensures.same) (later_same 10 0 earlier (omega arith) c.in_ok-same.ensures.valid.ordered c.requires)
