use Rattle.std.proofs.Common.{List, ℕ, Some, refl, inl, ap, ◌∙◌}
use Rattle.std.specs.Prelude.{option_map}
use Rattle.hy_base.proofs.ResultLemmas.{any_err}
use Rattle.hy_formats.specs.EntryFormat.{spelling}
use Rattle.hy_memlog.specs.Pages.{with_body}
use Rattle.hy_core.specs.CoreParts.{Holding, log_held}
use Rattle.hy_core.proofs.Stopping.{kept_or_broken}
use Rattle.hy_core.proofs.restarting.stop_in.Goals as goal

pub returns-in_err-stop-clause-err : goal.returns-in_err-stop-clause-err
returns-in_err-stop-clause-err g c = any_err _ c.from_residual-in_err-stop.result (kept_or_broken (log_held c.args.core.now) c.stop.new.self c.in_err-stop.ensures.err)

pub returns-in_err-body-clause-err : goal.returns-in_err-body-clause-err
returns-in_err-body-clause-err g c = any_err _ c.from_residual.result (inl refl)

pub returns-in_err-rollers-clause-err : goal.returns-in_err-rollers-clause-err
returns-in_err-rollers-clause-err g c = any_err _ c.from_residual-in_err-rollers.result (inl refl)

pub returns-clause-ok : goal.returns-clause-ok
returns-clause-ok g c =
    let h : Holding = log_held c.args.core.now in
    let body = c.deref.ensures.value ∙ (c.in_ok-body.ensures.bytes ∙ (λ j. spelling (c.shape.ensures j).version (c.get.ensures j))) in
    let pages = c.in_ok-stop.ensures.ok ∙ ap (λ (bytes : List ℕ). record h.pages { bodies = option_map (with_body (Some c.args.stop) 1 bytes) h.pages.bodies }) body in
    λ i. record h { pages = pages i }

pub returns-clause-boards : goal.returns-clause-boards
returns-clause-boards g c = c.in_ok-rollers.ensures

pub returns-clause-places : goal.returns-clause-places
returns-clause-places g c = (refl, refl)

pub encode-requires : goal.encode-requires
encode-requires g c = rw (c.shape.ensures, c.get.ensures) c.requires.fits
