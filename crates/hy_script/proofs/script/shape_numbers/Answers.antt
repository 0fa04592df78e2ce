use Rattle.std.proofs.Common.{[], ◌∷◌, refl, sym, ap, subst, ◌∙◌}
use Rattle.std.specs.Prelude.{bytes_eq}
use Rattle.hy_script.specs.Fields.{HasFields}
use Rattle.hy_script.proofs.ShapeLines.{horizon_follows}
use Rattle.hy_script.proofs.script.shape_numbers.Goals as goal

pub returns-then-eq-2 : goal.returns-then-eq-2
returns-then-eq-2 c = λ words fields.
    let five = subst (λ f. HasFields f words) c.in-Five.is fields in
    horizon_follows c.in-Five.group.now c.in-Five.window.now c.in-Five.cap.now c.in-Five.version.now c.in-Five.horizon.now words c.told_with_horizon.result five.0
    (ap (bytes_eq c.in-Five.version.now) (sym c.as_slice-in-Five.ensures) ∙ sym c.eq-in-Five.ensures ∙ c.if-eq-2.true)
    (c.told_with_horizon.ensures (c.in-Five.group.now ∷ c.in-Five.window.now ∷ c.in-Five.cap.now ∷ c.in-Five.horizon.now ∷ []) (refl, five.1, five.2, five.3, five.5))
