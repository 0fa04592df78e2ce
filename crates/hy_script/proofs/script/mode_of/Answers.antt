use Rattle.std.proofs.Common.{[], ◌∷◌, refl, sym, ap, subst, ◌∙◌}
use Rattle.std.specs.Prelude.{bytes_eq}
use Rattle.hy_script.specs.Fields.{HasFields}
use Rattle.hy_script.proofs.ScriptLines.{position_follows}
use Rattle.hy_script.proofs.script.mode_of.Goals as goal

pub returns-then-eq-2-clause-exact : goal.returns-then-eq-2-clause-exact
returns-then-eq-2-clause-exact c = λ words fields.
    let two = subst (λ f. HasFields f words) c.in-Two.is fields in
    position_follows c.args.shape c.in-Two.word.now c.in-Two.pos.now words c.position_of.result two.0
    (ap (bytes_eq c.in-Two.word.now) (sym c.as_slice-in-Two.ensures) ∙ sym c.eq-in-Two.ensures ∙ c.if-eq-2.true)
    (c.position_of.ensures.exact (c.in-Two.pos.now ∷ []) (refl, two.2))
