use Rattle.std.proofs.Common.{◌≡◌, ◌+◌, length, take, ap, ◌∙◌, arith}
use Rattle.std.proofs.lemmas.List.{length-map, length-take-le}
use Rattle.hy_formats.specs.EntryFormat.{spelling}
use Rattle.hy_formats.specs.LogFormat.{places_of}
use Rattle.hy_log.specs.View.{header_of}
use Rattle.hy_compact.proofs.Copies.{is_added}
use Rattle.hy_compact.proofs.copying.add_batch.Goals as goal

pub unreachable-requires : goal.unreachable-requires
unreachable-requires g c =
    let inv = c.loop-count.invariant in
    let spare = c.loop-count.spare in
    let old = c.args.spare.now in
    let entries = c.args.entries.now in
    let counted : length spare.batch ≡ c.loop-count.count =
    ap (λ v. length v.batch) inv.0 ∙ (length-map (take c.loop-count.count entries) (spelling old.shape.version) ∙ length-take-le c.loop-count.count entries (let test = c.loop-count-test.true in omega (arith, test, inv.1))) in
    let bodies : length spare.bodies ≡ length old.bodies = ap (λ v. length v.bodies) inv.0 in
    let places : places_of (header_of spare) ≡ places_of (header_of old) = ap (λ v. places_of (header_of v)) inv.0 in
    is_added c.add.result (length spare.bodies + length spare.batch) (places_of (header_of spare)) spare.stopped c.in_default.not-Ok c.add.ensures.full c.add.ensures.stopped
    (omega (arith, counted, bodies, places, c.loop-count-test.true, inv.1, c.requires.fits)) (ap (λ v. v.stopped) inv.0 ∙ c.requires.running)
