use Rattle.std.proofs.Common.{rules, ◌≡◌, ℕ, ◌+◌, IsTrue, ◌-◌, [], ◌∷◌, ◌++◌, drop, length, ap, sym, ◌∙◌, subst, arith, length-drop}
use Rattle.std.specs.Prelude.{Some, Err, IfOk}
use Rattle.std.proofs.lemmas.Result.{IfOk-from_err}
use Rattle.hy_base.specs.declared.layout.Shape.{Shape}
use Rattle.hy_base.specs.Log.{HasLawfulSnap}
use Rattle.hy_formats.specs.declared.damage.BadEntry.{BadEntry}
use Rattle.hy_base.specs.Lists.{nth}
use Rattle.hy_formats.specs.EntryFormat.{decoded_at, spelling}
use Rattle.hy_codec.specs.EntryReading.{Decodes}
use Rattle.hy_log.proofs.Looking.{looks, look_ok, look_nothing}
use Rattle.hy_base.specs.Entry.{IsSoundEntry}
use Rattle.hy_entries.proofs.Lists.{body_past, next_body, nothing_listed, one_more, refused_next, log_listed}
use Rattle.hy_entries.proofs.AfterLooks.{look_answers, look_fails, one_taken, same_at_first, same_still}
use Rattle.hy_entries.proofs.listing.hand_over.Goals as goal

pub returns-in-Err-BadEntry-clause-listing : goal.returns-in-Err-BadEntry-clause-listing
returns-in-Err-BadEntry-clause-listing g c =
    let inv = c.loop-count.invariant in
    let s = c.args.log.now.shape in
    let after = c.args.after in
    let skipped : ℕ = after - c.args.log.now.from in
    let place : after + c.loop-count.count + 1 - c.loop-count.log.from ≡ skipped + c.loop-count.count + 1 = omega (arith, inv.3.from, c.requires.first) in
    let next = next_body c.args.log.now.bodies c.loop-count.log.bodies skipped c.loop-count.count (omega (arith, c.loop-count-test.true, inv.2, c.requires.first)) inv.3.bodies in
    let there = subst (λ n. nth c.loop-count.log.bodies n ≡ Some next.0) (sym place) next.2 in
    λ told. refused_next g.D.Disk.tells s after (drop skipped c.args.log.now.bodies) inv.0.0 c.loop-count.count c.in-Err-BadEntry.bad next.0 inv.0.1 next.1
    (λ told. subst (λ e. Decodes (Err e) (decoded_at s (after + c.loop-count.count + 1) next.0)) c.in-Err-BadEntry.field-0-is (subst (λ r. Decodes r (decoded_at s (after + c.loop-count.count + 1) next.0)) c.in-Err-BadEntry.is
    (subst (λ (t : Shape). Decodes c.in_ok-entry.field-0 (decoded_at t (after + c.loop-count.count + 1) next.0)) inv.3.shape (c.in_ok-entry.ensures.exact told next.0 there)))) told
    ∙ ap (λ (b : BadEntry). Err (after + c.loop-count.count + 1, b)) (sym c.in-Err-BadEntry.bad-is)

pub loop-count-preserved : goal.loop-count-preserved
loop-count-preserved g c =
    let inv = c.loop-count.invariant in
    let s = c.args.log.now.shape in
    let after = c.args.after in
    let skipped : ℕ = after - c.args.log.now.from in
    let pos : ℕ = after + c.loop-count.count + 1 in
    let place : pos - c.loop-count.log.from ≡ skipped + c.loop-count.count + 1 = omega (arith, inv.3.from, c.requires.first) in
    let next = next_body c.args.log.now.bodies c.loop-count.log.bodies skipped c.loop-count.count (omega (arith, c.loop-count-test.true, inv.2, c.requires.first)) inv.3.bodies in
    let there = subst (λ n. nth c.loop-count.log.bodies n ≡ Some next.0) (sym place) next.2 in
    let read = λ (told : IsTrue g.D.Disk.tells). subst (λ r. Decodes r (decoded_at s pos next.0)) c.in-Ok.is
    (subst (λ (t : Shape). Decodes c.in_ok-entry.field-0 (decoded_at t pos next.0)) inv.3.shape (c.in_ok-entry.ensures.exact told next.0 there)) in
    let at_place = subst (λ r. IfOk r (HasLawfulSnap c.loop-count.log.shape pos)) c.in-Ok.is c.in_ok-entry.ensures.lawful in
    let lawful = subst (λ (t : Shape). HasLawfulSnap t pos c.in-Ok.entry) inv.3.shape at_place in
    let sound = subst (λ (t : Shape). IsSoundEntry t.version c.in-Ok.entry) inv.3.shape (subst (λ r. IfOk r (IsSoundEntry c.loop-count.log.shape.version)) c.in-Ok.is c.in_ok-entry.ensures.sound) in
    let spelled = λ (told : IsTrue g.D.Disk.tells). subst (λ (t : Shape). nth (drop skipped c.args.log.now.bodies) (c.loop-count.count + 1) ≡ Some (spelling t.version c.in-Ok.entry)) inv.3.shape
    (body_past c.args.log.now.bodies c.loop-count.log.bodies skipped c.loop-count.count (spelling c.loop-count.log.shape.version c.in-Ok.entry) inv.3.bodies
    (subst (λ (n : ℕ). nth c.loop-count.log.bodies n ≡ Some (spelling c.loop-count.log.shape.version c.in-Ok.entry)) place
    (subst (λ r. IfOk r (λ e. nth c.loop-count.log.bodies (pos - c.loop-count.log.from) ≡ Some (spelling c.loop-count.log.shape.version e))) c.in-Ok.is (c.in_ok-entry.ensures.spelled told)))) in
    let taken = one_taken g.R.Receiver.fits g.R.Receiver.took c.take.result c.args.receiver.now c.loop-count.receiver c.take.new.self s.version after pos inv.0.0 c.in-Ok.entry
    c.take.ensures.fits c.take.ensures.taken (sym c.is_err.ensures.value ∙ c.if-is_err.false) inv.6 inv.0.2 (omega (arith, inv.0.1.counts)) in (
      (
        inv.0.0 ++ c.in-Ok.entry ∷ [],
        one_more g.D.Disk.tells s after (drop skipped c.args.log.now.bodies) inv.0.0 c.loop-count.count c.in-Ok.entry next.0 inv.0.1 next.1 read lawful sound spelled,
        taken.0,
      ),
      search rules,
      inv.2,
      same_still inv.3 c.in_ok-entry.ensures.same,
      look_ok tt (looks inv.4 c.in_ok-entry.ensures.look),
      inv.5,
      taken.1,
    )

pub loop-count-init : goal.loop-count-init
loop-count-init g c =
    let rest = drop (c.args.after - c.args.log.now.from) c.args.log.now.bodies in (
      ([], nothing_listed g.D.Disk.tells c.args.log.now.shape c.args.after rest, g.met.R.Receiver.took_none c.args.receiver.now c.args.after),
      c.requires.space,
      omega (arith, c.len.ensures.len, c.requires.last),
      same_at_first c.args.log.now,
      look_nothing g.D.Disk.content g.D.Disk.moment g.D.Disk.left_since g.D.Disk.faults_of g.D.Disk.has_room c.args.log.now.disk (g.met.D.Disk.only_now c.args.log.now.disk),
      omega (arith, c.len.ensures.len, c.len.ensures.most),
      c.requires.fits,
    )

pub returns-in_err-entry-clause-listing : goal.returns-in_err-entry-clause-listing
returns-in_err-entry-clause-listing g c = IfOk-from_err c.from_residual.result _ c.from_residual.ensures.0

pub returns-in_err-entry-clause-same : goal.returns-in_err-entry-clause-same
returns-in_err-entry-clause-same g c = same_still c.loop-count.invariant.3 c.in_err-entry.ensures.same

pub returns-in_err-entry-clause-look : goal.returns-in_err-entry-clause-look
returns-in_err-entry-clause-look g c = look_fails g.D.Disk.content g.D.Disk.moment g.D.Disk.left_since g.D.Disk.faults_of g.D.Disk.has_room _ _ _ c.loop-count.invariant.4 _ c.from_residual.result c.from_residual.ensures.0 c.in_err-entry.ensures.look

pub returns-then-is_err-clause-listing : goal.returns-then-is_err-clause-listing
returns-then-is_err-clause-listing g c = tt

pub returns-then-is_err-clause-same : goal.returns-then-is_err-clause-same
returns-then-is_err-clause-same g c = same_still c.loop-count.invariant.3 c.in_ok-entry.ensures.same

pub returns-then-is_err-clause-look : goal.returns-then-is_err-clause-look
returns-then-is_err-clause-look g c = look_answers g.D.Disk.content g.D.Disk.moment g.D.Disk.left_since g.D.Disk.faults_of g.D.Disk.has_room _ _ _ c.loop-count.invariant.4 _ _ c.in_ok-entry.ensures.look

pub returns-in-Err-BadEntry-clause-same : goal.returns-in-Err-BadEntry-clause-same
returns-in-Err-BadEntry-clause-same g c = same_still c.loop-count.invariant.3 c.in_ok-entry.ensures.same

pub returns-in-Err-BadEntry-clause-look : goal.returns-in-Err-BadEntry-clause-look
returns-in-Err-BadEntry-clause-look g c = look_answers g.D.Disk.content g.D.Disk.moment g.D.Disk.left_since g.D.Disk.faults_of g.D.Disk.has_room _ _ _ c.loop-count.invariant.4 _ _ c.in_ok-entry.ensures.look

pub returns-in-Err-Memory-clause-listing : goal.returns-in-Err-Memory-clause-listing
returns-in-Err-Memory-clause-listing g c = tt

pub returns-in-Err-Memory-clause-same : goal.returns-in-Err-Memory-clause-same
returns-in-Err-Memory-clause-same g c = same_still c.loop-count.invariant.3 c.in_ok-entry.ensures.same

pub returns-in-Err-Memory-clause-look : goal.returns-in-Err-Memory-clause-look
returns-in-Err-Memory-clause-look g c = look_answers g.D.Disk.content g.D.Disk.moment g.D.Disk.left_since g.D.Disk.faults_of g.D.Disk.has_room _ _ _ c.loop-count.invariant.4 _ _ c.in_ok-entry.ensures.look

pub returns-clause-listing : goal.returns-clause-listing
returns-clause-listing g c =
    let inv = c.loop-count.invariant in
    let skipped : ℕ = c.args.after - c.args.log.now.from in
    let size : length (drop skipped c.args.log.now.bodies) ≡ length c.args.log.now.bodies - skipped = length-drop skipped c.args.log.now.bodies in
    (inv.0.0, log_listed g.D.Disk.tells c.args.log.now.shape c.args.after (drop skipped c.args.log.now.bodies) inv.0.0 c.loop-count.count inv.0.1 (omega (arith, c.loop-count-test.false, c.loop-count.auto.count-end, inv.2, size, c.requires.first)) (omega (arith, size, inv.5, c.requires.first, c.requires.last)), inv.0.2)

pub returns-clause-same : goal.returns-clause-same
returns-clause-same g c = c.loop-count.invariant.3

pub returns-clause-look : goal.returns-clause-look
returns-clause-look g c = look_ok _ c.loop-count.invariant.4
