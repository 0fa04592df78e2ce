use Rattle.std.proofs.Common.{◌≡◌, ◌+◌, ◌++◌, [], ℕ, List, inl, length, map, refl, sym, ap, subst, ◌∙◌, arith, append_assoc, length-append}
use Rattle.std.specs.List.{AllByRecursion}
use Rattle.std.proofs.lemmas.List.{map-append, take-append-drop}
use Rattle.hy_base.specs.declared.record.EntryKind.{EntryKind}
use Rattle.hy_base.specs.Entry.{IsSoundEntry}
use Rattle.hy_disk.specs.Moments.{LeavesOnly}
use Rattle.hy_disk.proofs.Moments.{joined, started, weaker}
use Rattle.hy_formats.specs.declared.header.Header.{Header}
use Rattle.hy_formats.specs.EntryFormat.{spelling}
use Rattle.hy_formats.specs.LogDevice.{Holds}
use Rattle.hy_log.specs.View.{HoldsUpTo, header_of}
use Rattle.hy_compact.specs.Compaction.{HoldsFirst}
use Rattle.hy_compact.proofs.Copies.{first_or_batch, rest_image, sound_parts}
use Rattle.hy_compact.proofs.copying.append_all.Goals as goal

pub loop-rest-init : goal.loop-rest-init
loop-rest-init g c =
    let spare = c.args.spare.now in
    let disk = g.D.Disk in
    let entries = c.args.entries.now in (
      [],
      refl,
      ap length c.requires.blank,
      c.requires.waits,
      c.requires.running,
      refl,
      omega arith,
      omega arith,
      λ told.
          let held = c.requires.held told in (
            c.requires.blank,
            held.0,
            subst (λ (bs : List (List ℕ)). Holds (header_of spare) bs (disk.content spare.disk).seen) (sym c.requires.blank) held.1,
            started disk.moment disk.left_since spare.disk (HoldsFirst (header_of spare) entries)
                (λ image left. first_or_batch (header_of spare) [] [] entries entries [] image refl refl (inl (rest_image (disk.content spare.disk) (header_of spare) [] held.0 held.1 image (g.met.D.Disk.only_now spare.disk image left)))),
          ),
    )

pub append_batch-requires-clause-sound : goal.append_batch-requires-clause-sound
append_batch-requires-clause-sound g c =
    let inv = c.loop-rest.invariant in
    let together : c.split_at.result.0.now ++ c.split_at.result.1.now ≡ c.loop-rest.rest.now = (λ i. c.split_at.ensures.front i ++ c.split_at.ensures.back i) ∙ take-append-drop c.min.result c.loop-rest.rest.now in
    let version : c.loop-rest.spare.shape.version ≡ c.args.spare.now.shape.version = ap (λ (h : Header). h.shape.version) inv.5 in
    sound_parts c.loop-rest.spare.shape.version inv.0 c.split_at.result.0.now c.split_at.result.1.now c.args.entries.now (ap (λ (es : List EntryKind). inv.0 ++ es) together ∙ inv.1)
    (subst (λ (v : ℕ). AllByRecursion (IsSoundEntry v) c.args.entries.now) (sym version) c.requires.sound)

pub returns-in_err-append_batch-clause-any_moment : goal.returns-in_err-append_batch-clause-any_moment
returns-in_err-append_batch-clause-any_moment g c told =
    let inv = c.loop-rest.invariant in
    let disk = g.D.Disk in
    let old = c.args.spare.now in
    let so_far = inv.8 told in
    let batch = c.split_at.result.0.now in
    let more = c.split_at.result.1.now in
    let together : batch ++ more ≡ c.loop-rest.rest.now = (λ i. c.split_at.ensures.front i ++ c.split_at.ensures.back i) ∙ take-append-drop c.min.result c.loop-rest.rest.now in
    let whole : inv.0 ++ (batch ++ more) ≡ c.args.entries.now = ap (λ (es : List EntryKind). inv.0 ++ es) together ∙ inv.1 in
    let run = subst (λ (h : Header). LeavesOnly disk.moment disk.left_since c.loop-rest.spare.disk c.append_batch.new.spare.disk (HoldsUpTo h c.loop-rest.spare.bodies (map (spelling h.shape.version) batch))) inv.5 (c.append_batch.ensures.any_moment told) in
    joined disk.moment disk.left_since old.disk c.loop-rest.spare.disk c.append_batch.new.spare.disk (HoldsFirst (header_of old) c.args.entries.now) so_far.3
    (weaker disk.moment disk.left_since c.loop-rest.spare.disk c.append_batch.new.spare.disk _ (HoldsFirst (header_of old) c.args.entries.now) (λ image left. first_or_batch (header_of old) inv.0 batch more c.args.entries.now c.loop-rest.spare.bodies image whole so_far.0 left) run)

pub loop-rest-preserved : goal.loop-rest-preserved
loop-rest-preserved g c =
    let inv = c.loop-rest.invariant in
    let disk = g.D.Disk in
    let old = c.args.spare.now in
    let entries = c.args.entries.now in
    let batch = c.split_at.result.0.now in
    let more = c.split_at.result.1.now in
    let version : c.loop-rest.spare.shape.version ≡ old.shape.version = ap (λ (h : Header). h.shape.version) inv.5 in
    let together : batch ++ more ≡ c.loop-rest.rest.now = (λ i. c.split_at.ensures.front i ++ c.split_at.ensures.back i) ∙ take-append-drop c.min.result c.loop-rest.rest.now in
    let whole : inv.0 ++ (batch ++ more) ≡ entries = ap (λ (es : List EntryKind). inv.0 ++ es) together ∙ inv.1 in
    let grown = c.in_ok-append_batch.ensures.grown in
    let size : length (inv.0 ++ batch) ≡ length inv.0 + length batch = length-append inv.0 batch in (
      inv.0 ++ batch,
      append_assoc inv.0 batch more ∙ whole,
      omega (arith, grown.0, inv.2, size),
      grown.2,
      grown.1,
      c.append_batch.ensures.header ∙ inv.5,
      omega (arith, inv.6, grown.3, size),
      omega (arith, inv.7, c.append_batch.ensures.later),
      λ told.
          let so_far = inv.8 told in
          let done = c.in_ok-append_batch.ensures.appended told in
          let run = subst (λ (h : Header). LeavesOnly disk.moment disk.left_since c.loop-rest.spare.disk c.append_batch.new.spare.disk (HoldsUpTo h c.loop-rest.spare.bodies (map (spelling h.shape.version) batch))) inv.5 (c.append_batch.ensures.any_moment told) in (
            done.0 ∙ ap (λ (v : ℕ). c.loop-rest.spare.bodies ++ map (spelling v) batch) version ∙ (ap (λ (bs : List (List ℕ)). bs ++ map (spelling old.shape.version) batch) so_far.0 ∙ sym (map-append (spelling old.shape.version) inv.0 batch)),
            done.1,
            subst (λ (h : Header). Holds h c.append_batch.new.spare.bodies (disk.content c.append_batch.new.spare.disk).seen) (sym c.append_batch.ensures.header) done.2,
            joined disk.moment disk.left_since old.disk c.loop-rest.spare.disk c.append_batch.new.spare.disk (HoldsFirst (header_of old) entries) so_far.3
                (weaker disk.moment disk.left_since c.loop-rest.spare.disk c.append_batch.new.spare.disk _ (HoldsFirst (header_of old) entries) (λ image left. first_or_batch (header_of old) inv.0 batch more entries c.loop-rest.spare.bodies image whole so_far.0 left) run),
          ),
    )
