use Rattle.std.proofs.Common.{◌≡◌, ℕ, ◌++◌, List, take, drop, length, refl, ap, arith, ◌∙◌, length-take, length-drop, length-append}
use Rattle.hy_disk.proofs.Moments.{started}
use Rattle.hy_log.proofs.Appending.{kept_holds}
use Rattle.hy_log.proofs.Batches.{empty_waits, none_sound_at}
use Rattle.hy_log.proofs.Openings.{still_kept, holding_opened, holding_fails}
use Rattle.hy_log.proofs.log.open_with.Goals as goal

pub returns-in_default-clause-any_moment : goal.returns-in_default-clause-any_moment
returns-in_default-clause-any_moment g c told is = still_kept g.D.Disk.moment g.D.Disk.left_since c.args.disk _ is (g.met.D.Disk.only_now c.args.disk)

-- a part was written over
written_size : (n : ℕ) (given items : List ℕ) → n ≡ length items → length (take n (given ++ drop (length given) items)) ≡ length items
written_size n given items size = omega (arith, length-take n (given ++ drop (length given) items), length-append given (drop (length given) items), length-drop (length given) items, size)

pub slice_bounds-open_at-end : goal.slice_bounds-open_at-end
slice_bounds-open_at-end g c = omega (arith, length-take 18688 c.deref_mut.result.now, ap length c.deref_mut.ensures.value, (c.in-Ok.ensures.waits 1).size)

pub open_at-requires-clause-size : goal.open_at-requires-clause-size
open_at-requires-clause-size g c = omega (arith, length-take 18688 c.deref_mut.result.now, ap length c.deref_mut.ensures.value, (c.in-Ok.ensures.waits 1).size)

pub invariant_of-result : goal.invariant_of-result
invariant_of-result g c =
    let o = c.in-Ok-open_at.ensures.log in
    let batch = c.in-Ok.batch in
    let waits = c.in-Ok.ensures.waits c.in-Ok-open_at.opened.frontier in
    record {
      good = o.good;
      within = omega (arith, o.within, ap length c.in-Ok.ensures.none);
      reserved = omega (arith, c.in-Ok-open_at.opened.places.ok.0, ap length c.in-Ok.ensures.none);
      fits = o.fits;
      before = o.before;
      waits = empty_waits c.in-Ok-open_at.opened.frontier batch _ waits c.in-Ok.ensures.none refl refl (written_size batch.bytes.len _ batch.bytes.items batch.bytes.ok.0 ∙ waits.size);
      sound = none_sound_at c.in-Ok-open_at.opened.header.shape.version c.in-Ok-open_at.opened.frontier batch.places.items _ c.in-Ok.ensures.none;
      front = o.front;
      at_rest = λ told running. o.rest told;
      dropped = λ at is. absurd cc;
      torn = λ told at is. absurd cc;
    }

pub returns-in-Ok-open_at-clause-settled : goal.returns-in-Ok-open_at-clause-settled
returns-in-Ok-open_at-clause-settled g c told =
    let o = c.in-Ok-open_at.ensures.log in
    let rest = o.rest told in
    let seen = (g.D.Disk.content c.open_at.new.disk).seen in
    (rest.durable, kept_holds c.in-Ok-open_at.opened.header _ c.in-Ok-open_at.opened.frontier seen (o.front told) rest.within rest.closed seen refl)

pub returns-in-Ok-open_at-clause-holding : goal.returns-in-Ok-open_at-clause-holding
returns-in-Ok-open_at-clause-holding g c told = λ h bodies is holds.
    (holding_opened c.args.asked h c.in-Ok-open_at.opened.header bodies _ (g.D.Disk.content c.args.disk).seen is holds (c.in-Ok-open_at.ensures.exact told), tt)

pub returns-in-Err-clause-holding : goal.returns-in-Err-clause-holding
returns-in-Err-clause-holding g c told = λ h bodies is holds.
    (tt, holding_fails c.args.asked h bodies (g.D.Disk.content c.args.disk).seen c.in-Err.error is holds (c.in-Err.ensures.exact told))

pub returns-in_default-clause-unasked : goal.returns-in_default-clause-unasked
returns-in_default-clause-unasked g c told is = λ none unborn. started g.D.Disk.moment g.D.Disk.left_since c.args.disk _ (g.met.D.Disk.only_now c.args.disk)
