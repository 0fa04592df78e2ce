use Rattle.std.proofs.Common.{◌≡◌, ℕ, ◌+◌, ◌*◌, List, length, refl, sym, ◌∙◌, ap, subst, arith, length-append, length-take}
use Rattle.std.specs.Prelude.{IsTrue}
use Rattle.hy_disk.specs.Content.{Image}
use Rattle.std.specs.List.{AllByRecursion}
use Rattle.std.proofs.lemmas.List.{length-map}
use Rattle.hy_formats.specs.LogFormat.{IsBody}
use Rattle.hy_formats.specs.LogDevice.{IsFront, Holds}
use Rattle.hy_log.specs.declared.batch.BodyBatch.{BodyBatch}
use Rattle.hy_log.specs.declared.place.BodyPlace.{BodyPlace}
use Rattle.hy_log.specs.Batches.{IsWaiting, waiting, waiting_at}
use Rattle.hy_log.specs.Pipelined.{AreLaid}
use Rattle.hy_log.specs.RecordPlaces.{bodies_at, IsEarlierPlace}
use Rattle.hy_log.proofs.Appending.{length-bodies_at}
use Rattle.hy_log.proofs.Batches.{none_sound, pages_few}
use Rattle.hy_log.proofs.Commits.{is_commit, commit_within, commit_holds, commit_runs, commit_room, commit_same, commit_failed, commit_front, commit_torn, committed_bodies, committed_front, committed_closed, committed_log, committed_laid, laid_before}
use Rattle.hy_log.proofs.pipelined.PipelinedLog.commit.Goals as goal

pub overflow_mul-next : goal.overflow_mul-next
overflow_mul-next g c = omega (arith, pages_few c.self.inside.frontier c.self.inside.laid c.self.invariant.log.waits, c.self.invariant.log.waits.few)

pub overflow_add-next : goal.overflow_add-next
overflow_add-next g c = omega (arith, pages_few c.self.inside.frontier c.self.inside.laid c.self.invariant.log.waits, c.self.invariant.log.waits.few, c.self.invariant.log.fits, c.self.invariant.log.within, c.self.invariant.log.good.shape.cap)

pub overflow_add-self : goal.overflow_add-self
overflow_add-self g c = omega (arith, pages_few c.self.inside.frontier c.self.inside.laid c.self.invariant.log.waits, c.self.invariant.log.waits.few, c.self.invariant.log.fits, c.self.invariant.log.within, c.self.invariant.log.good.shape.cap)

pub overflow_mul-pages : goal.overflow_mul-pages
overflow_mul-pages g c = omega (arith, pages_few (c.self.inside.frontier + c.self.inside.laid.pages) c.self.inside.batch c.self.invariant.waits, c.self.invariant.waits.few)

pub slice_bounds-store_ahead-end : goal.slice_bounds-store_ahead-end
slice_bounds-store_ahead-end g c = omega (arith, length-take (256 * c.self.inside.batch.pages) c.deref.result.now, ap length c.deref.ensures.value, pages_few (c.self.inside.frontier + c.self.inside.laid.pages) c.self.inside.batch c.self.invariant.waits, c.self.invariant.waits.few, c.self.invariant.waits.size)

pub store_ahead-requires-clause-fits : goal.store_ahead-requires-clause-fits
store_ahead-requires-clause-fits g c =
    omega (
      arith,
      length-take (256 * c.self.inside.batch.pages) c.deref.result.now,
      pages_few c.self.inside.frontier c.self.inside.laid c.self.invariant.log.waits,
      c.self.invariant.log.waits.few,
      c.self.invariant.log.fits,
      c.self.invariant.log.within,
      c.self.invariant.log.good.shape.cap,
      pages_few (c.self.inside.frontier + c.self.inside.laid.pages) c.self.inside.batch c.self.invariant.waits,
      c.self.invariant.waits.few,
    )

pub store_ahead-requires-clause-within : goal.store_ahead-requires-clause-within
store_ahead-requires-clause-within g c told =
    let put = is_commit c.self.invariant (ap (λ v. v.laid) c.self.view_is) (ap (λ v. v.batch) c.self.view_is) c.requires.some c.deref.ensures.value c.has_bodies-opens.ensures in
    commit_within put c.self.inside.disk told

pub returns-clause-any_moment : goal.returns-clause-any_moment
returns-clause-any_moment g c =
    let put = is_commit c.self.invariant (ap (λ v. v.laid) c.self.view_is) (ap (λ v. v.batch) c.self.view_is) c.requires.some c.deref.ensures.value c.has_bodies-opens.ensures in
    rw (← c.self.view_is) (λ told. commit_holds put c.store_ahead.new.disk told g.D.Disk.moment g.D.Disk.left_since (c.store_ahead.ensures.any_moment told))

pub returns-in_default-clause-any_moment : goal.returns-in_default-clause-any_moment
returns-in_default-clause-any_moment g c =
    let put = is_commit c.self.invariant (ap (λ v. v.laid) c.self.view_is) (ap (λ v. v.batch) c.self.view_is) c.requires.some c.deref.ensures.value c.has_bodies-opens.ensures in
    rw (← c.self.view_is) (λ told. commit_holds put c.store_ahead.new.disk told g.D.Disk.moment g.D.Disk.left_since (c.store_ahead.ensures.any_moment told))

pub returns-in_default-clause-kept : goal.returns-in_default-clause-kept
returns-in_default-clause-kept g c =
    let new = c.store_ahead.new.disk in
    let put = is_commit c.self.invariant (ap (λ v. v.laid) c.self.view_is) (ap (λ v. v.batch) c.self.view_is) c.requires.some c.deref.ensures.value c.has_bodies-opens.ensures in
    let images = λ (told : IsTrue g.D.Disk.tells) (image : List ℕ) (now : Image (g.D.Disk.content new) image). (c.store_ahead.ensures.any_moment told).each image (g.met.D.Disk.counts_now new (g.D.Disk.moment c.self.inside.disk) image told (c.store_ahead.ensures.any_moment told).later now) in
    let stays = λ (told : IsTrue g.D.Disk.tells). g.met.D.Disk.seen_may_stay new told in
    rw (← c.self.view_is) (λ told. (commit_same put new told (images told) (stays told), commit_failed put new told (images told) (stays told)))

pub returns-in_default-clause-room : goal.returns-in_default-clause-room
returns-in_default-clause-room g c =
    let put = is_commit c.self.invariant (ap (λ v. v.laid) c.self.view_is) (ap (λ v. v.batch) c.self.view_is) c.requires.some c.deref.ensures.value c.has_bodies-opens.ensures in
    rw (← c.self.view_is) (λ k b has.
    let none = (c.in_default.ensures.room k b (commit_room put g.D.Disk.has_room k b has)).0 in
    absurd (cc))

pub returns-clause-room : goal.returns-clause-room
returns-clause-room g c =
    let put = is_commit c.self.invariant (ap (λ v. v.laid) c.self.view_is) (ap (λ v. v.batch) c.self.view_is) c.requires.some c.deref.ensures.value c.has_bodies-opens.ensures in
    rw (← c.self.view_is) (λ k b has. (refl, (c.store_ahead.ensures.room k b (commit_room put g.D.Disk.has_room k b has)).1))

pub returns-in_default-clause-unarmed : goal.returns-in_default-clause-unarmed
returns-in_default-clause-unarmed g c = rw (← c.self.view_is) (λ unarmed. c.store_ahead.ensures.unarmed unarmed)

pub returns-clause-unarmed : goal.returns-clause-unarmed
returns-clause-unarmed g c = rw (← c.self.view_is) (λ unarmed. c.store_ahead.ensures.unarmed unarmed)

pub invariant_of-self : goal.invariant_of-self
invariant_of-self g c =
    let new = c.store_ahead.new.disk in
    let put = is_commit c.self.invariant (ap (λ v. v.laid) c.self.view_is) (ap (λ v. v.batch) c.self.view_is) c.requires.some c.deref.ensures.value c.has_bodies-opens.ensures in
    let images = λ (told : IsTrue g.D.Disk.tells) (image : List ℕ) (now : Image (g.D.Disk.content new) image). (c.store_ahead.ensures.any_moment told).each image (g.met.D.Disk.counts_now new (g.D.Disk.moment c.self.inside.disk) image told (c.store_ahead.ensures.any_moment told).later now) in
    let stays = λ (told : IsTrue g.D.Disk.tells). g.met.D.Disk.seen_may_stay new told in
    let inv = c.self.invariant in
    let p = c.self.inside in
    record {
      log = record {
        good = inv.log.good;
        within = omega (arith, inv.log.within, ap length c.clear.ensures.none);
        reserved = omega (arith, inv.log.reserved, ap length c.clear.ensures.none);
        fits = inv.log.fits;
        before = inv.log.before;
        waits = c.clear.ensures.waits p.frontier p.frontier inv.log.waits;
        sound = none_sound p.header.shape.version p.frontier c.clear.new.self c.clear.ensures.none;
        front = λ told. commit_front put new told (images told) (stays told);
        at_rest = λ told none. absurd cc;
        dropped = λ at is. c.clear.ensures.none;
        torn = λ told at is. commit_torn put new told (images told) (stays told);
      };
      within = omega (arith, inv.within, ap length c.clear.ensures.none, ap length c.clear-in_default.ensures.none);
      reserved = omega (arith, inv.reserved, ap length c.clear.ensures.none, ap length c.clear-in_default.ensures.none);
      waits = c.clear-in_default.ensures.waits (p.frontier + p.laid.pages) (p.frontier + c.clear.new.self.pages) inv.waits;
      sound = none_sound p.header.shape.version (p.frontier + c.clear.new.self.pages) c.clear-in_default.new.self c.clear-in_default.ensures.none;
      stands = λ told none. absurd cc;
      none_waits = λ at is. c.clear-in_default.ensures.none;
    }

pub invariant_of-self-2 : goal.invariant_of-self-2
invariant_of-self-2 g c =
    let new = c.store_ahead.new.disk in
    let put = is_commit c.self.invariant (ap (λ v. v.laid) c.self.view_is) (ap (λ v. v.batch) c.self.view_is) c.requires.some c.deref.ensures.value c.has_bodies-opens.ensures in
    let inv = c.self.invariant in
    let p = c.self.inside in
    let moved = c.move_to.ensures.moved in
    let all = length-append p.places.items p.laid.places.items in
    let page = p.frontier + p.laid.pages in
    let running = commit_runs put in
    let stored = c.in-Ok.ensures.stored in
    let empty : length c.swap.new.y.places.items ≡ 0 = ap (λ (b : BodyBatch). length b.places.items) c.swap.ensures.y_after ∙ ap length c.move_to.ensures.none in
    let next : length c.swap.new.x.places.items ≡ length p.batch.places.items = ap (λ (b : BodyBatch). length b.places.items) c.swap.ensures.x_after in
    record {
      log = record {
        good = inv.log.good;
        within = omega (arith, ap length moved, all, next, inv.within);
        reserved = omega (arith, ap length moved, all, next, inv.reserved, c.move_to.ensures.capacity);
        fits = omega (arith, ap length moved, all, inv.log.fits, pages_few p.frontier p.laid inv.log.waits);
        before = subst (AllByRecursion (IsEarlierPlace page)) (sym moved) (laid_before put);
        waits = subst (IsWaiting page) (sym c.swap.ensures.x_after) inv.waits;
        sound = subst (λ (b : BodyBatch). AllByRecursion (IsBody p.header.shape.version) (waiting page b)) (sym c.swap.ensures.x_after) inv.sound;
        front = λ told. subst (λ (ps : List BodyPlace). IsFront p.header (bodies_at (g.D.Disk.content new).seen ps) page (g.D.Disk.content new).seen) (sym moved) (committed_front put new told (stored told));
        at_rest = λ told none. committed_closed put new told (stored told);
        dropped = λ at is. absurd cc;
        torn = λ told at is. absurd cc;
      };
      within = omega (arith, ap length moved, all, next, empty, inv.within);
      reserved = omega (arith, ap length moved, all, next, empty, inv.reserved, c.move_to.ensures.capacity);
      waits = subst (IsWaiting (page + c.swap.new.x.pages)) (sym c.swap.ensures.y_after) (c.move_to.ensures.waits p.frontier (page + c.swap.new.x.pages) inv.log.waits);
      sound = none_sound p.header.shape.version (page + c.swap.new.x.pages) c.swap.new.y (ap (λ (b : BodyBatch). b.places.items) c.swap.ensures.y_after ∙ c.move_to.ensures.none);
      stands = λ told none. subst (λ (b : BodyBatch). AreLaid page (waiting page b) (g.D.Disk.content new).seen) (sym c.swap.ensures.x_after) (committed_laid put new told (stored told));
      none_waits = λ at is. absurd cc;
    }

pub returns-clause-committed : goal.returns-clause-committed
returns-clause-committed g c =
    let new = c.store_ahead.new.disk in
    let put = is_commit c.self.invariant (ap (λ v. v.laid) c.self.view_is) (ap (λ v. v.batch) c.self.view_is) c.requires.some c.deref.ensures.value c.has_bodies-opens.ensures in
    let inv = c.self.invariant in
    let p = c.self.inside in
    let moved = c.move_to.ensures.moved in
    let all = length-append p.places.items p.laid.places.items in
    let empty : length c.swap.new.y.places.items ≡ 0 = ap (λ (b : BodyBatch). length b.places.items) c.swap.ensures.y_after ∙ ap length c.move_to.ensures.none in
    let next : length c.swap.new.x.places.items ≡ length p.batch.places.items = ap (λ (b : BodyBatch). length b.places.items) c.swap.ensures.x_after in
    let seen = (g.D.Disk.content new).seen in
    rw (← c.self.view_is) (
      omega (arith, length-bodies_at seen c.move_to.new.places.items, ap length moved, all, length-bodies_at (g.D.Disk.content p.disk).seen p.places.items, length-map p.laid.places.items (waiting_at p.frontier p.laid.bytes.items)),
      ap (waiting (p.frontier + p.laid.pages)) c.swap.ensures.x_after,
      commit_runs put,
      omega (arith, ap length moved, all, empty, next, c.move_to.ensures.capacity),
    )

pub returns-clause-acknowledged : goal.returns-clause-acknowledged
returns-clause-acknowledged g c =
    let new = c.store_ahead.new.disk in
    let put = is_commit c.self.invariant (ap (λ v. v.laid) c.self.view_is) (ap (λ v. v.batch) c.self.view_is) c.requires.some c.deref.ensures.value c.has_bodies-opens.ensures in
    let moved = c.move_to.ensures.moved in
    rw (← c.self.view_is) (λ told. (
      ap (bodies_at (g.D.Disk.content new).seen) moved ∙ committed_bodies put new told (c.in-Ok.ensures.stored told),
      (committed_closed put new told (c.in-Ok.ensures.stored told)).durable,
      subst (λ (ps : List BodyPlace). Holds c.self.inside.header (bodies_at (g.D.Disk.content new).seen ps) (g.D.Disk.content new).seen) (sym moved) (committed_log put new told (c.in-Ok.ensures.stored told)),
    ))
