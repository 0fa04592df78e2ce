-- A pipelined log, seen by its fields, while what is laid down is committed.
use Rattle.std.proofs.Common.{◌≡◌, ℕ, ◌+◌, ◌*◌, ◌<◌, ◌≤◌, Bool, true, false, List, [], ◌∷◌, ◌++◌, length, take, drop, Option, Some, None, refl, sym, ◌∙◌, ap, subst, arith}
use Rattle.std.specs.Prelude.{◌↔◌, IsTrue, map}
use Rattle.std.specs.List.{AllByRecursion}
use Rattle.std.proofs.lemmas.List.{length-map}
use Rattle.hy_base.proofs.ListLemmas.{all_append}
use Rattle.hy_formats.specs.LogDevice.{IsFront, pages_in, Holds}
use Rattle.hy_disk.specs.Content.{Content, Image, settled, overwritten}
use Rattle.hy_disk.specs.Moments.{LeavesOnly}
use Rattle.hy_disk.proofs.Moments.{weaker}
use Rattle.std.proofs.lemmas.Bool.{false≢true}
use Rattle.hy_pages.proofs.Fronts.{front_is_kept, fewer_than_pages}
use Rattle.hy_log.specs.declared.batch.BodyBatch.{BodyBatch}
use Rattle.hy_log.specs.declared.place.BodyPlace.{BodyPlace}
use Rattle.hy_log.specs.declared.pipelined.PipelinedLog.TheInside.{Inside}
use Rattle.hy_log.specs.Ahead.{IsAhead, gate_byte, one_if, stored_ahead}
use Rattle.hy_log.specs.Batches.{staged, waiting, waiting_at}
use Rattle.hy_log.specs.Gates.{IsClosedAt}
use Rattle.hy_log.specs.Pipelined.{AreLaid, IsPipelined}
use Rattle.hy_log.specs.RecordPlaces.{bodies_at, IsEarlierPlace}
use Rattle.hy_log.specs.View.{HoldsUpTo, LeavesUpTo}
use Rattle.hy_log.proofs.Appending.{same_bodies, later_before}
use Rattle.hy_log.proofs.Batches.{slice_size, all_before}
use Rattle.hy_log.proofs.Pipelining.{IsGrown, ahead_front, grown_by, left_by, next_within, laid_behind, laid_stands, laid_holds}

-- These bytes are to be laid down, and the gate is to be opened just where something is laid down.
pub record IsCommit {D : Type 0} (tells : Bool) (content : D → Content) (p : Inside D) (opens : Bool) (bytes : List ℕ) : Type 0 where
  pub pipe : IsPipelined tells content p
  pub some : 1 ≤ length (waiting p.frontier p.laid) + length (waiting (p.frontier + p.laid.pages) p.batch)
  pub is : bytes ≡ take (256 * p.batch.pages) p.batch.bytes.items
  pub opens_is : IsTrue opens ↔ (1 ≤ length p.laid.places.items)

-- so it is with what a commit takes of a buffer
pub is_commit : {D : Type 0} {tells : Bool} {content : D → Content} {p : Inside D} {opens : Bool} {laid batch : List (List ℕ)} {items : List ℕ} → IsPipelined tells content p → waiting p.frontier p.laid ≡ laid → waiting (p.frontier + p.laid.pages) p.batch ≡ batch → 1 ≤ length laid + length batch → items ≡ p.batch.bytes.items
    → IsTrue opens ↔ (1 ≤ length p.laid.places.items) → IsCommit tells content p opens (take (256 * p.batch.pages) items)
is_commit {p = p} pipe laid_is batch_is some same opens_is = record { pipe = pipe; some = omega (arith, some, ap length laid_is, ap length batch_is); is = ap (take (256 * p.batch.pages)) same; opens_is = opens_is }

waiting_count : (page : ℕ) (wait : BodyBatch) → length (waiting page wait) ≡ length wait.places.items
waiting_count page wait = length-map wait.places.items (waiting_at page wait.bytes.items)

one_if_same : {X Y : Type 0} (xs : List X) (ys : List Y) → (1 ≤ length xs → 1 ≤ length ys) → (1 ≤ length ys → 1 ≤ length xs) → one_if xs ≡ one_if ys
one_if_same [] [] there back = refl
one_if_same [] (y ∷ ys) there back = absurd (let none = back (omega arith) in omega (arith, none))
one_if_same (x ∷ xs) [] there back = absurd (let none = there (omega arith) in omega (arith, none))
one_if_same (x ∷ xs) (y ∷ ys) there back = refl

some_pages : (bodies : List (List ℕ)) → 1 ≤ 256 * pages_in bodies → 1 ≤ length bodies
some_pages [] some = absurd (omega (arith, some))
some_pages (body ∷ bodies) some = omega arith

gates_are : (opens : Bool) (laid : List (List ℕ)) → IsTrue opens ↔ (1 ≤ length laid) → (one_if laid ≡ one_if (gate_byte opens)) × (one_if laid ≡ length (gate_byte opens))
gates_are true [] is = absurd (let some = is.0 refl in omega (arith, some))
gates_are true (x ∷ laid) is = (refl, refl)
gates_are false [] is = (refl, refl)
gates_are false (x ∷ laid) is = absurd (false≢true (is.1 (omega arith)))

is_both : (opens : Bool) (m n : ℕ) → IsTrue opens ↔ (1 ≤ m) → n ≡ m → IsTrue opens ↔ (1 ≤ n)
is_both opens m n is same = (λ told. let some = is.0 told in omega (arith, some, same), λ some. is.1 (omega (arith, some, same)))

byte_count : (b m n i j : ℕ) → m ≡ n → i ≡ j → b + m + i ≡ b + n + j
byte_count b m n i j one two = omega (arith, one, two)

runs_by : (stopped_at : Option ℕ) (m n : ℕ) → ((at : ℕ) → stopped_at ≡ Some at → (m ≡ 0) × (n ≡ 0)) → 1 ≤ m + n → stopped_at ≡ None
runs_by None m n dropped some = refl
runs_by (Some at) m n dropped some = let none = dropped at refl in absurd (omega (arith, some, none.0, none.1))

module _ {D : Type 0} {tells : Bool} {content : D → Content} {p : Inside D} {opens : Bool} {bytes : List ℕ} (put : IsCommit tells content p opens bytes) where
  pub commit_runs : p.stopped ≡ None
  commit_runs =
      runs_by p.stopped (length (waiting p.frontier p.laid)) (length (waiting (p.frontier + p.laid.pages) p.batch))
      (λ at is. (waiting_count p.frontier p.laid ∙ ap length (put.pipe.log.dropped at is), waiting_count (p.frontier + p.laid.pages) p.batch ∙ ap length (put.pipe.none_waits at is))) put.some

  -- they are whole pages
  pub commit_size : 256 * pages_in (waiting (p.frontier + p.laid.pages) p.batch) ≡ length bytes
  commit_size = slice_size (p.frontier + p.laid.pages) p.batch bytes put.pipe.waits put.is

  pub bytes_are : bytes ≡ staged (waiting (p.frontier + p.laid.pages) p.batch)
  bytes_are = put.is ∙ put.pipe.waits.spelled

  pub laid_before : AllByRecursion (IsEarlierPlace (p.frontier + p.laid.pages)) (p.places.items ++ p.laid.places.items)
  laid_before =
      let end = p.frontier + p.laid.pages in
      all_append (IsEarlierPlace end) p.places.items p.laid.places.items (later_before p.frontier p.laid.pages p.places.items put.pipe.log.before) (all_before p.frontier end p.laid.places.items put.pipe.log.waits.placed)

  -- how many calls it makes
  pub commit_room : (has_room : D → ℕ → ℕ → Type 0) (k b : ℕ) → has_room p.disk (k + 1 + one_if (waiting (p.frontier + p.laid.pages) p.batch) + one_if (waiting p.frontier p.laid)) (b + 256 * pages_in (waiting (p.frontier + p.laid.pages) p.batch) + one_if (waiting p.frontier p.laid))
      → has_room p.disk (k + 1 + one_if bytes + one_if (gate_byte opens)) (b + length bytes + length (gate_byte opens))
  commit_room has_room k b room =
      let batch = waiting (p.frontier + p.laid.pages) p.batch in
      let writes : one_if batch ≡ one_if bytes = one_if_same batch bytes (λ some. omega (arith, some, commit_size, fewer_than_pages batch)) (λ some. some_pages batch (omega (arith, some, commit_size))) in
      let gates = gates_are opens (waiting p.frontier p.laid) (is_both opens (length p.laid.places.items) (length (waiting p.frontier p.laid)) put.opens_is (waiting_count p.frontier p.laid)) in
      subst (λ (n : ℕ). has_room p.disk (k + 1 + one_if bytes + one_if (gate_byte opens)) n) (byte_count b (256 * pages_in batch) (length bytes) (one_if (waiting p.frontier p.laid)) (length (gate_byte opens)) commit_size gates.1)
      (subst (λ (n : ℕ). has_room p.disk n (b + 256 * pages_in batch + one_if (waiting p.frontier p.laid))) (byte_count (k + 1) (one_if batch) (one_if bytes) (one_if (waiting p.frontier p.laid)) (one_if (gate_byte opens)) writes gates.0) room)

module _ {D : Type 0} {tells : Bool} {content : D → Content} {p : Inside D} {opens : Bool} {bytes : List ℕ} (put : IsCommit tells content p opens bytes) (new : D) (told : IsTrue tells) where
  abbrev seen : List ℕ
  seen = (content p.disk).seen

  abbrev gate : ℕ
  gate = 256 * p.frontier

  abbrev next : ℕ
  next = gate + 256 * p.laid.pages

  abbrev old : List (List ℕ)
  old = bodies_at seen p.places.items

  abbrev laid : List (List ℕ)
  laid = waiting p.frontier p.laid

  stands : AreLaid p.frontier laid seen
  stands = put.pipe.stands told (commit_runs put)

  pub commit_within : next < length seen
  commit_within = next_within put.pipe.log told (commit_runs put) stands

  holds : (image : List ℕ) → IsAhead opens gate next seen image → HoldsUpTo p.header old laid image
  holds image ahead = left_by put.pipe.log told (commit_runs put) stands opens put.opens_is image ahead

  pub commit_holds : (moment : D → ℕ) (left_since : D → ℕ → List ℕ → Type 0) → LeavesOnly moment left_since p.disk new (IsAhead opens gate next seen) → LeavesOnly moment left_since p.disk new (HoldsUpTo p.header old laid)
  commit_holds moment left_since run = weaker moment left_since p.disk new _ _ holds run

  -- after a failure
  module _ (images : (image : List ℕ) → Image (content new) image → IsAhead opens gate next seen image) (seen_stays : Image (content new) (content new).seen) where
    ahead : IsAhead opens gate next seen (content new).seen
    ahead = images (content new).seen seen_stays

    before : take gate (content new).seen ≡ take gate seen
    before = ahead_front opens gate next seen (content new).seen (omega arith) commit_within ahead

    pub commit_same : bodies_at (content new).seen p.places.items ≡ old
    commit_same = same_bodies p.frontier (content new).seen seen p.places.items before put.pipe.log.before

    pub commit_failed : (image : List ℕ) → Image (content new) image → HoldsUpTo p.header old laid image
    commit_failed image now = holds image (images image now)

    pub commit_front : IsFront p.header (bodies_at (content new).seen p.places.items) p.frontier (content new).seen
    commit_front =
        subst (λ (bs : List (List ℕ)). IsFront p.header bs p.frontier (content new).seen) (sym commit_same)
        (front_is_kept p.header old p.frontier seen (content new).seen (put.pipe.log.front told) (omega (arith, ahead.within)) before)

    pub commit_torn : LeavesUpTo (content new) p.header (bodies_at (content new).seen p.places.items)
    commit_torn = record {
      batch = laid;
      few = omega (arith, waiting_count p.frontier p.laid, put.pipe.log.waits.few);
      left = λ image now. subst (λ (bs : List (List ℕ)). HoldsUpTo p.header bs laid image) (sym commit_same) (commit_failed image now);
    }

  -- once both are stable
  module _ (stored : content new ≡ settled (stored_ahead opens gate next bytes seen)) where
    abbrev page : ℕ
    page = p.frontier + p.laid.pages

    abbrev places : List BodyPlace
    places = p.places.items ++ p.laid.places.items

    abbrev middle : List ℕ
    middle = overwritten seen gate (gate_byte opens)

    abbrev behind : List ℕ
    behind = overwritten middle (256 * page + 1) bytes

    grown : IsGrown p.header places (old ++ laid) page middle
    grown = grown_by put.pipe.log told (commit_runs put) stands opens put.opens_is

    stored_is : content new ≡ settled behind
    stored_is = let at : next ≡ 256 * page = omega arith in stored ∙ ap (λ (n : ℕ). settled (overwritten middle (n + 1) bytes)) at

    seen_is : (content new).seen ≡ behind
    seen_is = ap (λ (c : Content). c.seen) stored_is

    there : IsGrown p.header places (old ++ laid) page behind
    there = laid_behind p.header places (old ++ laid) page middle grown (laid_before put) bytes

    pub committed_bodies : bodies_at (content new).seen places ≡ old ++ laid
    committed_bodies = ap (λ (b : List ℕ). bodies_at b places) seen_is ∙ there.are

    pub committed_front : IsFront p.header (bodies_at (content new).seen places) page (content new).seen
    committed_front =
        subst (λ (bs : List (List ℕ)). IsFront p.header bs page (content new).seen) (sym committed_bodies)
        (subst (IsFront p.header (old ++ laid) page) (sym seen_is) there.front)

    pub committed_closed : IsClosedAt (256 * page) (content new)
    committed_closed = subst (IsClosedAt (256 * page)) (sym stored_is) (record { durable = refl; within = there.within; closed = there.shut })

    pub committed_log : Holds p.header (bodies_at (content new).seen places) (content new).seen
    committed_log =
        subst (λ (bs : List (List ℕ)). Holds p.header bs (content new).seen) (sym committed_bodies)
        (subst (Holds p.header (old ++ laid)) (sym seen_is) (laid_holds p.header places (old ++ laid) page middle grown (laid_before put) bytes))

    pub committed_laid : AreLaid page (waiting page p.batch) (content new).seen
    committed_laid = record {
      behind = drop (256 * page + 1 + length bytes) middle;
      stands =
          ap (drop (256 * page + 1)) seen_is ∙ laid_stands p.header places (old ++ laid) page middle grown (laid_before put) bytes
          ∙ ap (λ (b : List ℕ). b ++ drop (256 * page + 1 + length bytes) middle) (bytes_are put);
    }

-- ---- a log where nothing is laid down

pub none_waiting : (page : ℕ) (wait : BodyBatch) → wait.places.items ≡ [] → waiting page wait ≡ []
none_waiting page wait none = ap (map (waiting_at page wait.bytes.items)) none

pub no_places : (page : ℕ) (wait : BodyBatch) → waiting page wait ≡ [] → wait.places.items ≡ []
no_places page wait none = empty wait.places.items (sym (waiting_count page wait) ∙ ap length none)
  where
    empty : (xs : List BodyPlace) → length xs ≡ 0 → xs ≡ []
    empty [] is = refl
    empty (x ∷ xs) is = absurd (omega (arith, is))

pub none_laid : (page : ℕ) (bodies : List (List ℕ)) (seen : List ℕ) → bodies ≡ [] → AreLaid page bodies seen
none_laid page bodies seen none = record { behind = drop (256 * page + 1) seen; stands = ap (λ (bs : List (List ℕ)). staged bs ++ drop (256 * page + 1) seen) (sym none) }

-- ---- two commits, one after the other

one_of : {X : Type 0} (xs : List X) → 1 ≤ length xs → one_if xs ≡ 1
one_of [] some = absurd (omega (arith, some))
one_of (x ∷ xs) some = refl

-- the room that is left for the second
pub room_first : {D : Type 0} (has_room : D → ℕ → ℕ → Type 0) (disk : D) (laid batch : List (List ℕ)) (k b : ℕ) → laid ≡ [] → 1 ≤ length batch → has_room disk (k + 4) (b + 1 + 256 * pages_in batch) → has_room disk (k + 2 + 1 + one_if batch + one_if laid) (b + 1 + 256 * pages_in batch + one_if laid)
room_first has_room disk laid batch k b none some has =
    let zero : one_if laid ≡ 0 = ap (λ (xs : List (List ℕ)). one_if xs) none in
    let one = one_of batch some in
    subst (λ (n : ℕ). has_room disk (k + 2 + 1 + one_if batch + one_if laid) n) (bytes (b + 1 + 256 * pages_in batch) (one_if laid) zero) (subst (λ (n : ℕ). has_room disk n (b + 1 + 256 * pages_in batch)) (calls k (one_if batch) (one_if laid) one zero) has)
  where
    calls : (k i j : ℕ) → i ≡ 1 → j ≡ 0 → k + 4 ≡ k + 2 + 1 + i + j
    calls k i j one zero = omega (arith, one, zero)

    bytes : (n j : ℕ) → j ≡ 0 → n ≡ n + j
    bytes n j zero = omega (arith, zero)

pub room_second : {D : Type 0} (has_room : D → ℕ → ℕ → Type 0) (disk : D) (laid batch : List (List ℕ)) (k b : ℕ) → 1 ≤ length laid → batch ≡ [] → has_room disk (k + 2) (b + 1) → has_room disk (k + 1 + one_if batch + one_if laid) (b + 256 * pages_in batch + one_if laid)
room_second has_room disk laid batch k b some none has =
    let zero : one_if batch ≡ 0 = ap (λ (xs : List (List ℕ)). one_if xs) none in
    let no_pages : pages_in batch ≡ 0 = ap pages_in none in
    let one = one_of laid some in
    subst (λ (n : ℕ). has_room disk (k + 1 + one_if batch + one_if laid) n) (bytes b (pages_in batch) (one_if laid) no_pages one) (subst (λ (n : ℕ). has_room disk n (b + 1)) (calls k (one_if batch) (one_if laid) zero one) has)
  where
    calls : (k i j : ℕ) → i ≡ 0 → j ≡ 1 → k + 2 ≡ k + 1 + i + j
    calls k i j zero one = omega (arith, one, zero)

    bytes : (b n j : ℕ) → n ≡ 0 → j ≡ 1 → b + 1 ≡ b + 256 * n + j
    bytes b n j zero one = omega (arith, zero, one)
