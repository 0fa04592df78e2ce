-- A log with a batch laid down behind its gate: what a crash leaves while that gate is opened and the next batch is laid down, and what stands then.
use Rattle.std.proofs.Common.{◌≡◌, inl, inr, ℕ, ◌+◌, ◌*◌, ◌<◌, ◌≤◌, Bool, true, false, List, [], ◌∷◌, ◌++◌, length, take, drop, get_or, None, refl, sym, ◌∙◌, ap, subst, arith, append_assoc, append-nil, length-take, length-drop, length-append, take-append-drop, get_or-take, get_or-drop}
use Rattle.std.specs.Prelude.{◌↔◌, IsTrue}
use Rattle.std.proofs.lemmas.Bool.{cases_lt, false≢true}
use Rattle.std.specs.List.{AllByRecursion}
use Rattle.std.proofs.lemmas.List.{ext_get_or, take_at, drop_at, drop_more, drop-drop, take-take, length-map}
use Rattle.hy_formats.specs.declared.header.Header.{Header}
use Rattle.hy_formats.specs.LogFormat.{IsBody, open_gate, places_of}
use Rattle.hy_formats.specs.LogDevice.{IsFront, pages_in, Holds}
use Rattle.hy_disk.specs.Content.{Content, settled, overwritten}
use Rattle.hy_disk.proofs.Images.{torn_overwritten}
use Rattle.hy_pages.proofs.Fronts.{front_is_kept}
use Rattle.hy_log.specs.declared.place.BodyPlace.{BodyPlace}
use Rattle.hy_log.specs.declared.log.PageLog.TheInside.{Inside}
use Rattle.hy_log.specs.Ahead.{IsAhead, gate_byte}
use Rattle.hy_log.specs.Batches.{staged, waiting, waiting_at}
use Rattle.hy_log.specs.Gates.{IsClosedAt, gate_opened}
use Rattle.hy_log.specs.Logs.{IsLog}
use Rattle.hy_log.specs.Pipelined.{AreLaid}
use Rattle.hy_log.specs.RecordPlaces.{bodies_at, IsEarlierPlace}
use Rattle.hy_log.specs.View.{HoldsUpTo}
use Rattle.hy_log.proofs.Appending.{kept_holds, gate_read, same_bodies, length-bodies_at}
use Rattle.hy_log.proofs.Batches.{staged_size}
use Rattle.hy_log.proofs.Logs.{IsPut, grown_bodies, grown_is_front, grown_closed}

-- ---- lists that agree at each place

take_same : (n : ℕ) (a b : List ℕ) → n ≤ length a → n ≤ length b → ((i : ℕ) → i < n → get_or a i 0 ≡ get_or b i 0) → take n a ≡ take n b
take_same n a b long_a long_b same =
    ext_get_or 0 (take n a) (take n b) (omega (arith, length-take n a, length-take n b, long_a, long_b)) (λ i low.
    let below : i < n = omega (arith, low, length-take n a) in
    get_or-take n a i 0 below ∙ same i below ∙ sym (get_or-take n b i 0 below))

part_same : (k n : ℕ) (a b : List ℕ) → k + n ≤ length a → k + n ≤ length b → ((i : ℕ) → k ≤ i → i < k + n → get_or a i 0 ≡ get_or b i 0) → take n (drop k a) ≡ take n (drop k b)
part_same k n a b long_a long_b same =
    take_same n (drop k a) (drop k b) (omega (arith, length-drop k a, long_a)) (omega (arith, length-drop k b, long_b)) (λ i low.
    get_or-drop k a i 0 ∙ same (k + i) (omega arith) (omega (arith, low)) ∙ sym (get_or-drop k b i 0))

-- ---- what a crash leaves

pub ahead_front : (opens : Bool) (gate next : ℕ) (seen image : List ℕ) → gate ≤ next → next < length seen → IsAhead opens gate next seen image → take gate image ≡ take gate seen
ahead_front opens gate next seen image order within ahead =
    take_same gate image seen (omega (arith, order, ahead.within)) (omega (arith, order, within)) (λ i low. ahead.same i (omega (arith, low, order)) (λ told is. absurd (omega (arith, low, is))))

module _ (s : Header) (bodies : List (List ℕ)) (page : ℕ) (seen : List ℕ) (front : IsFront s bodies page seen) (within : 256 * page < length seen) (shut : get_or seen (256 * page) 0 ≡ 0) where
  -- nothing is laid down
  pub unopened : (next : ℕ) (image : List ℕ) → 256 * page ≤ next → next < length seen → IsAhead false (256 * page) next seen image → Holds s bodies image
  unopened next image order there ahead =
      kept_holds s bodies page seen front within shut image
      (take_same (256 * page + 1) image seen (omega (arith, order, ahead.within)) (omega (arith, within)) (λ i low. ahead.same i (omega (arith, low, order)) (λ told. absurd cc)))

  -- a batch is laid down
  module _ (batch : List (List ℕ)) (some : 1 ≤ length batch) (few : length batch ≤ 8) (placed : length bodies + length batch ≤ (places_of s)) (sound : AllByRecursion (IsBody s.shape.version) batch) (laid : AreLaid page batch seen) where
    laid_part : take (256 * pages_in batch) (drop (256 * page + 1) seen) ≡ staged batch
    laid_part = ap (take (256 * pages_in batch)) laid.stands ∙ take_at (staged batch) laid.behind (256 * pages_in batch) (staged_size batch)

    pub laid_long : 256 * page + 256 * pages_in batch < length seen
    laid_long = omega (arith, within, length-drop (256 * page + 1) seen, ap length laid.stands, length-append (staged batch) laid.behind, staged_size batch)

    pub opened : (next : ℕ) (image : List ℕ) → next ≡ 256 * page + 256 * pages_in batch → IsAhead true (256 * page) next seen image → HoldsUpTo s bodies batch image
    opened next image next_is ahead =
        let gate = 256 * page in
        let n = 256 * pages_in batch in
        let long = laid_long in
        let there : next < length seen = omega (arith, next_is, long) in
        let here : gate < length image = omega (arith, next_is, ahead.within) in
        let before : take gate image ≡ take gate seen = ahead_front true gate next seen image (omega (arith, next_is)) there ahead in
        let part : take n (drop (gate + 1) image) ≡ staged batch =
        part_same (gate + 1) n image seen (omega (arith, next_is, ahead.within)) (omega (arith, long)) (λ i low high. ahead.same i (omega (arith, high, next_is)) (λ told is. absurd (omega (arith, low, is)))) ∙ laid_part in
        let rest = drop n (drop (gate + 1) image) in
        gate_read s bodies page seen front within shut batch some few placed sound image (get_or image gate 0) rest
        (sym (take-append-drop gate image) ∙ (λ i. before i ++ drop_more image gate 0 here i)
        ∙ ap (λ (l : List ℕ). take gate seen ++ get_or image gate 0 ∷ l) (sym (take-append-drop n (drop (gate + 1) image)) ∙ ap (λ (l : List ℕ). l ++ rest) part))

    -- to open the gate is to put the batch behind an open gate
    pub opened_stored : overwritten seen (256 * page) (open_gate ∷ []) ≡ gate_opened (256 * page) (staged batch) seen
    opened_stored =
        let gate = 256 * page in
        let size = length (staged batch) in
        let junk : drop (gate + 1 + size) seen ≡ laid.behind = sym (drop-drop size (gate + 1) seen) ∙ ap (drop size) laid.stands ∙ drop_at (staged batch) laid.behind size refl in
        append_assoc (take gate seen) (open_gate ∷ []) (drop (gate + 1) seen) ∙ ap (λ (l : List ℕ). take gate seen ++ open_gate ∷ l) (laid.stands ∙ ap (λ (l : List ℕ). staged batch ++ l) (sym junk))

-- ---- what stands

-- Bodies stand up to a page, whose gate is closed.
pub record IsGrown (s : Header) (places : List BodyPlace) (bodies : List (List ℕ)) (page : ℕ) (seen : List ℕ) : Type 0 where
  pub are : bodies_at seen places ≡ bodies
  pub front : IsFront s bodies page seen
  pub within : 256 * page < length seen
  pub shut : get_or seen (256 * page) 0 ≡ 0

module _ (s : Header) (places : List BodyPlace) (bodies : List (List ℕ)) (page : ℕ) (seen : List ℕ) (grown : IsGrown s places bodies page seen) (before : AllByRecursion (IsEarlierPlace page) places) (piece : List ℕ) where
  abbrev behind : List ℕ
  behind = overwritten seen (256 * page + 1) piece

  same_gate : take (256 * page + 1) behind ≡ take (256 * page + 1) seen
  same_gate = (torn_overwritten (256 * page + 1) piece seen (omega (arith, grown.within))).before

  same_before : take (256 * page) behind ≡ take (256 * page) seen
  same_before =
      let gate = 256 * page in
      sym (take-take gate (gate + 1) behind (omega arith)) ∙ ap (take gate) same_gate ∙ take-take gate (gate + 1) seen (omega arith)

  longer : length seen ≤ length behind
  longer = (torn_overwritten (256 * page + 1) piece seen (omega (arith, grown.within))).no_shorter

  -- bytes behind the gate change nothing before them
  pub laid_behind : IsGrown s places bodies page behind
  laid_behind =
      let gate = 256 * page in
      record {
        are = same_bodies page behind seen places same_before before ∙ grown.are;
        front = front_is_kept s bodies page seen behind grown.front (omega (arith, grown.within, longer)) same_before;
        within = omega (arith, grown.within, longer);
        shut = sym (get_or-take (gate + 1) behind gate 0 (omega arith)) ∙ ap (λ (l : List ℕ). get_or l gate 0) same_gate ∙ get_or-take (gate + 1) seen gate 0 (omega arith) ∙ grown.shut;
      }

  pub laid_stands : drop (256 * page + 1) behind ≡ piece ++ drop (256 * page + 1 + length piece) seen
  laid_stands =
      let from = 256 * page + 1 in
      let rest = drop (from + length piece) seen in
      ap (drop from) (append_assoc (take from seen) piece rest) ∙ drop_at (take from seen) (piece ++ rest) from (omega (arith, length-take from seen, grown.within))

  pub laid_holds : Holds s bodies behind
  laid_holds = kept_holds s bodies page seen grown.front grown.within grown.shut behind same_gate

-- ---- a log

-- the same log on a device that is its content
pub lowered : {D : Type 0} {tells : Bool} {content : D → Content} {inside : Inside D} → IsLog tells content inside
    → IsLog {D = Content} tells (λ c. c) (record { disk = content inside.disk; header = inside.header; places = inside.places; frontier = inside.frontier; batch = inside.batch; stopped = inside.stopped })
lowered log = record {
  good = log.good;
  within = log.within;
  reserved = log.reserved;
  fits = log.fits;
  before = log.before;
  waits = log.waits;
  sound = log.sound;
  front = log.front;
  at_rest = log.at_rest;
  dropped = log.dropped;
  torn = log.torn;
}

module _ {D : Type 0} {tells : Bool} {content : D → Content} {inside : Inside D} (log : IsLog tells content inside) (told : IsTrue tells) (running : inside.stopped ≡ None) (laid : AreLaid inside.frontier (waiting inside.frontier inside.batch) (content inside.disk).seen) where
  abbrev seen : List ℕ
  seen = (content inside.disk).seen

  abbrev old : List (List ℕ)
  old = bodies_at seen inside.places.items

  abbrev batch : List (List ℕ)
  batch = waiting inside.frontier inside.batch

  count : length batch ≡ length inside.batch.places.items
  count = length-map inside.batch.places.items (waiting_at inside.frontier inside.batch.bytes.items)

  abbrev gate : ℕ
  gate = 256 * inside.frontier

  rest : IsClosedAt gate (content inside.disk)
  rest = log.at_rest told running

  -- something is laid down: its gate is opened
  grown_some : 1 ≤ length batch → IsGrown inside.header (inside.places.items ++ inside.batch.places.items) (old ++ batch) (inside.frontier + inside.batch.pages) (overwritten seen gate (open_gate ∷ []))
  grown_some some =
      let piece : List ℕ = take (256 * inside.batch.pages) inside.batch.bytes.items in
      let low = lowered log in
      let mid : Content = settled (gate_opened gate piece seen) in
      let put : IsPut {D = Content} tells (λ c. c) (record { disk = content inside.disk; header = inside.header; places = inside.places; frontier = inside.frontier; batch = inside.batch; stopped = inside.stopped }) piece = record { log = low; some = some; is = refl } in
      let is : gate_opened gate piece seen ≡ overwritten seen gate (open_gate ∷ []) =
      ap (λ (p : List ℕ). gate_opened gate p seen) log.waits.spelled ∙ sym (opened_stored inside.header old inside.frontier seen (log.front told) rest.within rest.closed batch some (omega (arith, count, log.waits.few)) (placed some) log.sound laid) in
      let closed = grown_closed put mid told refl in
      let are = grown_bodies put mid told refl in
      subst (IsGrown inside.header (inside.places.items ++ inside.batch.places.items) (old ++ batch) (inside.frontier + inside.batch.pages)) is
      (record {
        are = are;
        front = subst (λ (bs : List (List ℕ)). IsFront inside.header bs (inside.frontier + inside.batch.pages) (gate_opened gate piece seen)) are (grown_is_front put mid told refl);
        within = closed.within;
        shut = closed.closed;
      })
    where
      placed : 1 ≤ length batch → length old + length batch ≤ (places_of inside.header)
      placed some = omega (arith, log.within, count, length-bodies_at seen inside.places.items)

  -- nothing is
  grown_none : length batch ≡ 0 → IsGrown inside.header (inside.places.items ++ inside.batch.places.items) (old ++ batch) (inside.frontier + inside.batch.pages) (overwritten seen gate [])
  grown_none none =
      let no_places : inside.batch.places.items ≡ [] = empty inside.batch.places.items (omega (arith, none, count)) in
      let no_bodies : batch ≡ [] = empty batch none in
      let no_pages : inside.batch.pages ≡ 0 = log.waits.pages ∙ ap pages_in no_bodies in
      let same : overwritten seen gate [] ≡ seen = ap (λ (l : List ℕ). l ++ drop (gate + 0) seen) (append-nil (take gate seen)) ∙ ap (λ (n : ℕ). take gate seen ++ drop n seen) (plus_zero gate) ∙ take-append-drop gate seen in
      let page : inside.frontier ≡ inside.frontier + inside.batch.pages = omega (arith, no_pages) in
      let places : inside.places.items ≡ inside.places.items ++ inside.batch.places.items = sym (append-nil inside.places.items) ∙ ap (λ (ps : List BodyPlace). inside.places.items ++ ps) (sym no_places) in
      let bodies : old ≡ old ++ batch = sym (append-nil old) ∙ ap (λ (bs : List (List ℕ)). old ++ bs) (sym no_bodies) in
      let here : IsGrown inside.header inside.places.items old inside.frontier seen = record { are = refl; front = log.front told; within = rest.within; shut = rest.closed } in
      subst (λ (ps : List BodyPlace). IsGrown inside.header ps (old ++ batch) (inside.frontier + inside.batch.pages) (overwritten seen gate [])) places
      (subst (λ (bs : List (List ℕ)). IsGrown inside.header inside.places.items bs (inside.frontier + inside.batch.pages) (overwritten seen gate [])) bodies
      (subst (λ (n : ℕ). IsGrown inside.header inside.places.items old n (overwritten seen gate [])) page
      (subst (IsGrown inside.header inside.places.items old inside.frontier) (sym same) here)))
    where
      empty : {X : Type 0} (xs : List X) → length xs ≡ 0 → xs ≡ []
      empty [] is = refl
      empty (x ∷ xs) is = absurd (omega (arith, is))

      plus_zero : (n : ℕ) → n + 0 ≡ n
      plus_zero n = omega arith

  -- by whether the gate is to be opened
  pub grown_by : (opens : Bool) → IsTrue opens ↔ (1 ≤ length inside.batch.places.items) → IsGrown inside.header (inside.places.items ++ inside.batch.places.items) (old ++ batch) (inside.frontier + inside.batch.pages) (overwritten seen gate (gate_byte opens))
  grown_by true is = grown_some (omega (arith, count, is.0 refl))
  grown_by false is = elim (cases_lt 0 (length inside.batch.places.items)) [
    | inl some ↦ absurd (false≢true (is.1 (omega (arith, some))))
    | inr none ↦ grown_none (omega (arith, count, none))
  ]

  pub next_within : gate + 256 * inside.batch.pages < length seen
  next_within = omega (arith, log.waits.pages, rest.within, length-drop (gate + 1) seen, ap length laid.stands, length-append (staged batch) laid.behind, staged_size batch)

  pub left_by : (opens : Bool) → IsTrue opens ↔ (1 ≤ length inside.batch.places.items) → (image : List ℕ) → IsAhead opens gate (gate + 256 * inside.batch.pages) seen image → HoldsUpTo inside.header old batch image
  left_by true is image ahead =
      opened inside.header old inside.frontier seen (log.front told) rest.within rest.closed batch (omega (arith, count, is.0 refl)) (omega (arith, count, log.waits.few)) (omega (arith, log.within, count, length-bodies_at seen inside.places.items)) log.sound laid
      (gate + 256 * inside.batch.pages) image (omega (arith, log.waits.pages)) ahead
  left_by false is image ahead = inl (unopened inside.header old inside.frontier seen (log.front told) rest.within rest.closed (gate + 256 * inside.batch.pages) image (omega arith) next_within ahead)
