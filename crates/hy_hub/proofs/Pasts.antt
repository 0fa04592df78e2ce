-- What a crash since the hub was made might have left, as the log goes on.
use Rattle.std.proofs.Common.{◌≡◌, ℕ, ◌≤◌, List, [], ◌++◌, length, map, take, ap, sym, ◌∙◌, subst, inl, inr, ⊎_elim, arith, length-append}
use Rattle.std.proofs.lemmas.List.{append-nil, map-append, take-append-le}
use Rattle.std.proofs.Math.Seq.{take-append_seam}
use Rattle.hy_formats.specs.declared.header.Header.{Header}
use Rattle.hy_base.specs.declared.record.EntryKind.{EntryKind}
use Rattle.hy_formats.specs.EntryFormat.{spelling}
use Rattle.hy_formats.specs.LogDevice.{Holds}
use Rattle.hy_disk.specs.Moments.{LeavesOnly}
use Rattle.hy_log.specs.View.{HoldsUpTo}
use Rattle.hy_disk.specs.Moments.{LeavesSince}
use Rattle.hy_hub.specs.Past.{HoldsSome, HasStood}

module _ {D : Type 0} {moment : D → ℕ} {left_since : D → ℕ → List ℕ → Type 0} {at : ℕ} {left : ℕ → List ℕ → Type 0} where
  -- what has P has Q
  pub since_weaker : {now : D} {P Q : List ℕ → Type 0} → ((image : List ℕ) → P image → Q image) → LeavesSince moment left_since at left now P → LeavesSince moment left_since at left now Q
  since_weaker {now} {P} {Q} more was = record {
    later = was.later;
    each = λ image is. more image (was.each image is);
    before = λ t image early is. ⊎_elim (λ (l : left t image). inl l) (λ (p : P image). inr (more image p)) (was.before t image early is);
  }

  -- a call on the device goes on from there
  pub since_more : {mid now : D} {P R Q : List ℕ → Type 0} → ((image : List ℕ) → P image → Q image) → ((image : List ℕ) → R image → Q image) → LeavesSince moment left_since at left mid P → LeavesOnly moment left_since mid now R → LeavesSince moment left_since at left now Q
  since_more {mid} {now} {P} {R} {Q} past call was goes = record {
    later = let first = was.later in let then = goes.later in omega (arith, first, then);
    each = λ image is. ⊎_elim (λ (m : left_since mid at image). past image (was.each image m)) (λ (r : R image). call image r) (goes.before at image was.later is);
    before = λ t image early is. ⊎_elim
        (λ (m : left_since mid t image). ⊎_elim (λ (l : left t image). inl l) (λ (p : P image). inr (past image p)) (was.before t image early m))
        (λ (r : R image). inr (call image r))
        (goes.before t image (let first = was.later in omega (arith, early, first)) is);
  }

-- the list as it is
pub stood_whole : (h : Header) (least : ℕ) (entries : List EntryKind) → least ≤ length entries → (image : List ℕ) → Holds h (map (spelling h.shape.version) entries) image → HoldsSome h least entries image
stood_whole h least entries few image is =
    let all : take (length entries) entries ≡ entries = ap (take (length entries)) (sym (append-nil entries)) ∙ take-append_seam entries [] in
    record { count = length entries; no_fewer = few; no_more = omega arith; holds = subst (λ (l : List EntryKind). Holds h (map (spelling h.shape.version) l) image) (sym all) is }

pub stood_now : (h : Header) (least : ℕ) (entries : List EntryKind) → least ≤ length entries → (image : List ℕ) → Holds h (map (spelling h.shape.version) entries) image → HasStood h least entries [] image
stood_now h least entries few image is = inl (stood_whole h least entries few image is)

-- the first so many are the first so many of more
some_more : (h : Header) (least : ℕ) (entries batch : List EntryKind) (image : List ℕ) → HoldsSome h least entries image → HoldsSome h least (entries ++ batch) image
some_more h least entries batch image is =
    let size = length-append entries batch in
    let within = is.no_more in
    record { count = is.count; no_fewer = is.no_fewer; no_more = omega (arith, size, within); holds = subst (λ (l : List EntryKind). Holds h (map (spelling h.shape.version) l) image) (sym (take-append-le is.count entries batch is.no_more)) is.holds }

-- as what stood is part of a longer list, or a batch may stand behind it
module _ (h : Header) (least : ℕ) (entries batch : List EntryKind) (few : least ≤ length entries) (image : List ℕ) where
  some_of : HasStood h least entries [] image → HoldsSome h least entries image
  some_of = ⊎_elim (λ (is : HoldsSome h least entries image). is) (λ (is : Holds h (map (spelling h.shape.version) (entries ++ [])) image). stood_whole h least entries few image (subst (λ (l : List EntryKind). Holds h (map (spelling h.shape.version) l) image) (append-nil entries) is))

  pub stood_longer : HasStood h least entries [] image → HasStood h least (entries ++ batch) [] image
  stood_longer is = inl (some_more h least entries batch image (some_of is))

  pub stood_torn : HasStood h least entries [] image → HasStood h least entries batch image
  stood_torn is = inl (some_of is)

  pub upto_longer : HoldsUpTo h (map (spelling h.shape.version) entries) (map (spelling h.shape.version) batch) image → HasStood h least (entries ++ batch) [] image
  upto_longer = ⊎_elim
      (λ (is : Holds h (map (spelling h.shape.version) entries) image). inl (some_more h least entries batch image (stood_whole h least entries few image is)))
      (λ (is : Holds h (map (spelling h.shape.version) entries ++ map (spelling h.shape.version) batch) image). stood_now h least (entries ++ batch) (let size = length-append entries batch in omega (arith, size, few)) image (subst (λ (l : List (List ℕ)). Holds h l image) (sym (map-append (spelling h.shape.version) entries batch)) is))

  pub upto_torn : HoldsUpTo h (map (spelling h.shape.version) entries) (map (spelling h.shape.version) batch) image → HasStood h least entries batch image
  upto_torn = ⊎_elim
      (λ (is : Holds h (map (spelling h.shape.version) entries) image). inl (stood_whole h least entries few image is))
      (λ (is : Holds h (map (spelling h.shape.version) entries ++ map (spelling h.shape.version) batch) image). inr (subst (λ (l : List (List ℕ)). Holds h l image) (sym (map-append (spelling h.shape.version) entries batch)) is))
