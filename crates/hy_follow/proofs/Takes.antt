-- Bytes that a follower takes.
use Rattle.std.proofs.Common.{◌≡◌, ℕ, ◌+◌, ◌<◌, ◌≤◌, true, List, [], ◌∷◌, ◌++◌, length, refl, sym, ap, ◌∙◌, subst, arith, length-append, inl, inr}
use Rattle.std.specs.Prelude.{Option, Some, None, IfSome}
use Rattle.std.specs.Option.{is_some}
use Rattle.std.specs.Int.{w32, from_le_bytes}
use Rattle.std.proofs.lemmas.List.{take-append-le}
use Rattle.std.proofs.lemmas.Bool.{cases_lt}
use Rattle.hy_base.specs.declared.layout.Shape.{Shape}
use Rattle.hy_formats.specs.declared.damage.BadFrame.{BadFrame}
use Rattle.hy_formats.specs.StreamFormat.{Streamed, told_length, judged, taken, came}
use Rattle.hy_roll_laws.specs.Rolling.{Roll}
use Rattle.hy_follow.specs.Following.{Following, HoldsWhatCame, HasFollowed, shape_of}
use Rattle.hy_follow.specs.Steps.{due, HasFrameRoom, IsAwaited, IsJudged, TakesAll, TakesSome, holding, after_judging, after_rolling}
use Rattle.hy_follow.proofs.Streams.{taken-append, came-append, bad_taken, waiting_at, some_taken, few_taken, due_kept, due_low, due_high}
use Rattle.hy_follow.proofs.Judged.{judged_held, judged_ready}
use Rattle.hy_follow.proofs.Rolled.{IsRolledWhole, rolled_held, rolled_ready}

told_same : (w front : List ℕ) → 4 ≤ length w → told_length (w ++ front) ≡ told_length w
told_same w front many = ap (from_le_bytes w32) (take-append-le 4 w front many)

-- ---- bytes up to those that are due

module _ (f : Following) (front : List ℕ) (ready : IsJudged f) (fine : f.bad ≡ None) (within : length f.waiting + length front ≤ due (shape_of f.roll) f.waiting) where
  abbrev next : Following
  next = holding f (f.waiting ++ front)

  size : length (f.waiting ++ front) ≡ length f.waiting + length front
  size = length-append f.waiting front

  due_grows : (s : Option Shape) → length f.waiting + length front ≤ due s f.waiting → length (f.waiting ++ front) ≤ due s (f.waiting ++ front)
  due_grows None within = omega (arith, size, within)
  due_grows (Some s) within = elim (cases_lt (length (f.waiting ++ front)) 4) [
    | inl few ↦ omega (arith, few, due_low s (f.waiting ++ front) few)
    | inr many ↦
        let high : due (Some s) (f.waiting ++ front) ≡ 4 + told_length (f.waiting ++ front) = due_high s (f.waiting ++ front) many in
        elim (cases_lt (length f.waiting) 4) [
          | inl few ↦ omega (arith, size, within, high, due_low s f.waiting few)
          | inr long ↦ omega (arith, size, within, high, due_high s f.waiting long, told_same f.waiting front long)
        ]
  ]

  has_room : (roll : Option Roll) → f.roll ≡ roll → IfSome roll (λ r. 4 ≤ length f.waiting → HasFrameRoom f) → IfSome roll (λ r. 4 < length (f.waiting ++ front) → HasFrameRoom next)
  has_room None is room = tt
  has_room (Some r) is room = λ many. elim (cases_lt (length f.waiting) 4) [
    | inl few ↦ absurd (omega (arith, size, many, within, due_low r.shape f.waiting few, ap (λ (o : Option Roll). due (shape_of o) f.waiting) is))
    | inr long ↦
        let has : HasFrameRoom f = room long in
        let before : due (shape_of f.roll) f.waiting ≡ due (Some r.shape) f.waiting = ap (λ (o : Option Roll). due (shape_of o) f.waiting) is in
        let after : due (shape_of f.roll) (f.waiting ++ front) ≡ due (Some r.shape) (f.waiting ++ front) = ap (λ (o : Option Roll). due (shape_of o) (f.waiting ++ front)) is in
        let high : due (Some r.shape) (f.waiting ++ front) ≡ 4 + told_length (f.waiting ++ front) = due_high r.shape (f.waiting ++ front) (omega (arith, many)) in
        (has.0, omega (arith, has.1, before, after, high, due_high r.shape f.waiting long, told_same f.waiting front long))
  ]

  -- With them it may be judged.
  pub awaited : IsAwaited next
  awaited = record {
    sized = record { good = ready.sized.good; counted = ready.sized.counted; placed = ready.sized.placed };
    within = due_grows (shape_of f.roll) within;
    room = has_room f.roll refl (ready.room fine);
  }

  -- what has come, with them
  abbrev with_front : Streamed → Streamed
  with_front c = waiting_at c.shape c.entries c.place (c.waiting ++ front)

  pub front_held : (c : Streamed) → HoldsWhatCame c f → HoldsWhatCame (with_front c) next
  front_held c h = record { shape = h.shape; rolling = h.rolling; rest = h.rest; place = h.place; waiting = ap (λ (l : List ℕ). l ++ front) h.waiting; bad = fine }

  pub is_fine : (c : Streamed) → HoldsWhatCame c f → c ≡ waiting_at c.shape c.entries c.place c.waiting
  is_fine c h = λ i. record { shape = c.shape; entries = c.entries; place = c.place; waiting = c.waiting; bad = (sym h.bad ∙ fine) i }

  pub due_is : (c : Streamed) → HoldsWhatCame c f → due (shape_of f.roll) f.waiting ≡ due c.shape c.waiting
  due_is c h = λ i. due (h.shape i) (h.waiting i)

  pub front_taken : (c : Streamed) → HoldsWhatCame c f → 0 < length front → taken c front ≡ judged c.shape (with_front c)
  front_taken c h some =
      ap (λ (d : Streamed). taken d front) (is_fine c h) ∙ some_taken c.shape c.entries c.place c.waiting front some (omega (arith, within, due_is c h, ap length h.waiting))

  pub few_kept : (c : Streamed) → HoldsWhatCame c f → length f.waiting + length front < due (shape_of f.roll) f.waiting → taken c front ≡ with_front c
  few_kept c h below =
      ap (λ (d : Streamed). taken d front) (is_fine c h) ∙ few_taken c.shape c.entries c.place c.waiting front (omega (arith, below, due_is c h, ap length h.waiting))

pub front_ready : (f g : Following) (front : List ℕ) → IsJudged f → f.bad ≡ None → length f.waiting + length front ≤ due (shape_of f.roll) f.waiting → g ≡ after_judging (holding f (f.waiting ++ front)) → IsJudged g
front_ready f g front ready fine within is = subst IsJudged (sym is) (judged_ready (holding f (f.waiting ++ front)) (awaited f front ready fine within))

pub takes_front : (f g : Following) (front more bytes : List ℕ) → IsJudged f → f.bad ≡ None → 0 < length front → length f.waiting + length front ≤ due (shape_of f.roll) f.waiting → front ++ more ≡ bytes
    → g ≡ after_judging (holding f (f.waiting ++ front)) → TakesSome f bytes g more
takes_front f g front more bytes ready fine some within whole is c h =
    let d : Streamed = with_front f front ready fine within c in
    let held : HoldsWhatCame (judged c.shape d) (after_judging (holding f (f.waiting ++ front))) = judged_held d (holding f (f.waiting ++ front)) (front_held f front ready fine within c h) (awaited f front ready fine within) in
    let path : taken c bytes ≡ taken (judged c.shape d) more =
    ap (taken c) (sym whole) ∙ (taken-append c front more ∙ ap (λ (e : Streamed). taken e more) (front_taken f front ready fine within c h some)) in
    (judged c.shape d, subst (HoldsWhatCame (judged c.shape d)) (sym is) held, sym path)

-- ---- one after another

pub rolled_takes : (f g : Following) → g ≡ after_rolling f → TakesAll f [] g
rolled_takes f g is c h = subst (HoldsWhatCame c) (sym is) (rolled_held c f h).holds

pub takes_nothing : (f : Following) → TakesAll f [] f
takes_nothing f c h = h

pub takes_all_left : (f : Following) (bytes : List ℕ) → TakesSome f bytes f bytes
takes_all_left f bytes c h = (c, h, refl)

pub takes_on : (f g h : Following) (bytes more left : List ℕ) → TakesSome f bytes g more → TakesSome g more h left → TakesSome f bytes h left
takes_on f g h bytes more left first then_more c held =
    let d = first c held in
    let e = then_more d.0 d.1 in
    (e.0, e.1, e.2 ∙ d.2)

pub takes_before : (f g : Following) (more : List ℕ) → TakesAll f [] g → TakesSome f more g more
takes_before f g more takes c h = (c, takes c h, refl)

takes_bad : (f g : Following) (bytes more : List ℕ) → TakesSome f bytes g more → is_some g.bad ≡ true → TakesAll f bytes g
takes_bad f g bytes more takes bad c h =
    let d = takes c h in
    let same : taken c bytes ≡ d.0 = sym d.2 ∙ bad_taken d.0 more (ap is_some (sym d.1.bad) ∙ bad) in
    subst (λ (e : Streamed). HoldsWhatCame e g) (sym same) d.1

takes_end : (f g : Following) (bytes more : List ℕ) → TakesSome f bytes g more → length more ≡ 0 → TakesAll f bytes g
takes_end f g bytes [] takes none c h = let d = takes c h in subst (λ (e : Streamed). HoldsWhatCame e g) d.2 d.1
takes_end f g bytes (b ∷ more) takes none c h = absurd (omega (arith, none))

-- It goes on until nothing is left, or something was refused.
pub takes_done : (f g : Following) (bytes more : List ℕ) → TakesSome f bytes g more → (g.bad ≡ None → length more ≡ 0) → TakesAll f bytes g
takes_done f g bytes more takes none = by_bad g.bad refl
  where
    by_bad : (o : Option BadFrame) → g.bad ≡ o → TakesAll f bytes g
    by_bad None is = takes_end f g bytes more takes (none is)
    by_bad (Some bad) is = takes_bad f g bytes more takes (ap is_some is)

-- ---- what a follower has followed

followed_as : (d : Streamed) (bytes : List ℕ) (g : Following) → d ≡ came bytes → IsRolledWhole d g → HasFollowed bytes g
followed_as d bytes g is all =
    let same : IsRolledWhole (came bytes) g = subst (λ (e : Streamed). IsRolledWhole e g) is all in
    record { holds = same.holds; whole = same.whole }

pub fed_followed : (bytes piece : List ℕ) (f g h : Following) → TakesAll f piece g → h ≡ after_rolling g → HasFollowed bytes f → HasFollowed (bytes ++ piece) h
fed_followed bytes piece f g h takes is followed =
    followed_as (taken (came bytes) piece) (bytes ++ piece) h (sym (came-append bytes piece)) (subst (IsRolledWhole (taken (came bytes) piece)) (sym is) (rolled_held (taken (came bytes) piece) g (takes (came bytes) followed.holds)))

pub fed_ready : (g h : Following) → IsJudged g → h ≡ after_rolling g → IsJudged h
fed_ready g h ready is = subst IsJudged (sym is) (rolled_ready g ready)

pub bad_followed : (bytes piece : List ℕ) (f : Following) (bad : BadFrame) → f.bad ≡ Some bad → HasFollowed bytes f → HasFollowed (bytes ++ piece) f
bad_followed bytes piece f bad is followed =
    let some : is_some (came bytes).bad ≡ true = ap is_some (sym followed.holds.bad ∙ is) in
    followed_as (came bytes) (bytes ++ piece) f (sym (came-append bytes piece ∙ bad_taken (came bytes) piece some)) (record { holds = followed.holds; whole = followed.whole })

pub kept_followed : (bytes piece : List ℕ) (f g : Following) → IsJudged f → f.bad ≡ None → length f.waiting + length piece < due (shape_of f.roll) f.waiting → g ≡ holding f (f.waiting ++ piece) → HasFollowed bytes f → HasFollowed (bytes ++ piece) g
kept_followed bytes piece f g ready fine below is followed =
    let c : Streamed = came bytes in
    let within : length f.waiting + length piece ≤ due (shape_of f.roll) f.waiting = omega (arith, below) in
    let next : Following = holding f (f.waiting ++ piece) in
    let whole : IsRolledWhole (with_front f piece ready fine within c) next = record { holds = front_held f piece ready fine within c followed.holds; whole = followed.whole } in
    followed_as (with_front f piece ready fine within c) (bytes ++ piece) g (sym (came-append bytes piece ∙ few_kept f piece ready fine within c followed.holds below)) (subst (IsRolledWhole (with_front f piece ready fine within c)) (sym is) whole)

pub kept_ready : (piece : List ℕ) (f g : Following) → IsJudged f → f.bad ≡ None → length f.waiting + length piece < due (shape_of f.roll) f.waiting → g ≡ holding f (f.waiting ++ piece) → IsJudged g
kept_ready piece f g ready fine below is = subst IsJudged (sym is) (record {
  sized = record { good = ready.sized.good; counted = ready.sized.counted; placed = ready.sized.placed };
  below = λ _. omega (arith, below, length-append f.waiting piece, due_kept (shape_of f.roll) f.waiting piece below);
  room = λ _. by_roll f.roll refl (ready.room fine);
})
  where
    by_roll : (roll : Option Roll) → f.roll ≡ roll → IfSome roll (λ r. 4 ≤ length f.waiting → HasFrameRoom f) → IfSome roll (λ r. 4 ≤ length (f.waiting ++ piece) → HasFrameRoom (holding f (f.waiting ++ piece)))
    by_roll None is room = tt
    by_roll (Some r) is room = λ many. elim (cases_lt (length f.waiting) 4) [
      | inl few ↦ absurd (omega (arith, length-append f.waiting piece, many, below, due_low r.shape f.waiting few, ap (λ (o : Option Roll). due (shape_of o) f.waiting) is))
      | inr long ↦ let has : HasFrameRoom f = room long in (has.0, omega (arith, has.1, due_kept (shape_of f.roll) f.waiting piece below))
    ]
