-- The whole groups of a follower's entries are rolled.
use Rattle.std.proofs.Common.{◌≡◌, ℕ, ◌+◌, ◌*◌, ◌/◌, ◌≤◌, List, [], ◌∷◌, ◌++◌, length, take, drop, refl, sym, ap, ◌∙◌, subst, arith, length-drop, take-append-drop}
use Rattle.std.specs.Prelude.{Option, Some, None, IfSome, ◌%◌}
use Rattle.std.proofs.lemmas.List.{length-take-le, drop-drop, drop-take, take-take}
use Rattle.std.proofs.Math.Nat.{div-add-mod, mul-add-mod_self_left, mul-div_cancel_left}
use Rattle.hy_base.specs.declared.layout.Shape.{Shape}
use Rattle.hy_base.specs.declared.record.EntryKind.{EntryKind}
use Rattle.hy_base.specs.Log.{HaveLawfulSnaps}
use Rattle.hy_base.specs.Shape.{IsGoodShape, whole_groups}
use Rattle.hy_base.proofs.GroupLemmas.{whole_is_whole}
use Rattle.hy_formats.specs.StreamFormat.{Streamed, came}
use Rattle.hy_rules.specs.Validation.{verdicts_after, rows_after}
use Rattle.hy_rules.proofs.Growth.{snaps_take, snaps_drop}
use Rattle.hy_roll_laws.specs.Rolling.{Roll, rolled_upto, roll_on, Stands}
use Rattle.hy_roll_laws.proofs.Cuts.{rolled_on}
use Rattle.hy_roller.specs.RollerLaws.{GrowthKeepsStanding}
use Rattle.hy_roller.proofs.Standing.{roll_stands}
use Rattle.hy_follow.specs.Following.{Following, HoldsWhatCame, IsRollOf, IsRollingOf, shape_of, upto, came_count}
use Rattle.hy_follow.specs.FollowLaws.{FollowerDecides}
use Rattle.hy_follow.specs.Steps.{due, most_entries, IsSized, HasFrameRoom, IsJudged, rolled_by, after_rolling}

-- two parts of a list, one behind the other
parts : {X : Type 0} (a b : ℕ) (xs : List X) → take a xs ++ take b (drop a xs) ≡ take (a + b) xs
parts a b xs =
    let front : take a (take (a + b) xs) ≡ take a xs = take-take a (a + b) xs (omega arith) in
    (λ i. sym front i ++ sym (drop-take a b xs) i) ∙ take-append-drop a (take (a + b) xs)

-- whole groups before a position don't change where its own begin
whole_past : (s : Shape) (k n : ℕ) → whole_groups s (s.group * k + n) ≡ s.group * k + whole_groups s n
whole_past s k n =
    let rest : (s.group * k + n) % s.group ≡ n % s.group = mul-add-mod_self_left s.group k n in
    omega (arith, rest)

-- how many of so many entries are of whole groups
some_whole : (s : Shape) (n : ℕ) → whole_groups s n ≤ n
some_whole s n = omega arith

pub front_whole : (s : Shape) (es : List EntryKind) → length (take (whole_groups s (length es)) es) % s.group ≡ 0
front_whole s es = ap (λ (n : ℕ). n % s.group) (length-take-le (whole_groups s (length es)) es (some_whole s (length es))) ∙ whole_is_whole s (length es)

-- what it has rolled and the rest, with the whole groups of the rest rolled
record IsRolledOn (es rest : List EntryKind) (r next : Roll) (left : List EntryKind) : Type 0 where
  shape : next.shape ≡ r.shape
  at : rolled_upto next ≡ rolled_upto r + whole_groups r.shape (length rest)
  size : length left + whole_groups r.shape (length rest) ≡ length rest
  rolling : IsRollOf es next
  left_is : left ≡ drop (rolled_upto next) es
  whole : rolled_upto next ≡ whole_groups next.shape (length es)

-- where its roller is then
at_whole : (rest : List EntryKind) (r : Roll) → rolled_upto (roll_on r (take (whole_groups r.shape (length rest)) rest)) ≡ rolled_upto r + whole_groups r.shape (length rest)
at_whole rest r =
    let whole : ℕ = whole_groups r.shape (length rest) in
    let front : List EntryKind = take whole rest in
    let size : length front ≡ whole = length-take-le whole rest (some_whole r.shape (length rest)) in
    let even : length front % r.shape.group ≡ 0 = ap (λ (n : ℕ). n % r.shape.group) size ∙ whole_is_whole r.shape (length rest) in
    omega (arith, rolled_on r front even, size)

rolled_as : (es rest : List EntryKind) (r : Roll) → IsRollOf es r → rest ≡ drop (rolled_upto r) es
    → IsRolledOn es rest r (roll_on r (take (whole_groups r.shape (length rest)) rest)) (drop (whole_groups r.shape (length rest)) rest)
rolled_as es rest r rolling is =
    let s : Shape = r.shape in
    let upto : ℕ = rolled_upto r in
    let whole : ℕ = whole_groups s (length rest) in
    let front : List EntryKind = take whole rest in
    let next : Roll = roll_on r front in
    let low : whole ≤ length rest = some_whole s (length rest) in
    let count : upto + length rest ≡ length es = omega (arith, ap length is, length-drop upto es, rolling.within) in
    let before : length (take upto es) ≡ upto = length-take-le upto es rolling.within in
    let size : length front ≡ whole = length-take-le whole rest low in
    let even : length front % s.group ≡ 0 = ap (λ (n : ℕ). n % s.group) size ∙ whole_is_whole s (length rest) in
    let at : rolled_upto next ≡ upto + whole = at_whole rest r in
    let snaps : HaveLawfulSnaps s (0 + upto) (take whole (drop upto es)) = snaps_take s (0 + upto) whole (drop upto es) (snaps_drop s 0 upto es rolling.lawful.snaps) in
    let place : 0 + upto ≡ length (take upto es) = omega (arith, before) in
    let lawful : HaveLawfulSnaps s (length (take upto es)) front = subst (λ (n : ℕ). HaveLawfulSnaps s n front) place (subst (λ (l : List EntryKind). HaveLawfulSnaps s (0 + upto) (take whole l)) (sym is) snaps) in
    let stands : Stands (take upto es ++ front) next = roll_stands (take upto es) front r rolling.good (omega (arith, rolling.from_start)) lawful even rolling.stands in
    let both : take upto es ++ front ≡ take (rolled_upto next) es = ap (λ (l : List EntryKind). take upto es ++ take whole l) is ∙ (parts upto whole es ∙ ap (λ (n : ℕ). take n es) (sym at)) in
    let all : whole_groups s (length es) ≡ upto + whole = ap (whole_groups s) (sym count) ∙ whole_past s r.rolled.groups (length rest) in
    record {
      shape = refl;
      at = at;
      size = omega (arith, length-drop whole rest, low);
      rolling = record { good = rolling.good; lawful = rolling.lawful; from_start = rolling.from_start; within = omega (arith, at, low, count); stands = subst (λ (l : List EntryKind). Stands l next) both stands };
      left_is = ap (drop whole) is ∙ (drop-drop whole upto es ∙ ap (λ (n : ℕ). drop n es) (sym at));
      whole = at ∙ sym all;
    }

-- What is held is held when its whole groups are rolled, and then all of them are.
pub record IsRolledWhole (c : Streamed) (f : Following) : Type 0 where
  pub holds : HoldsWhatCame c f
  pub whole : IfSome f.roll (λ r. rolled_upto r ≡ whole_groups r.shape (length c.entries))

by_roll : (c : Streamed) (f : Following) (roll : Option Roll) → f.roll ≡ roll → HoldsWhatCame c f → IsRolledWhole c (rolled_by roll f)
by_roll c f None is holds = record { holds = holds; whole = subst (λ (o : Option Roll). IfSome o (λ r. rolled_upto r ≡ whole_groups r.shape (length c.entries))) (sym is) tt }
by_roll c f (Some r) is holds =
    let rolling : IsRollOf c.entries r = subst (IsRollingOf c.entries) is holds.rolling in
    let rest : f.rest ≡ drop (rolled_upto r) c.entries = holds.rest ∙ ap (λ (o : Option Roll). drop (upto o) c.entries) is in
    let on = rolled_as c.entries f.rest r rolling rest in
    record {
      holds = record { shape = ap shape_of (sym is) ∙ holds.shape; rolling = on.rolling; rest = on.left_is; place = holds.place; waiting = holds.waiting; bad = holds.bad };
      whole = on.whole;
    }

pub rolled_held : (c : Streamed) (f : Following) → HoldsWhatCame c f → IsRolledWhole c (after_rolling f)
rolled_held c f holds = by_roll c f f.roll refl holds

-- what a follower keeps is kept

record IsAsRoomy (f g : Following) : Type 0 where
  count : came_count g ≡ came_count f
  shape : shape_of g.roll ≡ shape_of f.roll
  place : g.place ≡ f.place
  waiting : g.waiting ≡ f.waiting
  bad : g.bad ≡ f.bad

abbrev most_of : Option Shape → ℕ
most_of None = 0
most_of (Some s) = s.cap

roomy_by : (f : Following) (roll : Option Roll) → f.roll ≡ roll → IsAsRoomy f (rolled_by roll f)
roomy_by f None is = record { count = refl; shape = refl; place = refl; waiting = refl; bad = refl }
roomy_by f (Some r) is =
    let low : whole_groups r.shape (length f.rest) ≤ length f.rest = some_whole r.shape (length f.rest) in
    record {
      count = omega (arith, at_whole f.rest r, low, length-drop (whole_groups r.shape (length f.rest)) f.rest, ap upto is);
      shape = ap shape_of (sym is);
      place = refl;
      waiting = refl;
      bad = refl;
    }

most_by : (roll : Option Roll) → most_entries roll ≡ most_of (shape_of roll)
most_by None = refl
most_by (Some r) = refl

good_by : (roll : Option Roll) → IfSome roll (λ r. IsGoodShape r.shape) → IfSome (shape_of roll) IsGoodShape
good_by None is = tt
good_by (Some r) is = is

good_from : (roll : Option Roll) → IfSome (shape_of roll) IsGoodShape → IfSome roll (λ r. IsGoodShape r.shape)
good_from None is = tt
good_from (Some r) is = is

room_by : (X : Type 0) (roll : Option Roll) → IfSome roll (λ r. X) → IfSome (shape_of roll) (λ s. X)
room_by X None is = tt
room_by X (Some r) is = is

room_from : (X : Type 0) (roll : Option Roll) → IfSome (shape_of roll) (λ s. X) → IfSome roll (λ r. X)
room_from X None is = tt
room_from X (Some r) is = is

pub rolled_sized : (f : Following) → IsSized f → IsSized (after_rolling f)
rolled_sized f sized =
    let g : Following = after_rolling f in
    let same : IsAsRoomy f g = roomy_by f f.roll refl in
    let most : most_entries g.roll ≡ most_entries f.roll = most_by g.roll ∙ (ap most_of same.shape ∙ sym (most_by f.roll)) in
    record {
      good = good_from g.roll (subst (λ (o : Option Shape). IfSome o IsGoodShape) (sym same.shape) (good_by f.roll sized.good));
      counted = omega (arith, sized.counted, most, same.count);
      placed = omega (arith, sized.placed, same.place, same.count);
    }

pub rolled_ready : (f : Following) → IsJudged f → IsJudged (after_rolling f)
rolled_ready f ready =
    let g : Following = after_rolling f in
    let same : IsAsRoomy f g = roomy_by f f.roll refl in
    let most : most_entries g.roll ≡ most_entries f.roll = most_by g.roll ∙ (ap most_of same.shape ∙ sym (most_by f.roll)) in
    let due_same : due (shape_of g.roll) g.waiting ≡ due (shape_of f.roll) f.waiting = λ i. due (same.shape i) (same.waiting i) in
    let size : length g.waiting ≡ length f.waiting = ap length same.waiting in
    let room : (4 ≤ length f.waiting → HasFrameRoom f) → 4 ≤ length g.waiting → HasFrameRoom g = λ room many. let has : HasFrameRoom f = room (omega (arith, many, size)) in (omega (arith, has.0, most, same.count), omega (arith, has.1, due_same)) in
    record {
      sized = rolled_sized f ready.sized;
      below = λ fine. let first = ready.below (sym same.bad ∙ fine) in omega (arith, first, due_same, size);
      room = λ fine. room_from (4 ≤ length g.waiting → HasFrameRoom g) g.roll (if_more _ _ (shape_of g.roll) room (subst (λ (o : Option Shape). IfSome o (λ s. 4 ≤ length f.waiting → HasFrameRoom f)) (sym same.shape) (room_by (4 ≤ length f.waiting → HasFrameRoom f) f.roll (ready.room (sym same.bad ∙ fine)))));
    }
  where
    if_more : (X Y : Type 0) (o : Option Shape) → (X → Y) → IfSome o (λ s. X) → IfSome o (λ s. Y)
    if_more X Y None f is = tt
    if_more X Y (Some s) f is = f is

-- ---- what the entries decide

pub follower_decides : GrowthKeepsStanding → FollowerDecides
follower_decides growth bytes f r followed is =
    let es : List EntryKind = (came bytes).entries in
    let s : Shape = r.shape in
    let upto : ℕ = rolled_upto r in
    let rolling : IsRollOf es r = subst (IsRollingOf es) is followed.holds.rolling in
    let whole : upto ≡ whole_groups s (length es) = subst (λ (o : Option Roll). IfSome o (λ r. rolled_upto r ≡ whole_groups r.shape (length es))) is followed.whole in
    let front : List EntryKind = take upto es in
    let size : length front ≡ upto = length-take-le upto es rolling.within in
    let longer = growth front (drop upto es) r rolling.good rolling.stands in
    let all : front ++ drop upto es ≡ es = take-append-drop upto es in
    let count : ℕ = length es / s.group in
    let split : s.group * count + length es % s.group ≡ length es = div-add-mod (length es) s.group in
    let end : length front ≡ s.group * count = omega (arith, size, whole, split) in
    let groups : length front / s.group ≡ count = ap (λ (n : ℕ). n / s.group) end ∙ mul-div_cancel_left count rolling.good.group.at_least in
    let rolled : r.rolled.groups ≡ length front / s.group = sym (ap (λ (n : ℕ). n / s.group) size ∙ mul-div_cancel_left r.rolled.groups rolling.good.group.at_least) in
    record {
      verdicts_are =
          rolling.stands.verdicts_are ∙ (ap (λ (n : ℕ). drop n (verdicts_after s front r.rolled.groups)) rolling.from_start ∙ (none_left (verdicts_after s front r.rolled.groups)
          ∙ (ap (verdicts_after s front) rolled ∙ (sym longer.verdicts_are ∙ (λ i. verdicts_after s (all i) (groups i))))));
      rows_are = longer.rows_are ∙ (λ i. rows_after s (all i) (groups i));
    }
  where
    none_left : {X : Type 0} (xs : List X) → drop 0 xs ≡ xs
    none_left [] = refl
    none_left (x ∷ xs) = refl
