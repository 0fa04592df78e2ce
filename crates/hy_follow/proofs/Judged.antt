-- What came of a stream is judged, and the follower still holds it.
use Rattle.std.proofs.Common.{◌≡◌, ℕ, zero, suc, ◌+◌, ◌*◌, ◌<◌, ◌≤◌, Bool, true, false, cond, List, [], ◌∷◌, ◌++◌, length, take, drop, refl, sym, ap, ◌∙◌, subst, arith, length-append, length-drop, inl, inr}
use Rattle.std.specs.Prelude.{Option, Some, None, IfSome, Result, Ok, Err, ◌==◌, ◌&&◌, ◌||◌, ◌%◌, not, is_ok, nat_lt, if◌then◌else◌, codes, bytes_eq}
use Rattle.std.proofs.lemmas.Bool.{and_parts, eqb-true, eqb-false, ltb-true, not-false, cases_lt}
use Rattle.std.proofs.lemmas.List.{take-append-le, drop-append-le}
use Rattle.hy_base.specs.declared.layout.Shape.{Shape}
use Rattle.hy_base.specs.declared.record.EntryKind.{EntryKind}
use Rattle.hy_base.specs.Log.{HasLawfulSnap}
use Rattle.hy_base.specs.Shape.{newest_version, has_horizon, is_horizon, is_within, IsWithin, shape_fault, IsGoodShape, tells_isolation, largest_group, largest_window, largest_cap}
use Rattle.hy_base.proofs.ShapeLemmas.{is_within-true, horizon_good}
use Rattle.hy_codec.proofs.Spellings.{snap_is_lawful}
use Rattle.hy_formats.specs.declared.damage.BadEntry.{BadEntry}
use Rattle.hy_formats.specs.declared.damage.BadFrame.{BadFrame}
use Rattle.hy_formats.specs.declared.damage.Damage.{Damage}
use Rattle.hy_formats.specs.declared.damage.Damage.TheVariants as damage
use Rattle.hy_formats.specs.EntryFormat.{decoded, decoded_at, has_lawful_snap, snap_place}
use Rattle.hy_formats.specs.LogFormat.{are_zeros, byte_at, longest_body}
use Rattle.hy_formats.specs.Reading.{◌>>=◌}
use Rattle.hy_formats.specs.StreamFormat.{Streamed, streamed_shape, head_judged, told_length, length_fault, with_head, with_length, with_body, frame_judged, judged}
use Rattle.hy_rules.proofs.Growth.{snaps_push}
use Rattle.hy_roll_laws.specs.Rolling.{Roll, rolled_upto, new_roll, Stands}
use Rattle.hy_roller.proofs.Standing.{new_roll_stands}
use Rattle.hy_follow.specs.Following.{Following, HoldsWhatCame, IsRollOf, IsRollingOf, shape_of, upto, came_count}
use Rattle.hy_follow.specs.Steps.{due, longest_frame, most_entries, IsSized, HasFrameRoom, IsAwaited, IsJudged, with_fault, after_head, after_length, after_body, judged_by, after_judging}
use Rattle.hy_follow.proofs.Streams.{due_low, due_high}

-- ---- what was found good

met : {A E : Type 0} (b : Bool) (r : Result A E) (e : E) → is_ok (cond b r (Err e)) ≡ true → (b ≡ true) × (is_ok r ≡ true)
met true r e h = (refl, h)
met false r e h = absurd (cc)

passes_good : (s : Shape) → is_ok (shape_fault s) ≡ true → IsGoodShape s
passes_good s h =
    let a = met (is_within 1 largest_group s.group) _ _ h in
    let b = met (is_within 1 largest_window s.window) _ _ a.1 in
    let c = met (is_within s.group largest_cap s.cap && (s.cap % s.group == 0)) _ _ b.1 in
    let d = met (is_within 1 newest_version s.version) _ _ c.1 in
    let e = met (is_horizon s s.horizon) (Ok tt) _ d.1 in
    let cap = and_parts (is_within s.group largest_cap s.cap) (s.cap % s.group == 0) c.0 in
    let horizon = horizon_good s e.0 in
    record {
      group = is_within-true 1 largest_group s.group a.0;
      window = is_within-true 1 largest_window s.window b.0;
      cap = is_within-true s.group largest_cap s.cap cap.0;
      whole_groups = eqb-true (s.cap % s.group) 0 cap.1;
      version = is_within-true 1 newest_version s.version d.0;
      horizon = horizon.0;
      versioned = horizon.1;
    }

passed : {A E : Type 0} (b : Bool) (e : E) (r : Result A E) (x : A) → cond b (Err e) r ≡ Ok x → r ≡ Ok x
passed true e r x h = absurd (cc)
passed false e r x h = h

chosen : {A E : Type 0} (b : Bool) (e : E) (y x : A) → cond b (Ok y) (Err e) ≡ Ok x → (b ≡ true) × (y ≡ x)
chosen true e y x h = (refl, cc)
chosen false e y x h = absurd (cc)

head_good : (head : List ℕ) (s : Shape) → head_judged head ≡ Ok s → IsGoodShape s
head_good head s is =
    let magic = passed (not (bytes_eq (take 8 head) (codes "HYDERSTR"))) _ _ s is in
    let version = passed (not (is_within 1 newest_version (byte_at head 8))) _ _ s magic in
    let shape = chosen (is_ok (shape_fault (streamed_shape head)) && (has_horizon (byte_at head 8) || are_zeros (take 4 (drop 15 head)))) _ (streamed_shape head) s version in
    subst IsGoodShape shape.1 (passes_good (streamed_shape head) (and_parts (is_ok (shape_fault (streamed_shape head))) _ shape.0).0)

entry_lawful : (s : Shape) (pos : ℕ) (bad : BadEntry) (r : Result EntryKind BadEntry) (e : EntryKind) → (r >>= λ entry. if has_lawful_snap s pos entry then Ok entry else Err bad) ≡ Ok e → HasLawfulSnap s pos e
entry_lawful s pos bad (Ok x) e is =
    let found = chosen (has_lawful_snap s pos x) bad x e is in
    subst (HasLawfulSnap s pos) found.1 (snap_is_lawful s pos x found.0)
entry_lawful s pos bad (Err b) e is = absurd (cc)

decoded_lawful : (s : Shape) (pos : ℕ) (bytes : List ℕ) (e : EntryKind) → decoded_at s pos bytes ≡ Ok e → HasLawfulSnap s pos e
decoded_lawful s pos bytes e is = entry_lawful s pos (record { place = snap_place s.version; why = damage.Snap }) (decoded s.version bytes) e is

-- the length of a frame that isn't refused
length_fine : (s : Shape) (count len : ℕ) → length_fault s count len ≡ None → (count < s.cap) × IsWithin 1 (longest_body s.version) len
length_fine s count len is =
    let full = unrefused (not (nat_lt count s.cap)) _ _ is in
    (ltb-true count s.cap (not-false _ full.0), is_within-true 1 (longest_body s.version) len (left (is_within 1 (longest_body s.version) len) _ full.1))
  where
    unrefused : (b : Bool) (why : Damage) (r : Option Damage) → cond b (Some why) r ≡ None → (b ≡ false) × (r ≡ None)
    unrefused true why r h = absurd (cc)
    unrefused false why r h = (refl, h)

    left : (b : Bool) (why : Damage) → cond b None (Some why) ≡ None → b ≡ true
    left true why h = refl
    left false why h = absurd (cc)

body_short : (version : ℕ) → longest_body version ≤ 18635
body_short version = short (tells_isolation version)
  where
    short : (b : Bool) → cond b 18635 18634 ≤ 18635
    short true = omega arith
    short false = omega arith

-- ---- what is held

-- so many entries came
count_held : (roll : Option Roll) (rest es : List EntryKind) → IsRollingOf es roll → rest ≡ drop (upto roll) es → upto roll + length rest ≡ length es
count_held None rest es none is = omega (arith, ap length is, length-drop 0 es)
count_held (Some r) rest es rolling is = omega (arith, ap length is, length-drop (rolled_upto r) es, rolling.within)

pub entries_counted : (c : Streamed) (f : Following) → HoldsWhatCame c f → came_count f ≡ length c.entries
entries_counted c f holds = count_held f.roll f.rest c.entries holds.rolling holds.rest

-- what came, if these entries did
abbrev pub streamed_of : List EntryKind → Following → Streamed
streamed_of es f = record { shape = shape_of f.roll; entries = es; place = f.place; waiting = f.waiting; bad = f.bad }

pub is_streamed_of : (c : Streamed) (f : Following) → HoldsWhatCame c f → streamed_of c.entries f ≡ c
is_streamed_of c f h = λ i. record { shape = h.shape i; entries = c.entries; place = h.place i; waiting = h.waiting i; bad = h.bad i }

either_holds : (b : Bool) (c d : Streamed) (f g : Following) → (b ≡ true → HoldsWhatCame c f) → (b ≡ false → HoldsWhatCame d g) → HoldsWhatCame (cond b c d) (cond b f g)
either_holds true c d f g met_true met_false = met_true refl
either_holds false c d f g met_true met_false = met_false refl

either_ready : (b : Bool) (f g : Following) → (b ≡ true → IsJudged f) → (b ≡ false → IsJudged g) → IsJudged (cond b f g)
either_ready true f g met_true met_false = met_true refl
either_ready false f g met_true met_false = met_false refl

none_left : (n : ℕ) → ◌≡◌ {A = List EntryKind} [] (drop n [])
none_left zero = refl
none_left (suc n) = refl

-- nothing is rolled yet
new_rolled : (s : Shape) → IsGoodShape s → IsRollOf [] (new_roll s)
new_rolled s good = record {
  good = good;
  lawful = record { capacity = omega arith; snaps = tt };
  from_start = refl;
  within = omega arith;
  stands = subst (λ (l : List EntryKind). Stands l (new_roll s)) (none (s.group * 0)) (new_roll_stands s);
}
  where
    none : (n : ℕ) → ◌≡◌ {A = List EntryKind} [] (take n [])
    none zero = refl
    none (suc n) = refl

module _ (es : List EntryKind) (f : Following) (rolling : IsRollingOf es f.roll) (rest : f.rest ≡ drop (upto f.roll) es) where
  same_held : HoldsWhatCame (streamed_of es f) f
  same_held = record { shape = refl; rolling = rolling; rest = rest; place = refl; waiting = refl; bad = refl }

  refused_held : (bad : BadFrame) → HoldsWhatCame (streamed_of es (with_fault f bad)) (with_fault f bad)
  refused_held bad = record { shape = refl; rolling = rolling; rest = rest; place = refl; waiting = refl; bad = refl }

  head_held : (r : Result Shape BadFrame) → ((s : Shape) → r ≡ Ok s → IsGoodShape s) → HoldsWhatCame (with_head (streamed_of es f) r) (after_head f r)
  head_held (Ok s) good = record { shape = refl; rolling = new_rolled s (good s refl); rest = none_left (s.group * 0); place = refl; waiting = refl; bad = refl }
  head_held (Err bad) good = refused_held bad

  length_held : (o : Option Damage) → HoldsWhatCame (with_length (streamed_of es f) o) (after_length f o)
  length_held None = same_held
  length_held (Some why) = refused_held (record { place = f.place; why = why })

  body_held : (r : Result EntryKind BadEntry) → ((e : EntryKind) → r ≡ Ok e → IsRollingOf (es ++ e ∷ []) f.roll × (f.rest ++ e ∷ [] ≡ drop (upto f.roll) (es ++ e ∷ [])))
      → HoldsWhatCame (with_body (streamed_of es f) r) (after_body f r)
  body_held (Ok e) more = let here = more e refl in record { shape = refl; rolling = here.0; rest = here.1; place = refl; waiting = refl; bad = refl }
  body_held (Err bad) more = refused_held (record { place = f.place + 4 + bad.place; why = bad.why })

-- one more entry is of a log that is rolled so far
one_more : (es rest : List EntryKind) (r : Roll) (e : EntryKind) → IsRollOf es r → rest ≡ drop (rolled_upto r) es → length es < r.shape.cap → HasLawfulSnap r.shape (length es + 1) e
    → IsRollOf (es ++ e ∷ []) r × (rest ++ e ∷ [] ≡ drop (rolled_upto r) (es ++ e ∷ []))
one_more es rest r e rolling is room lawful =
    let size : length (es ++ e ∷ []) ≡ length es + 1 = length-append es (e ∷ []) in
    let same : take (rolled_upto r) (es ++ e ∷ []) ≡ take (rolled_upto r) es = take-append-le (rolled_upto r) es (e ∷ []) rolling.within in (
      record {
        good = rolling.good;
        lawful = record { capacity = omega (arith, size, room); snaps = snaps_push r.shape 0 es e rolling.lawful.snaps (subst (λ (n : ℕ). HasLawfulSnap r.shape n e) (omega arith) lawful) };
        from_start = rolling.from_start;
        within = omega (arith, size, rolling.within);
        stands = subst (λ (l : List EntryKind). Stands l r) (sym same) rolling.stands;
      },
      ap (λ (l : List EntryKind). l ++ e ∷ []) is ∙ sym (drop-append-le (rolled_upto r) es (e ∷ []) rolling.within),
    )

abbrev following : Option Roll → List EntryKind → ℕ → List ℕ → Option BadFrame → Following
following roll rest place waiting bad = record { roll = roll; rest = rest; place = place; waiting = waiting; bad = bad }

judged_as : (roll : Option Roll) (rest es : List EntryKind) (place : ℕ) (waiting : List ℕ) (bad : Option BadFrame) → IsRollingOf es roll → rest ≡ drop (upto roll) es
    → IfSome roll (λ r. 4 < length waiting → length es < r.shape.cap) → HoldsWhatCame (judged (shape_of roll) (streamed_of es (following roll rest place waiting bad))) (judged_by roll (following roll rest place waiting bad))
judged_as None rest es place waiting bad rolling is room =
    let f : Following = following None rest place waiting bad in
    either_holds (length waiting == 19) (with_head (streamed_of es f) (head_judged waiting)) (streamed_of es f) (after_head f (head_judged waiting)) f
    (λ due. head_held es f rolling is (head_judged waiting) (head_good waiting)) (λ not_due. same_held es f rolling is)
judged_as (Some r) rest es place waiting bad rolling is room =
    let f : Following = following (Some r) rest place waiting bad in
    let c : Streamed = streamed_of es f in
    let s : Shape = r.shape in
    let told : ℕ = told_length waiting in
    let count : rolled_upto r + length rest ≡ length es = count_held (Some r) rest es rolling is in
    subst (λ (n : ℕ). HoldsWhatCame (frame_judged s c) (if length waiting == 4 then after_length f (length_fault s n told) else if length waiting == 4 + told then after_body f (decoded_at s (n + 1) (drop 4 waiting)) else f)) (sym count)
    (either_holds (length waiting == 4) (with_length c (length_fault s (length es) told)) _ (after_length f (length_fault s (length es) told)) _ (λ four. length_held es f rolling is (length_fault s (length es) told))
    (λ not_four. either_holds (length waiting == 4 + told) (with_body c (decoded_at s (length es + 1) (drop 4 waiting))) c (after_body f (decoded_at s (length es + 1) (drop 4 waiting))) f
    (λ whole. body_held es f rolling is (decoded_at s (length es + 1) (drop 4 waiting)) (λ e read. one_more es rest r e rolling is (room (long whole not_four)) (decoded_lawful s (length es + 1) (drop 4 waiting) e read)))
    (λ short. same_held es f rolling is)))
  where
    long : (length waiting == 4 + told_length waiting) ≡ true → (length waiting == 4) ≡ false → 4 < length waiting
    long whole not_four =
        let size : length waiting ≡ 4 + told_length waiting = eqb-true (length waiting) (4 + told_length waiting) whole in
        elim (cases_lt 4 (length waiting)) [ inl more ↦ more | inr few ↦ absurd (eqb-false (length waiting) 4 not_four (omega (arith, size, few))) ]

-- What is held is held when it was judged.
pub judged_held : (c : Streamed) (f : Following) → HoldsWhatCame c f → IsAwaited f → HoldsWhatCame (judged c.shape c) (after_judging f)
judged_held c f holds awaited =
    subst (λ (d : Streamed). HoldsWhatCame (judged d.shape d) (after_judging f)) (is_streamed_of c f holds)
    (judged_as f.roll f.rest c.entries f.place f.waiting f.bad holds.rolling holds.rest (has_room f.roll awaited.room refl))
  where
    has_room : (roll : Option Roll) → IfSome roll (λ r. 4 < length f.waiting → HasFrameRoom f) → f.roll ≡ roll → IfSome roll (λ r. 4 < length f.waiting → length c.entries < r.shape.cap)
    has_room None room is = tt
    has_room (Some r) room is = λ long. omega (arith, (room long).0, ap most_entries is, entries_counted c f holds)

-- ---- what a follower keeps

refused_ready : (f : Following) (bad : BadFrame) → IsSized f → IsJudged (with_fault f bad)
refused_ready f bad sized = record { sized = record { good = sized.good; counted = sized.counted; placed = sized.placed }; below = λ fine. absurd cc; room = λ fine. absurd cc }

head_ready : (f : Following) (r : Result Shape BadFrame) → IsSized f → ((s : Shape) → r ≡ Ok s → IsGoodShape s) → IsJudged (after_head f r)
head_ready f (Ok s) sized good = record {
  sized = record { good = good s refl; counted = omega arith; placed = omega arith };
  below = λ fine. omega (arith, due_low s [] (omega arith));
  room = λ fine many. absurd (omega (arith, many));
}
head_ready f (Err bad) sized good = refused_ready f bad sized

-- behind the length of a frame that isn't refused
length_ready : (f : Following) (r : Roll) (o : Option Damage) → f.roll ≡ Some r → IsSized f → length f.waiting ≡ 4 → o ≡ length_fault r.shape (came_count f) (told_length f.waiting) → IsJudged (after_length f o)
length_ready f r None is sized four fault =
    let fine = length_fine r.shape (came_count f) (told_length f.waiting) (sym fault) in
    let high : due (Some r.shape) f.waiting ≡ 4 + told_length f.waiting = due_high r.shape f.waiting (omega (arith, four)) in
    let same : due (shape_of f.roll) f.waiting ≡ due (Some r.shape) f.waiting = ap (λ (o : Option Roll). due (shape_of o) f.waiting) is in
    let cap : most_entries f.roll ≡ r.shape.cap = ap most_entries is in
    record {
      sized = sized;
      below = λ _. omega (arith, four, high, same, fine.1.at_least);
      room = λ _. subst (λ (o : Option Roll). IfSome o (λ r. 4 ≤ length f.waiting → HasFrameRoom f)) (sym is) (λ _. (omega (arith, cap, fine.0), omega (arith, same, high, fine.1.at_most, body_short r.shape.version)));
    }
length_ready f r (Some why) is sized four fault = refused_ready f (record { place = f.place; why = why }) sized

body_ready : (f : Following) (r : Roll) (read : Result EntryKind BadEntry) → f.roll ≡ Some r → IsSized f → HasFrameRoom f → length f.waiting ≤ longest_frame → IsJudged (after_body f read)
body_ready f r (Ok e) is sized room few =
    let size : length (f.rest ++ e ∷ []) ≡ length f.rest + 1 = length-append f.rest (e ∷ []) in
    let low : due (Some r.shape) [] ≡ 4 = due_low r.shape [] (omega arith) in
    let same : due (shape_of f.roll) [] ≡ due (Some r.shape) [] = ap (λ (o : Option Roll). due (shape_of o) []) is in
    record {
      sized = record { good = sized.good; counted = omega (arith, room.0, size); placed = omega (arith, sized.placed, size, few) };
      below = λ _. omega (arith, low, same);
      room = λ _. subst (λ (o : Option Roll). IfSome o (λ r. 4 ≤ 0 → HasFrameRoom (after_body f (Ok e)))) (sym is) (λ many. absurd (omega (arith, many)));
    }
body_ready f r (Err bad) is sized room few = refused_ready f (record { place = f.place + 4 + bad.place; why = bad.why }) sized

-- behind a frame that isn't whole
part_ready : (f : Following) (r : Roll) → f.roll ≡ Some r → IsAwaited f → (4 < length f.waiting → HasFrameRoom f) → (length f.waiting ≡ 4 → ⊥) → (length f.waiting ≡ 4 + told_length f.waiting → ⊥) → IsJudged f
part_ready f r is awaited room not_four not_whole =
    let same : due (shape_of f.roll) f.waiting ≡ due (Some r.shape) f.waiting = ap (λ (o : Option Roll). due (shape_of o) f.waiting) is in
    record { sized = awaited.sized; below = λ _. below same; room = λ _. subst (λ (o : Option Roll). IfSome o (λ r. 4 ≤ length f.waiting → HasFrameRoom f)) (sym is) (λ many. room (over many)) }
  where
    over : 4 ≤ length f.waiting → 4 < length f.waiting
    over many = elim (cases_lt 4 (length f.waiting)) [ inl more ↦ more | inr few ↦ absurd (not_four (omega (arith, many, few))) ]

    below : due (shape_of f.roll) f.waiting ≡ due (Some r.shape) f.waiting → length f.waiting < due (shape_of f.roll) f.waiting
    below same = elim (cases_lt (length f.waiting) 4) [
      | inl few ↦ omega (arith, same, few, due_low r.shape f.waiting few)
      | inr many ↦
          let high : due (Some r.shape) f.waiting ≡ 4 + told_length f.waiting = due_high r.shape f.waiting many in
          elim (cases_lt (length f.waiting) (4 + told_length f.waiting)) [ inl less ↦ omega (arith, same, high, less) | inr past ↦ absurd (not_whole (omega (arith, past, same, high, awaited.within))) ]
    ]

ready_as : (f : Following) (roll : Option Roll) → f.roll ≡ roll → IsAwaited f → IfSome roll (λ r. 4 < length f.waiting → HasFrameRoom f) → IsJudged (judged_by roll f)
ready_as f None is awaited room =
    either_ready (length f.waiting == 19) (after_head f (head_judged f.waiting)) f (λ due. head_ready f (head_judged f.waiting) awaited.sized (head_good f.waiting))
    (λ not_due. record {
      sized = awaited.sized;
      below = λ _. first (eqb-false (length f.waiting) 19 not_due) (ap (λ (o : Option Roll). due (shape_of o) f.waiting) is);
      room = λ _. subst (λ (o : Option Roll). IfSome o (λ r. 4 ≤ length f.waiting → HasFrameRoom f)) (sym is) tt;
    })
  where
    first : (length f.waiting ≡ 19 → ⊥) → due (shape_of f.roll) f.waiting ≡ 19 → length f.waiting < due (shape_of f.roll) f.waiting
    first other same = elim (cases_lt (length f.waiting) 19) [ inl less ↦ omega (arith, same, less) | inr past ↦ absurd (other (omega (arith, past, same, awaited.within))) ]
ready_as f (Some r) is awaited room =
    let told : ℕ = told_length f.waiting in
    let count : ℕ = came_count f in
    either_ready (length f.waiting == 4) (after_length f (length_fault r.shape count told)) _ (λ four. length_ready f r (length_fault r.shape count told) is awaited.sized (eqb-true (length f.waiting) 4 four) refl)
    (λ not_four. either_ready (length f.waiting == 4 + told) (after_body f (decoded_at r.shape (count + 1) (drop 4 f.waiting))) f
    (λ whole.
    let has : HasFrameRoom f = room (long whole not_four) in
    body_ready f r (decoded_at r.shape (count + 1) (drop 4 f.waiting)) is awaited.sized has (omega (arith, awaited.within, has.1)))
    (λ short. part_ready f r is awaited room (eqb-false (length f.waiting) 4 not_four) (eqb-false (length f.waiting) (4 + told) short)))
  where
    long : (length f.waiting == 4 + told_length f.waiting) ≡ true → (length f.waiting == 4) ≡ false → 4 < length f.waiting
    long whole not_four =
        let size : length f.waiting ≡ 4 + told_length f.waiting = eqb-true (length f.waiting) (4 + told_length f.waiting) whole in
        elim (cases_lt 4 (length f.waiting)) [ inl more ↦ more | inr few ↦ absurd (eqb-false (length f.waiting) 4 not_four (omega (arith, size, few))) ]

pub judged_ready : (f : Following) → IsAwaited f → IsJudged (after_judging f)
judged_ready f awaited = ready_as f f.roll refl awaited awaited.room
