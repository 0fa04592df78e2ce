-- How a follower takes the bytes of a stream: it is what the format says of them, with the entries rolled as they come.
use Rattle.std.specs.Prelude.{◌≡◌, ℕ, ◌+◌, ◌*◌, ◌<◌, ◌≤◌, List, [], ◌∷◌, ◌++◌, length, take, drop, Option, Some, None, IfSome}
use Rattle.std.specs.Prelude.{Result, Ok, Err, nat_lt, ◌==◌, if◌then◌else◌}
use Rattle.hy_base.specs.declared.layout.Shape.{Shape}
use Rattle.hy_base.specs.declared.record.EntryKind.{EntryKind}
use Rattle.hy_base.specs.Shape.{IsGoodShape, whole_groups}
use Rattle.hy_formats.specs.declared.damage.Damage.{Damage}
use Rattle.hy_formats.specs.declared.damage.BadEntry.{BadEntry}
use Rattle.hy_formats.specs.declared.damage.BadFrame.{BadFrame}
use Rattle.hy_formats.specs.EntryFormat.{decoded_at}
use Rattle.hy_formats.specs.StreamFormat.{Streamed, head_judged, told_length, length_fault, taken}
use Rattle.hy_roll_laws.specs.Rolling.{Roll, new_roll, roll_on}
use Rattle.hy_follow.specs.Following.{Following, HoldsWhatCame, shape_of, came_count}

-- ---- what every follower keeps

-- the most bytes of a frame
abbrev pub longest_frame : ℕ
longest_frame = 18639

abbrev pub most_entries : Option Roll → ℕ
most_entries None = 0
most_entries (Some r) = r.shape.cap

-- how many bytes the header or frame that begins so has when it is judged next
abbrev pub due : Option Shape → List ℕ → ℕ
due None waiting = 19
due (Some s) waiting = if nat_lt (length waiting) 4 then 4 else 4 + told_length waiting

pub record IsSized (f : Following) : Type 0 where
  pub good : IfSome f.roll (λ r. IsGoodShape r.shape)
  pub counted : came_count f ≤ most_entries f.roll
  pub placed : f.place ≤ 19 + longest_frame * came_count f

-- its entry has room, and its frame isn't too long
abbrev pub HasFrameRoom : Following → Type 0
HasFrameRoom f = (came_count f < most_entries f.roll) × (due (shape_of f.roll) f.waiting ≤ longest_frame)

-- what came of the header or frame may be judged now, and not before
pub record IsAwaited (f : Following) : Type 0 where
  pub sized : IsSized f
  pub within : length f.waiting ≤ due (shape_of f.roll) f.waiting
  pub room : IfSome f.roll (λ r. 4 < length f.waiting → HasFrameRoom f)

-- what came of the header or frame was judged
pub record IsJudged (f : Following) : Type 0 where
  pub sized : IsSized f
  pub below : f.bad ≡ None → length f.waiting < due (shape_of f.roll) f.waiting
  pub room : f.bad ≡ None → IfSome f.roll (λ r. 4 ≤ length f.waiting → HasFrameRoom f)

-- ---- its steps

abbrev pub holding : Following → List ℕ → Following
holding f waiting = record { roll = f.roll; rest = f.rest; place = f.place; waiting = waiting; bad = f.bad }

abbrev pub with_fault : Following → BadFrame → Following
with_fault f bad = record { roll = f.roll; rest = f.rest; place = f.place; waiting = f.waiting; bad = Some bad }

abbrev pub after_head : Following → Result Shape BadFrame → Following
after_head f (Ok s) = record { roll = Some (new_roll s); rest = []; place = 19; waiting = []; bad = None }
after_head f (Err bad) = with_fault f bad

abbrev pub after_length : Following → Option Damage → Following
after_length f None = f
after_length f (Some why) = with_fault f (record { place = f.place; why = why })

abbrev pub after_body : Following → Result EntryKind BadEntry → Following
after_body f (Ok entry) =
    record { roll = f.roll; rest = f.rest ++ entry ∷ []; place = f.place + length f.waiting; waiting = []; bad = None }
after_body f (Err bad) = with_fault f (record { place = f.place + 4 + bad.place; why = bad.why })

abbrev pub after_frame : Shape → Following → Following
after_frame s f =
    if length f.waiting == 4 then after_length f (length_fault s (came_count f) (told_length f.waiting)) else
    if length f.waiting == 4 + told_length f.waiting then after_body f (decoded_at s (came_count f + 1) (drop 4 f.waiting)) else
    f

abbrev pub judged_by : Option Roll → Following → Following
judged_by None f = if length f.waiting == 19 then after_head f (head_judged f.waiting) else f
judged_by (Some r) f = after_frame r.shape f

-- what came is judged, if it is time
abbrev pub after_judging : Following → Following
after_judging f = judged_by f.roll f

abbrev pub rolled_by : Option Roll → Following → Following
rolled_by None f = f
rolled_by (Some r) f =
    let whole = whole_groups r.shape (length f.rest) in
    record {
      roll = Some (roll_on r (take whole f.rest));
      rest = drop whole f.rest;
      place = f.place;
      waiting = f.waiting;
      bad = f.bad;
    }

-- the whole groups of its entries are rolled
abbrev pub after_rolling : Following → Following
after_rolling f = rolled_by f.roll f

-- ---- what it holds

-- Whatever has come of a stream before, and is held, is held with these bytes more.
abbrev pub TakesAll : Following → List ℕ → Following → Type 0
TakesAll f bytes g = (c : Streamed) → HoldsWhatCame c f → HoldsWhatCame (taken c bytes) g

-- Whatever has come of a stream before, and is held, is held with these bytes, and there are more to be taken then.
abbrev pub TakesSome : Following → List ℕ → Following → List ℕ → Type 0
TakesSome f bytes g more =
    (c : Streamed) → HoldsWhatCame c f
    → (d : Streamed) × HoldsWhatCame d g × (taken d more ≡ taken c bytes)
