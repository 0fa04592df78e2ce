-- The stream of a log: a header of 19 bytes, and behind it each entry in a frame, the length of its body in four bytes and then
-- the body. Numbers have their lowest byte first.
--     It is taken as it comes, byte after byte: a header is judged once it is whole, the length of a frame once its four bytes
--     are there, and a body once it is whole.
use Rattle.std.specs.Prelude.{ℕ, ◌+◌, Bool, ◌&&◌, ◌||◌, not, List, [], ◌∷◌, ◌++◌, length, take, drop, flat_map, map, Option}
use Rattle.std.specs.Prelude.{Some, None, Result, Ok, Err, is_ok, nat_lt, ◌==◌, bytes_eq, codes, if◌then◌else◌}
use Rattle.std.specs.Option.{is_some}
use Rattle.std.specs.Int.{w32, to_le_bytes, from_le_bytes}
use Rattle.hy_base.specs.declared.layout.Shape.{Shape}
use Rattle.hy_base.specs.declared.record.EntryKind.{EntryKind}
use Rattle.hy_base.specs.Shape.{newest_version, has_horizon, horizon_told, is_within, shape_fault}
use Rattle.hy_formats.specs.declared.damage.Damage.{Damage}
use Rattle.hy_formats.specs.declared.damage.Damage.TheVariants as damage
use Rattle.hy_formats.specs.declared.damage.BadEntry.{BadEntry}
use Rattle.hy_formats.specs.declared.damage.BadFrame.{BadFrame}
use Rattle.hy_formats.specs.EntryFormat.{decoded_at, spelling}
use Rattle.hy_formats.specs.LogFormat.{are_zeros, byte_at, longest_body}

-- ---- how a log is streamed

abbrev pub stream_head : Shape → List ℕ
stream_head s =
    codes "HYDERSTR" ++ (s.version ∷ s.group ∷ s.window ∷ to_le_bytes w32 s.cap) ++ to_le_bytes w32 (horizon_told s.horizon)

abbrev pub frame : List ℕ → List ℕ
frame body = to_le_bytes w32 (length body) ++ body

-- the stream of a log that has this shape and these entries
abbrev pub stream_bytes : Shape → List EntryKind → List ℕ
stream_bytes s entries = stream_head s ++ flat_map (λ e. frame (spelling s.version e)) entries

-- ---- how a stream is taken

-- What of a stream has come: the shape once its header was taken, and the entries whose whole frames came. Behind them
-- begins, at this place, the header or frame that isn't whole, of which these bytes came. Once a header or a frame is refused
-- no byte is taken any more.
pub record Streamed : Type 0 where
  pub shape : Option Shape
  pub entries : List EntryKind
  pub place : ℕ
  pub waiting : List ℕ
  pub bad : Option BadFrame

abbrev pub nothing_came : Streamed
nothing_came = record { shape = None; entries = []; place = 0; waiting = []; bad = None }

-- the shape in a stream's header
abbrev pub streamed_shape : List ℕ → Shape
streamed_shape head =
    let version = byte_at head 8 in
    record {
      group = byte_at head 9;
      window = byte_at head 10;
      cap = from_le_bytes w32 (take 4 (drop 11 head));
      version = version;
      horizon = if has_horizon version then Some (from_le_bytes w32 (take 4 (drop 15 head))) else None;
    }

-- the shape that a header tells, or the first field that is refused: where there is no horizon it has zeros
abbrev pub head_judged : List ℕ → Result Shape BadFrame
head_judged head =
    if not (bytes_eq (take 8 head) (codes "HYDERSTR")) then Err (record { place = 0; why = damage.Magic }) else
    if not (is_within 1 newest_version (byte_at head 8)) then Err (record { place = 8; why = damage.Version }) else
    if is_ok (shape_fault (streamed_shape head)) && (has_horizon (byte_at head 8) || are_zeros (take 4 (drop 15 head)))
    then Ok (streamed_shape head) else
    Err (record { place = 9; why = damage.Shape })

-- the length that the first bytes of a frame tell
abbrev pub told_length : List ℕ → ℕ
told_length frame = from_le_bytes w32 (take 4 frame)

-- why a frame of this length is refused behind so many entries
abbrev pub length_fault : Shape → ℕ → ℕ → Option Damage
length_fault s count len =
    if not (nat_lt count s.cap) then Some damage.Cap else
    if is_within 1 (longest_body s.version) len then None else
    Some damage.Length

abbrev pub refusing : Streamed → ℕ → Damage → Streamed
refusing c place why = record {
  shape = c.shape;
  entries = c.entries;
  place = c.place;
  waiting = c.waiting;
  bad = Some (record { place = place; why = why });
}

abbrev pub with_head : Streamed → Result Shape BadFrame → Streamed
with_head c (Ok s) = record { shape = Some s; entries = []; place = 19; waiting = []; bad = None }
with_head c (Err bad) = refusing c bad.place bad.why

abbrev pub with_length : Streamed → Option Damage → Streamed
with_length c None = c
with_length c (Some why) = refusing c c.place why

abbrev pub with_body : Streamed → Result EntryKind BadEntry → Streamed
with_body c (Ok entry) =
    record { shape = c.shape; entries = c.entries ++ entry ∷ []; place = c.place + length c.waiting; waiting = []; bad = None }
with_body c (Err bad) = refusing c (c.place + 4 + bad.place) bad.why

-- the bytes that came of a frame
abbrev pub frame_judged : Shape → Streamed → Streamed
frame_judged s c =
    if length c.waiting == 4 then with_length c (length_fault s (length c.entries) (told_length c.waiting)) else
    if length c.waiting == 4 + told_length c.waiting
    then with_body c (decoded_at s (length c.entries + 1) (drop 4 c.waiting)) else
    c

-- What came is judged, if it is time.
abbrev pub judged : Option Shape → Streamed → Streamed
judged None c = if length c.waiting == 19 then with_head c (head_judged c.waiting) else c
judged (Some s) c = frame_judged s c

-- with one byte more
abbrev pub taking : Streamed → ℕ → Streamed
taking c byte =
    if is_some c.bad then c else
    judged c.shape (record {
      shape = c.shape;
      entries = c.entries;
      place = c.place;
      waiting = c.waiting ++ byte ∷ [];
      bad = None;
    })

-- with these bytes more
abbrev pub taken : Streamed → List ℕ → Streamed
taken c [] = c
taken c (byte ∷ bytes) = taken (taking c byte) bytes

-- what of a stream has come with its first bytes
abbrev pub came : List ℕ → Streamed
came bytes = taken nothing_came bytes

-- ---- the end of a stream

-- It may end behind its header and behind a frame, and without a byte.
abbrev pub end_fault : Streamed → Option BadFrame
end_fault c =
    if is_some c.bad then c.bad else
    if length c.waiting == 0 then None else
    Some (record { place = c.place; why = damage.Short })

abbrev pub unless_bad : {X : Type 0} → Option BadFrame → X → Result X BadFrame
unless_bad None x = Ok x
unless_bad (Some bad) x = Err bad

-- what a whole stream tells: a log's shape and its entries, or nothing where it has no byte; or the first place that is refused
abbrev pub streamed : List ℕ → Result (Option Shape × List EntryKind) BadFrame
streamed bytes = unless_bad (end_fault (came bytes)) ((came bytes).shape, (came bytes).entries)
