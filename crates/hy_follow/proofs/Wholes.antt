-- The stream of a lawful log is whole.
use Rattle.std.proofs.Common.{◌≡◌, ℕ, ◌+◌, ◌*◌, ◌<◌, ◌≤◌, true, List, [], ◌∷◌, ◌++◌, length, take, drop, flat_map, refl, sym, ap, ◌∙◌, subst, arith, append_assoc, append-nil, length-append}
use Rattle.std.specs.Prelude.{Option, Some, None, IfSome, Ok, ◌==◌, ◌&&◌, ◌||◌, ◌%◌, not, is_ok, nat_lt, if◌then◌else◌}
use Rattle.std.specs.Option.{is_some}
use Rattle.std.specs.List.{AllByRecursion}
use Rattle.std.specs.Int.{w32, to_le_bytes, from_le_bytes}
use Rattle.std.proofs.lemmas.Bool.{cond-true, cond-false, cond_both, and_from, eq-eqb, ne_eqb, lt-ltb, not_from_true, or_left, or_right}
use Rattle.std.proofs.lemmas.Nat.{from_le_bytes-to_le_bytes_4}
use Rattle.hy_base.specs.declared.layout.Shape.{Shape}
use Rattle.hy_base.specs.declared.record.EntryKind.{EntryKind}
use Rattle.hy_base.specs.Entry.{IsSoundEntry}
use Rattle.hy_base.specs.Log.{HasLawfulSnap, HaveLawfulSnaps}
use Rattle.hy_base.specs.Shape.{newest_version, has_horizon, horizon_told, tells_isolation, is_horizon, is_within, IsWithin, shape_fault, IsGoodShape, largest_group, largest_window, largest_cap}
use Rattle.hy_base.proofs.ShapeLemmas.{IsWithin-test}
use Rattle.hy_codec.proofs.Spellings.{spelled_at, spelling_is_body}
use Rattle.hy_formats.specs.EntryFormat.{spelling}
use Rattle.hy_formats.specs.LogFormat.{are_zeros, byte_at, longest_body}
use Rattle.hy_formats.specs.StreamFormat.{Streamed, nothing_came, stream_head, stream_bytes, frame, streamed_shape, head_judged, told_length, length_fault, with_head, with_length, with_body, taken, came, end_fault, unless_bad}
use Rattle.hy_follow.specs.FollowLaws.{StreamIsFollowed}
use Rattle.hy_follow.specs.Steps.{due}
use Rattle.hy_follow.proofs.Streams.{taken-append, waiting_at, first_taken, some_taken, due_low, due_high}

-- ---- the header

horizon_passes : (s : Shape) (h : Option ℕ) → IfSome h (IsWithin (s.group * s.window) largest_cap) → is_some h ≡ has_horizon s.version → is_horizon s h ≡ true
horizon_passes s None is versioned = ap not (sym versioned)
horizon_passes s (Some h) is versioned = and_from (has_horizon s.version) (is_within (s.group * s.window) largest_cap h) (sym versioned) (IsWithin-test (s.group * s.window) largest_cap h is)

good_passes : (s : Shape) → IsGoodShape s → is_ok (shape_fault s) ≡ true
good_passes s good =
    let cap = and_from (is_within s.group largest_cap s.cap) (s.cap % s.group == 0) (IsWithin-test s.group largest_cap s.cap good.cap) (eq-eqb (s.cap % s.group) 0 good.whole_groups) in
    ap is_ok (cond-true (is_within 1 largest_group s.group) _ _ (IsWithin-test 1 largest_group s.group good.group) ∙ cond-true (is_within 1 largest_window s.window) _ _ (IsWithin-test 1 largest_window s.window good.window)
    ∙ cond-true (is_within s.group largest_cap s.cap && (s.cap % s.group == 0)) _ _ cap ∙ cond-true (is_within 1 newest_version s.version) _ _ (IsWithin-test 1 newest_version s.version good.version)
    ∙ cond-true (is_horizon s s.horizon) (Ok tt) _ (horizon_passes s s.horizon good.horizon good.versioned))

horizon_read : (version : ℕ) (h : Option ℕ) → IfSome h (λ n. n ≤ largest_cap) → is_some h ≡ has_horizon version
    → (if has_horizon version then Some (from_le_bytes w32 (to_le_bytes w32 (horizon_told h))) else None) ≡ h
horizon_read version None fits versioned = cond-false (has_horizon version) _ _ (sym versioned)
horizon_read version (Some h) fits versioned = cond-true (has_horizon version) _ _ (sym versioned) ∙ ap Some (from_le_bytes-to_le_bytes_4 h (omega (arith, fits)))

horizon_most : (low : ℕ) (h : Option ℕ) → IfSome h (IsWithin low largest_cap) → IfSome h (λ n. n ≤ largest_cap)
horizon_most low None is = tt
horizon_most low (Some h) is = is.at_most

zeros_told : (version : ℕ) (h : Option ℕ) → is_some h ≡ has_horizon version → (has_horizon version || are_zeros (to_le_bytes w32 (horizon_told h))) ≡ true
zeros_told version None versioned = or_right (has_horizon version) _ refl
zeros_told version (Some h) versioned = or_left (has_horizon version) _ (sym versioned)

head_is : (s : Shape) → IsGoodShape s → streamed_shape (stream_head s) ≡ s
head_is s good =
    let cap : from_le_bytes w32 (to_le_bytes w32 s.cap) ≡ s.cap = from_le_bytes-to_le_bytes_4 s.cap (omega (arith, good.cap.at_most)) in
    let horizon = horizon_read s.version s.horizon (horizon_most (s.group * s.window) s.horizon good.horizon) good.versioned in
    λ i. record { group = s.group; window = s.window; cap = cap i; version = s.version; horizon = horizon i }

head_passes : (s : Shape) → IsGoodShape s → head_judged (stream_head s) ≡ Ok s
head_passes s good =
    let head = stream_head s in
    let same : streamed_shape head ≡ s = head_is s good in
    let fault : is_ok (shape_fault (streamed_shape head)) ≡ true = subst (λ (t : Shape). is_ok (shape_fault t) ≡ true) (sym same) (good_passes s good) in
    cond-false (not (is_within 1 newest_version (byte_at head 8))) _ _ (not_from_true _ (IsWithin-test 1 newest_version s.version good.version))
    ∙ cond-true (is_ok (shape_fault (streamed_shape head)) && (has_horizon (byte_at head 8) || are_zeros (take 4 (drop 15 head)))) (Ok (streamed_shape head)) _
    (and_from (is_ok (shape_fault (streamed_shape head))) _ fault (zeros_told s.version s.horizon good.versioned))
    ∙ ap Ok same

head_taken : (s : Shape) → IsGoodShape s → taken nothing_came (stream_head s) ≡ waiting_at (Some s) [] 19 []
head_taken s good = first_taken None [] 0 [] 72 (drop 1 (stream_head s)) (omega arith) ∙ ap (with_head (waiting_at None [] 0 (stream_head s))) (head_passes s good)

-- ---- the frames

no_fault : (s : Shape) (count len : ℕ) → count < s.cap → IsWithin 1 (longest_body s.version) len → length_fault s count len ≡ None
no_fault s count len room is =
    cond-false (not (nat_lt count s.cap)) _ _ (not_from_true _ (lt-ltb count s.cap room))
    ∙ cond-true (is_within 1 (longest_body s.version) len) None _ (IsWithin-test 1 (longest_body s.version) len is)

few_long : (version : ℕ) → longest_body version ≤ 18635
few_long version = cond_both (tells_isolation version) 18635 18634 (λ n. n ≤ 18635) (λ _. omega arith) (λ _. omega arith)

module _ (s : Shape) where
  -- a frame whose body spells the next entry
  frame_taken : (es : List EntryKind) (place : ℕ) (e : EntryKind) → length es < s.cap → HasLawfulSnap s (length es + 1) e → IsSoundEntry s.version e
      → (next : ℕ) × (taken (waiting_at (Some s) es place []) (frame (spelling s.version e)) ≡ waiting_at (Some s) (es ++ e ∷ []) next [])
  frame_taken es place e room lawful sound =
      let body : List ℕ = spelling s.version e in
      let size : List ℕ = to_le_bytes w32 (length body) in
      let all : List ℕ = size ++ body in
      let is = spelling_is_body s.version e sound.0 sound.1 in
      let most : length body ≤ 18635 = omega (arith, is.1, few_long s.version) in
      let told : told_length size ≡ length body = from_le_bytes-to_le_bytes_4 (length body) (omega (arith, most)) in
      let four : length size ≡ 4 = refl in
      let long : length all ≡ 4 + length body = length-append size body in
      let fault : length_fault s (length es) (told_length size) ≡ None = ap (length_fault s (length es)) told ∙ no_fault s (length es) (length body) room (record { at_least = is.0; at_most = is.1 }) in
      let low : due (Some s) [] ≡ 4 = due_low s [] (omega arith) in
      let high : due (Some s) size ≡ 4 + told_length size = due_high s size (omega (arith, four)) in
      let first : taken (waiting_at (Some s) es place []) size ≡ waiting_at (Some s) es place size =
      some_taken (Some s) es place [] size (omega (arith, four)) (omega (arith, four, low)) ∙ ap (with_length (waiting_at (Some s) es place size)) fault in
      let second : taken (waiting_at (Some s) es place size) body ≡ waiting_at (Some s) (es ++ e ∷ []) (place + length all) [] =
      some_taken (Some s) es place size body (omega (arith, is.0)) (omega (arith, four, high, told))
      ∙ (cond-false (length all == 4) _ _ (ne_eqb (length all) 4 (λ same. omega (arith, same, long, is.0)))
      ∙ (cond-true (length all == 4 + told_length all) _ _ (eq-eqb (length all) (4 + told_length all) (omega (arith, long, told)))
      ∙ ap (with_body (waiting_at (Some s) es place all)) (spelled_at s (length es + 1) body e sound.0 sound.1 lawful refl))) in
      (place + length all, taken-append (waiting_at (Some s) es place []) size body ∙ (ap (λ (c : Streamed). taken c body) first ∙ second))

  frames_taken : (es more : List EntryKind) (place : ℕ) → length es + length more ≤ s.cap → HaveLawfulSnaps s (length es) more → AllByRecursion (IsSoundEntry s.version) more
      → (next : ℕ) × (taken (waiting_at (Some s) es place []) (flat_map (λ e. frame (spelling s.version e)) more) ≡ waiting_at (Some s) (es ++ more) next [])
  frames_taken es [] place room lawful sound = (place, ap (λ (l : List EntryKind). waiting_at (Some s) l place []) (sym (append-nil es)))
  frames_taken es (e ∷ more) place room lawful sound =
      let first = frame_taken es place e (omega (arith, room)) lawful.0 sound.0 in
      let size : length (es ++ e ∷ []) ≡ length es + 1 = length-append es (e ∷ []) in
      let rest = frames_taken (es ++ e ∷ []) more first.0 (omega (arith, size, room)) (subst (λ (n : ℕ). HaveLawfulSnaps s n more) (sym size) lawful.1) sound.1 in (
        rest.0,
        taken-append (waiting_at (Some s) es place []) (frame (spelling s.version e)) (flat_map (λ e. frame (spelling s.version e)) more)
            ∙ (ap (λ (c : Streamed). taken c (flat_map (λ e. frame (spelling s.version e)) more)) first.1
            ∙ (rest.1 ∙ ap (λ (l : List EntryKind). waiting_at (Some s) l rest.0 []) (append_assoc es (e ∷ []) more))),
      )

pub stream_is_followed : StreamIsFollowed
stream_is_followed s entries good lawful sound =
    let frames = flat_map (λ e. frame (spelling s.version e)) entries in
    let rest = frames_taken s [] entries 19 (omega (arith, lawful.capacity)) lawful.snaps sound in
    let all : came (stream_bytes s entries) ≡ waiting_at (Some s) entries rest.0 [] = taken-append nothing_came (stream_head s) frames ∙ (ap (λ (c : Streamed). taken c frames) (head_taken s good) ∙ rest.1) in
    ap (λ (c : Streamed). unless_bad (end_fault c) (c.shape, c.entries)) all
