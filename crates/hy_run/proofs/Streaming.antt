-- What becomes of a stream.
use Rattle.std.proofs.Common.{◌≡◌, ℕ, ◌<◌, ◌≤◌, Bool, true, false, length, refl, sym, ◌∙◌, ap, subst, inl, inr, arith}
use Rattle.std.specs.Prelude.{◌⊎◌, List, Option, Some, None, Result, Ok, Err, IfErr, IfSome, IsErrAnd, replicate, nat_lt, if◌then◌else◌}
use Rattle.std.specs.Io.KnownBytes.{IsAtEnd}
use Rattle.std.proofs.lemmas.Bool.{ltb-true}
use Rattle.std.proofs.lemmas.List.{length-replicate}
use Rattle.hy_base.specs.Faults.{Rose}
use Rattle.hy_base.specs.declared.layout.Shape.{Shape}
use Rattle.hy_base.specs.declared.record.EntryKind.{EntryKind}
use Rattle.hy_base.specs.declared.record.Row.{Row}
use Rattle.hy_base.specs.declared.record.Verdict.{Verdict}
use Rattle.hy_base.specs.Spelling.{Text}
use Rattle.hy_follow.specs.declared.follower.FeedError.{FeedError}
use Rattle.hy_follow.specs.declared.follower.FeedError.TheVariants as feeding
use Rattle.hy_follow.specs.FollowLaws.{FollowerDecides}
use Rattle.hy_follow.specs.Following.{Following, HasFollowed, rows_held, shape_of, verdicts_held}
use Rattle.hy_formats.specs.Texts.{check_text}
use Rattle.hy_roll_laws.specs.Rolling.{Roll}
use Rattle.hy_rules.specs.History.{live_rows}
use Rattle.hy_formats.specs.StreamFormat.{Streamed, came, end_fault, streamed, unless_bad}
use Rattle.hy_formats.specs.declared.damage.BadFrame.{BadFrame}
use Rattle.hy_io.specs.Whole.{GivesAtMost}
use Rattle.hy_rules.specs.Recovery.{verdicts_text}
use Rattle.hy_run.specs.Output.{LeavesSource, longest_source, too_long}
use Rattle.hy_run.specs.Streams.{IsFollowed, IsStreamRefused, read_stream}
use Rattle.hy_run.specs.StreamParts.{IsStreamFault, IsUnread, refusal_of, refusal_or_memory}
use Rattle.hy_run.specs.declared.status.Status.{Status}
use Rattle.hy_run.specs.declared.status.Status.TheVariants as status
use Rattle.hy_run.proofs.ByKind.{by_fault_of}
use Rattle.hy_run.proofs.Sources.{are_these, long_read}

short_read : (t : Bool) (n : ℕ) {A : Type 0} (x y : A) → nat_lt longest_source n ≡ t → n ≤ longest_source → (if nat_lt longest_source n then x else y) ≡ y
short_read true n x y is short = absurd (omega (arith, short, ltb-true longest_source n is))
short_read false n x y is short = rw is refl

-- of a stream that isn't too long
short_stream : (bytes : Text) → length bytes ≤ longest_source → read_stream bytes ≡ streamed bytes
short_stream bytes short = short_read (nat_lt longest_source (length bytes)) (length bytes) _ _ refl short

long_stream : (bytes : Text) → longest_source < length bytes → read_stream bytes ≡ Err too_long
long_stream bytes long = long_read (nat_lt longest_source (length bytes)) (length bytes) _ _ refl long

-- a source that tells nothing might have given these
filled_stream : (n : ℕ) → longest_source < n → IsStreamRefused None too_long
filled_stream n long = record { bytes = replicate n 0; are_of = tt; is = long_stream (replicate n 0) (omega (arith, long, length-replicate {A = ℕ} n 0)) }

long_refused : (told : Option Text) → IfSome told (λ left. longest_source < length left) → IsStreamRefused told too_long
long_refused None long = filled_stream 16777217 (omega arith)
long_refused (Some left) long = record { bytes = left; are_of = refl; is = long_stream left long }

-- a source that was not read whole tells no log
pub unread_fault : (told : Option Text) (before now : ℕ) (s : Status) → IsUnread told before now s → IsStreamFault told before now s
unread_fault told before now s is =
    by_fault_of (λ line why. ⊥) (λ bad. (bad ≡ too_long) × IfSome told (λ left. longest_source < length left)) (λ s. ⊥) (Rose before now) (λ one. ⊥) (IsStreamFault told before now)
    (λ n why never. absurd never) (λ bad long. subst (IsStreamRefused told) (sym long.0) (long_refused told long.1)) (λ s kind never. absurd never) (λ rose. rose) (λ one never. absurd never) tt s is

-- and one that was read whole is refused as its bytes are
pub stream_fault : (told : Option Text) (bytes : Text) (before now : ℕ) (s : Status) → IfSome told (λ left. bytes ≡ left) → length bytes ≤ longest_source
    → (s ≡ status.Memory) ⊎ ((bad : BadFrame) × (end_fault (came bytes) ≡ Some bad) × (s ≡ refusal_of bad)) → IsStreamFault told before now s
stream_fault told bytes before now s same short (inl memory) = subst (IsStreamFault told before now) (sym memory) tt
stream_fault told bytes before now s same short (inr refused) =
    subst (IsStreamFault told before now) (sym refused.2) (record { bytes = bytes; are_of = are_these told bytes same; is = short_stream bytes short ∙ ap (λ o. unless_bad o ((came bytes).shape, (came bytes).entries)) refused.1 })

pub followed : (told : Option Text) (bytes text : Text) → IfSome told (λ left. bytes ≡ left) → length bytes ≤ longest_source
    → (end_fault (came bytes) ≡ None) × (text ≡ verdicts_text (came bytes).shape (came bytes).entries) → IsFollowed told text
followed told bytes text same short is = record {
  bytes = bytes;
  are_of = are_these told bytes same;
  shape = (came bytes).shape;
  entries = (came bytes).entries;
  whole = short_stream bytes short ∙ ap (λ o. unless_bad o ((came bytes).shape, (came bytes).entries)) is.0;
  text_is = is.1;
}

-- what is left of a source that was read whole
pub left_whole : (bytes : Text) (s : Status) (before now : Option Text) → (s ≡ status.Memory) ⊎ ((bad : BadFrame) × (end_fault (came bytes) ≡ Some bad) × (s ≡ refusal_of bad)) → IsAtEnd now → GivesAtMost before now 16777217 → LeavesSource s before now
left_whole bytes s before now (inl memory) end front = subst (λ x. LeavesSource x before now) (sym memory) front
left_whole bytes s before now (inr refused) end front = subst (λ x. LeavesSource x before now) (sym refused.2) (inl end)

-- what a follower tells is what became of the entries that came
pub told : FollowerDecides → (bytes : Text) (f : Following) (shape : Option Shape) (count : ℕ) (judged : List (Option Verdict)) (live : List Row) → HasFollowed bytes f
    → shape ≡ shape_of f.roll → count ≡ length (came bytes).entries → judged ≡ verdicts_held f.roll → live ≡ live_rows (rows_held f.roll) → check_text shape count judged live ≡ verdicts_text (came bytes).shape (came bytes).entries
told decides bytes f shape count judged live follows shape_is count_is judged_is live_is =
    (λ i. check_text (shape_is i) (count_is i) (judged_is i) (live_is i)) ∙ (go f.roll refl ∙ ap (λ (s : Option Shape). verdicts_text s entries) follows.holds.shape)
  where
    entries : List EntryKind
    entries = (came bytes).entries

    go : (o : Option Roll) → f.roll ≡ o → check_text (shape_of o) (length entries) (verdicts_held o) (live_rows (rows_held o)) ≡ verdicts_text (shape_of o) entries
    go None is = refl
    go (Some r) is = let d = decides bytes f r follows is in λ i. check_text (Some r.shape) (length entries) (d.verdicts_are i) (live_rows (d.rows_are i))

-- ---- what a follower answers

bad_end : (c : Streamed) (bad : BadFrame) → c.bad ≡ Some bad → end_fault c ≡ Some bad
bad_end c bad is = rw is refl

-- of bytes that it didn't take
pub fed_fault : {V : Type 0} (text : Result V Status) (e : FeedError) (bytes : Text) (f : Following) → IsErrAnd text (λ s. s ≡ refusal_or_memory e) → ((e ≡ feeding.Memory → ⊥) → HasFollowed bytes f) → ((bad : BadFrame) → e ≡ feeding.BadFrame bad → f.bad ≡ Some bad)
    → IfErr text (λ s. (s ≡ status.Memory) ⊎ ((bad : BadFrame) × (end_fault (came bytes) ≡ Some bad) × (s ≡ refusal_of bad)))
fed_fault (Ok v) e bytes f is holds refused = absurd is
fed_fault (Err s) feeding.Memory bytes f is holds refused = inl is
fed_fault (Err s) (feeding.BadFrame bad) bytes f is holds refused = inr (bad, bad_end (came bytes) bad (sym (holds (λ memory. cc memory)).holds.bad ∙ refused bad refl), is)

ended : {X : Type 0} (o : Option BadFrame) (x : X) (bad : BadFrame) → unless_bad o x ≡ Err bad → o ≡ Some bad
ended None x bad e = absurd cc
ended (Some b) x bad e = let same : b ≡ bad = cc in ap Some same

not_ended : {X : Type 0} (o : Option BadFrame) (x y : X) → unless_bad o x ≡ Ok y → o ≡ None
not_ended None x y e = refl
not_ended (Some b) x y e = absurd cc

-- of a stream that can't end there
pub end_told : {V : Type 0} (text : Result V Status) (bad : BadFrame) (bytes : Text) → IsErrAnd text (λ s. s ≡ refusal_of bad) → streamed bytes ≡ Err bad
    → IfErr text (λ s. (s ≡ status.Memory) ⊎ ((bad : BadFrame) × (end_fault (came bytes) ≡ Some bad) × (s ≡ refusal_of bad)))
end_told (Ok v) bad bytes is whole = absurd is
end_told (Err s) bad bytes is whole = inr (bad, ended (end_fault (came bytes)) _ bad whole, is)

-- and of a whole one
pub whole_stream : (bytes : Text) → streamed bytes ≡ Ok ((came bytes).shape, (came bytes).entries) → end_fault (came bytes) ≡ None
whole_stream bytes whole = not_ended (end_fault (came bytes)) _ _ whole
