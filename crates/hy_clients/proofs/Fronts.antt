-- A log with other entries up to its cut.
use Rattle.std.proofs.Common.{◌≡◌, ℕ, zero, suc, ◌+◌, ◌≤◌, List, [], ◌∷◌, ◌++◌, length, drop, replicate, None, refl, ap, sym, ◌∙◌, subst, arith, append_assoc, length-append}
use Rattle.std.specs.List.{AllByRecursion}
use Rattle.std.proofs.lemmas.List.{length-replicate}
use Rattle.std.proofs.Math.Seq.{drop-append_seam}
use mathlib.Core.List.{IsPrefix}
use Rattle.hy_base.specs.Log.{HaveLawfulSnaps, IsLawful}
use Rattle.hy_base.specs.declared.layout.Shape.{Shape}
use Rattle.hy_base.specs.declared.record.EntryKind.{EntryKind}
use Rattle.hy_base.specs.declared.workload.Event.{Event}
use Rattle.hy_base.specs.declared.workload.Event.TheVariants.{Begin, Append, End, Refuse, Pad, Publish, Stop}
use Rattle.hy_base.specs.declared.record.EntryKind.TheVariants.{Filler}
use Rattle.hy_rules.specs.CutLogs.{AreLawfulPast, filled, starting_with, swapped}
use Rattle.hy_rules.specs.Moves.{Setting, State, Moves, after}
use Rattle.hy_rules.proofs.Swapped.{starting_length, starting_more, move_swapped, blind_after}
use Rattle.hy_hub.specs.declared.occurrence.Occurrence.{Occurrence}
use Rattle.hy_hub.specs.declared.occurrence.Occurrence.TheVariants.{Opened, Happened, Halted, Lifted, Landed}
use Rattle.hy_hub.specs.Hub.{IsHubHistory}
use Rattle.hy_hub.specs.Calls.{len_of}
use Rattle.hy_hub.specs.Trace.{state_after, after_all, from_in, ends_program, AreMoves}
use Rattle.hy_hub.proofs.Passing.{log_more}
use Rattle.hy_hub.proofs.Turns.{unarmed}
use Rattle.hy_clients.specs.Passing.{log_behind, opened_log}
use Rattle.hy_clients.proofs.Steady.{log_after}

-- ---- fillers

pub filled_length : (from : ℕ) (entries : List EntryKind) → length (filled from entries) ≡ from + length entries
filled_length from entries = omega (arith, length-append (replicate from (Filler 1)) entries, length-replicate from (Filler 1))

-- without them
pub unfilled : (from : ℕ) (entries : List EntryKind) → drop from (filled from entries) ≡ entries
unfilled from entries =
    let fill : List EntryKind = replicate from (Filler 1) in
    ap (λ (n : ℕ). drop n (fill ++ entries)) (sym (length-replicate from (Filler 1))) ∙ drop-append_seam fill entries

pub filled_begins : (from : ℕ) (xs ys : List EntryKind) → IsPrefix (filled from xs) (filled from ys) → IsPrefix xs ys
filled_begins from xs ys p =
    (p.0, sym (unfilled from (xs ++ p.0)) ∙ (ap (drop from) (sym (append_assoc (replicate from (Filler 1)) xs p.0) ∙ p.1) ∙ unfilled from ys))

snaps_past : (s : Shape) (pos from : ℕ) (entries : List EntryKind) → HaveLawfulSnaps s pos (filled from entries) → HaveLawfulSnaps s (pos + from) entries
snaps_past s pos zero entries all = let same : pos ≡ pos + zero = omega arith in subst (λ (n : ℕ). HaveLawfulSnaps s n entries) same all
snaps_past s pos (suc from) entries all = let same : pos + 1 + from ≡ pos + suc from = omega arith in subst (λ (n : ℕ). HaveLawfulSnaps s n entries) same (snaps_past s (pos + 1) from entries all.1)

-- what is lawful behind fillers is so past a cut
pub lawful_past : (s : Shape) (from : ℕ) (entries log : List EntryKind) → log ≡ filled from entries → IsLawful s log → AreLawfulPast s from entries
lawful_past s from entries log is lawful = record {
  capacity = let c = lawful.capacity in omega (arith, c, ap length is, filled_length from entries);
  snaps = let none : 0 + from ≡ from = omega arith in subst (λ (n : ℕ). HaveLawfulSnaps s n entries) none (snaps_past s 0 from entries (subst (HaveLawfulSnaps s 0) is lawful.snaps));
}

pub all_past_fill : (P : EntryKind → Type 0) (from : ℕ) (entries : List EntryKind) → AllByRecursion P (filled from entries) → AllByRecursion P entries
all_past_fill P zero entries all = all
all_past_fill P (suc from) entries all = all_past_fill P from entries all.1

-- ---- moves

module _ (w : Setting) (front : List EntryKind) where
  pub longer : (s : State) (event : Event) (added : List EntryKind) → length front ≤ length s.log → s.armed ≡ None → length front ≤ length (after w s event added).log
  longer s event added low calm = let p = log_after w s event added calm in omega (arith, low, ap length p.1, length-append s.log p.0)

  -- how a program begins doesn't depend on the log
  ends_behind : (s : State) (event : Event) → ends_program w (swapped front s) event ≡ ends_program w s event
  ends_behind s (Begin client) = refl
  ends_behind s (Append client) = refl
  ends_behind s (End client) = refl
  ends_behind s (Refuse client) = refl
  ends_behind s (Pad server) = refl
  ends_behind s (Publish server upto) = refl
  ends_behind s (Stop call pattern) = refl

  pub moves_behind : (s : State) (occurrences : List Occurrence) → length front ≤ length s.log → s.armed ≡ None → AreMoves w s occurrences → AreMoves w (swapped front s) occurrences
  moves_behind s [] low calm all = tt
  moves_behind s (Opened o ∷ occurrences) low calm all = absurd all
  moves_behind s (Halted at risen ∷ occurrences) low calm all = moves_behind s occurrences low calm all
  moves_behind s (Lifted batch ∷ occurrences) low calm all = moves_behind s occurrences low calm all
  moves_behind s (Landed ∷ occurrences) low calm all = moves_behind s occurrences low calm all
  moves_behind s (Happened event added ended ∷ occurrences) low calm all =
      let next : State = after w s event added.entries in
      let same = blind_after w front s event added.entries low in (
        subst (λ (z : State). Moves w (swapped front s) event added.entries z) same (move_swapped w front s next event added.entries low all.0),
        all.1,
        all.2 ∙ sym (ends_behind s event),
        subst (λ (z : State). AreMoves w z occurrences) same (moves_behind next occurrences (longer s event added.entries low calm) (unarmed w s event added.entries calm all.1) all.3),
      )

  pub led_behind : (s : State) (occurrences : List Occurrence) → length front ≤ length s.log → s.armed ≡ None → AreMoves w s occurrences → swapped front (after_all w s occurrences) ≡ after_all w (swapped front s) occurrences
  led_behind s [] low calm all = refl
  led_behind s (Opened o ∷ occurrences) low calm all = absurd all
  led_behind s (Halted at risen ∷ occurrences) low calm all = led_behind s occurrences low calm all
  led_behind s (Lifted batch ∷ occurrences) low calm all = led_behind s occurrences low calm all
  led_behind s (Landed ∷ occurrences) low calm all = led_behind s occurrences low calm all
  led_behind s (Happened event added ended ∷ occurrences) low calm all =
      led_behind (after w s event added.entries) occurrences (longer s event added.entries low calm) (unarmed w s event added.entries calm all.1) all.3
      ∙ ap (λ (z : State). after_all w z occurrences) (blind_after w front s event added.entries low)

-- ---- lists

-- the log begins with that of the opening
pub found_first : (list : List Occurrence) → IsHubHistory list → IsPrefix (filled (from_in list) (opened_log list)) (state_after list).log
found_first list is =
    let o = is.opened in
    let t = is.told in
    let p : IsPrefix (Opened o ∷ []) list = (t.past, sym t.begins) in
    subst (λ (l : List EntryKind). IsPrefix l (state_after list).log) (λ i. filled (from_in (sym t.begins i)) (opened_log (sym t.begins i))) (log_more o [] list p)

pub front_low : (list : List Occurrence) → IsHubHistory list → from_in list + length (opened_log list) ≤ len_of list
front_low list is = let p = found_first list is in let log = filled (from_in list) (opened_log list) in omega (arith, ap length p.1, length-append log p.0, filled_length (from_in list) (opened_log list))

pub front_within : (list : List Occurrence) (front : List EntryKind) → IsHubHistory list → length front ≡ from_in list → length front ≤ len_of list
front_within list front is cut = let low = front_low list is in omega (arith, low, cut)

pub behind_length : (list : List Occurrence) (front : List EntryKind) → IsHubHistory list → length front ≡ from_in list → length (log_behind front list) ≡ len_of list
behind_length list front is cut = starting_length front (state_after list).log (front_within list front is cut)

-- the log of a list of a hub goes on as the list does
pub log_on : (xs ys : List Occurrence) → IsHubHistory xs → IsPrefix xs ys → IsPrefix (state_after xs).log (state_after ys).log
log_on xs ys told p = subst (λ (l : List Occurrence). IsPrefix l ys → IsPrefix (state_after l).log (state_after ys).log) (sym told.told.begins) (log_more told.opened told.told.past ys) p

pub behind_on : (xs ys : List Occurrence) (front : List EntryKind) → IsHubHistory xs → IsPrefix xs ys → length front ≡ from_in xs → IsPrefix (log_behind front xs) (log_behind front ys)
behind_on xs ys front is p cut =
    let grows = log_on xs ys is p in
    (grows.0, sym (starting_more front (state_after xs).log grows.0 (front_within xs front is cut)) ∙ ap (starting_with front) grows.1)
