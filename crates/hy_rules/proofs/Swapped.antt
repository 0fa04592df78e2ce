-- Moves of a run on a log in whose place another one is put, with other entries that stand first.
use Rattle.std.proofs.Common.{◌≡◌, ℕ, ◌≤◌, List, [], ◌∷◌, ◌++◌, length, drop, map, replicate, Option, Some, None, IsTrue, refl, sym, ap, subst, ◌∙◌, arith, append_assoc, length-append, length-drop}
use Rattle.std.specs.Prelude.{nat_lt, nat_le, not, ◌&&◌, ◌==◌, All}
use Rattle.std.proofs.lemmas.List.{drop-append-le, length-replicate}
use Rattle.std.proofs.lemmas.List.Elements.{All-nil, All-cons, All-head, All-tail}
use Rattle.std.proofs.Math.Seq.{drop-append_seam}
use Rattle.hy_base.specs.declared.record.EntryKind.{EntryKind}
use Rattle.hy_base.specs.declared.record.EntryKind.TheVariants.{Filler, Txn}
use Rattle.hy_base.specs.declared.workload.ArmedStop.{ArmedStop}
use Rattle.hy_base.specs.declared.workload.Event.{Event}
use Rattle.hy_base.specs.declared.workload.Event.TheVariants.{Begin, Append, End, Refuse, Pad, Publish, Stop}
use Rattle.hy_base.specs.declared.workload.Session.{Session}
use Rattle.hy_base.specs.Lists.{change_nth}
use Rattle.hy_base.specs.Shape.{whole_groups}
use Rattle.hy_rules.specs.CutLogs.{filled, starting_with, swapped}
use Rattle.hy_rules.specs.Moves.{Setting, State, Moves, board_of, is_begun, client_passes, is_declared, is_whole, enabled, IsOwnEntry, MayAdd, after, appended, stopped_if_armed, surviving, missing, abandoned, opening}

-- ---- the log

-- in place of fillers
pub starting_filled : (from : ℕ) (before entries : List EntryKind) → length before ≡ from → starting_with before (filled from entries) ≡ before ++ entries
starting_filled from before entries cut =
    let fill : List EntryKind = replicate from (Filler 1) in
    let same : length before ≡ length fill = cut ∙ sym (length-replicate from (Filler 1)) in
    ap (λ (l : List EntryKind). before ++ l) (ap (λ (n : ℕ). drop n (fill ++ entries)) same ∙ drop-append_seam fill entries)

pub starting_length : (before log : List EntryKind) → length before ≤ length log → length (starting_with before log) ≡ length log
starting_length before log within = omega (arith, length-append before (drop (length before) log), length-drop (length before) log, within)

pub starting_more : (before log added : List EntryKind) → length before ≤ length log → starting_with before (log ++ added) ≡ starting_with before log ++ added
starting_more before log added within =
    let n : ℕ = length before in
    ap (λ (l : List EntryKind). before ++ l) (drop-append-le n log added within) ∙ sym (append_assoc before (drop n log) added)

-- ---- the moves

module _ (w : Setting) (before : List EntryKind) where
  pub opening_swapped : (from : ℕ) (found : List EntryKind) → length before ≡ from → swapped before (opening w (filled from found)) ≡ opening w (before ++ found)
  opening_swapped from found cut =
      let log : starting_with before (filled from found) ≡ before ++ found = starting_filled from before found cut in
      let size : length (filled from found) ≡ length (before ++ found) =
      omega (arith, length-append (replicate from (Filler 1)) found, length-replicate from (Filler 1), length-append before found, cut) in
      λ i. record {
        log = log i;
        boards = replicate w.servers (whole_groups w.shape (size i));
        earlier = replicate w.servers [];
        sessions = (opening w found).sessions;
        armed = None;
      }

  module _ (s : State) (within : length before ≤ length s.log) where
    same : length (swapped before s).log ≡ length s.log
    same = starting_length before s.log within

    blind_enabled : (event : Event) → enabled w (swapped before s) event ≡ enabled w s event
    blind_enabled (Begin client) = refl
    blind_enabled (Append client) = ap (λ (k : ℕ). client_passes w s client (λ home session. is_begun session.phase) && nat_lt k w.shape.cap) same
    blind_enabled (End client) = refl
    blind_enabled (Refuse client) = ap (λ (k : ℕ). client_passes w s client (λ home session. is_begun session.phase) && (k == w.shape.cap)) same
    blind_enabled (Pad server) = ap (λ (k : ℕ). is_declared w server && not (is_whole w.shape k)) same
    blind_enabled (Publish server upto) = ap (λ (k : ℕ). is_declared w server && (is_whole w.shape upto && (nat_lt (board_of s server) upto && nat_le upto k))) same
    blind_enabled (Stop call pattern) = refl

    blind_entry : (client : ℕ) (e : EntryKind) → IsOwnEntry w s client e → IsOwnEntry w (swapped before s) client e
    blind_entry client (Filler server) own = own
    blind_entry client (Txn i) own = record { owner = own.owner; begun = own.begun; isolation = own.isolation; reads = own.reads; writes = own.writes }

    blind_entries : (client : ℕ) (added : List EntryKind) → All (IsOwnEntry w s client) added → All (IsOwnEntry w (swapped before s) client) added
    blind_entries client [] own = All-nil (IsOwnEntry w (swapped before s) client)
    blind_entries client (e ∷ es) own =
        All-cons (IsOwnEntry w (swapped before s) client) e es (blind_entry client e (All-head (IsOwnEntry w s client) e es own)) (blind_entries client es (All-tail (IsOwnEntry w s client) e es own))

    blind_added : (event : Event) (added : List EntryKind) → MayAdd w s event added → MayAdd w (swapped before s) event added
    blind_added (Append client) added may = (may.0, blind_entries client added may.1)
    blind_added (Pad server) added may = may ∙ ap (λ (k : ℕ). replicate (surviving s.armed (missing w k)) (Filler server)) (sym same)
    blind_added (Begin client) added may = may
    blind_added (End client) added may = may
    blind_added (Refuse client) added may = may
    blind_added (Publish server upto) added may = may
    blind_added (Stop call pattern) added may = may

  -- a stop that happens restarts the servers on the log's length
  stopped_by : (armed : Option ArmedStop) (log : List EntryKind) (boards : List ℕ) (earlier : List (List ℕ)) (sessions : List Session) → length before ≤ length log
      → swapped before (stopped_if_armed w (record { log = log; boards = boards; earlier = earlier; sessions = sessions; armed = armed })) ≡ stopped_if_armed w (record { log = starting_with before log; boards = boards; earlier = earlier; sessions = sessions; armed = armed })
  stopped_by None log boards earlier sessions within = refl
  stopped_by (Some stop) log boards earlier sessions within =
      λ i. record { log = starting_with before log; boards = map (λ board. whole_groups w.shape (sym (starting_length before log within) i)) boards; earlier = map (λ older. []) earlier; sessions = map abandoned sessions; armed = None }

  pub blind_after : (s : State) (event : Event) (added : List EntryKind) → length before ≤ length s.log → swapped before (after w s event added) ≡ after w (swapped before s) event added
  blind_after s (Begin client) added within = refl
  blind_after s (Append client) added within =
      let long : length before ≤ length (s.log ++ added) = omega (arith, length-append s.log added, within) in
      stopped_by s.armed (s.log ++ added) s.boards s.earlier (change_nth (appended added (length s.log)) s.sessions client) long
      ∙ (λ i. stopped_if_armed w (record { log = starting_more before s.log added within i; boards = s.boards; earlier = s.earlier; sessions = change_nth (appended added (sym (same s within) i)) s.sessions client; armed = s.armed }))
  blind_after s (End client) added within = refl
  blind_after s (Refuse client) added within = refl
  blind_after s (Pad server) added within =
      let long : length before ≤ length (s.log ++ added) = omega (arith, length-append s.log added, within) in
      stopped_by s.armed (s.log ++ added) s.boards s.earlier s.sessions long
      ∙ (λ i. stopped_if_armed w (record { log = starting_more before s.log added within i; boards = s.boards; earlier = s.earlier; sessions = s.sessions; armed = s.armed }))
  blind_after s (Publish server upto) added within = refl
  blind_after s (Stop call pattern) added within = refl

  -- a move is a move whichever entries stand first
  pub move_swapped : (s s' : State) (event : Event) (added : List EntryKind) → length before ≤ length s.log → Moves w s event added s' → Moves w (swapped before s) event added (swapped before s')
  move_swapped s s' event added within move = record {
    may_happen = subst IsTrue (sym (blind_enabled s within event)) move.may_happen;
    may_add = blind_added s within event added move.may_add;
    leads = ap (swapped before) move.leads ∙ blind_after s event added within;
  }
