-- A list each of whose ends of programs the hub took by the script is a run of it, as far as it goes.
use Rattle.std.proofs.Common.{◌≡◌, ◌≤◌, false, List, [], ◌∷◌, ◌++◌, length, Some, None, refl, ap, sym, ◌∙◌, subst, append_assoc}
use Rattle.hy_base.specs.declared.record.EntryKind.{EntryKind}
use Rattle.hy_base.specs.declared.workload.Event.{Event}
use Rattle.hy_base.specs.declared.workload.Event.TheVariants.{Begin, Append, End, Refuse, Pad, Publish, Stop}
use Rattle.hy_base.specs.Script.{Workload}
use Rattle.hy_rules.specs.CutLogs.{filled, swapped}
use Rattle.hy_rules.specs.Moves.{Setting, State, Moves, after, opening, is_stop}
use Rattle.hy_rules.proofs.Swapped.{move_swapped, blind_after}
use Rattle.hy_rules.specs.Runs.{setting_of as script_setting, opening_of, run}
use Rattle.hy_hub.specs.Origin.{Origin}
use Rattle.hy_hub.specs.declared.occurrence.Occurrence.{Occurrence}
use Rattle.hy_hub.specs.declared.occurrence.Occurrence.TheVariants.{Opened, Happened, Halted, Lifted, Landed}
use Rattle.hy_hub.specs.Trace.{setting, setting_in, from_in, state_after, after_all, AreMoves}
use Rattle.hy_hub.specs.Hub.{IsHubHistory}
use Rattle.hy_hub.specs.Calls.{events_in_list}
use Rattle.hy_hub.specs.Suits.{SuitsIn, AllSuit}
use Rattle.hy_hub.proofs.Told.{led_more}
use Rattle.hy_hub.proofs.Turns.{unarmed}
use Rattle.hy_clients.specs.Passing.{Fits as MayFit, OpensBehind, opened_log}
use Rattle.hy_clients.proofs.Progress.{Fits}
use Rattle.hy_clients.proofs.Fronts.{longer}
use Rattle.hy_clients.proofs.RunLaw.{setting_is, moves_are, low_start, start_behind, moves_with, state_with}
use Rattle.hy_clients.proofs.Running.{AreFit, runs}

module _ (suits : State → Event → List EntryKind → Type 0) (script : Workload) (list : List Occurrence) (is : IsHubHistory list) (same : setting_in list ≡ script_setting script)
    (only : (s : State) (event : Event) (added : List EntryKind) → suits s event added → (front : List EntryKind) → OpensBehind list front → MayFit script (swapped front s) event added) (all : AllSuit suits list) (head : List EntryKind) (stood : OpensBehind list head) where
  abbrev w : Setting
  w = script_setting script

  abbrev o : Origin
  o = is.opened

  abbrev start : State
  start = opening w (filled o.from o.found)

  -- the state to which the first occurrences lead
  abbrev at : List Occurrence → State
  at first = after_all w start first

  here : (first : List Occurrence) → state_after (Opened o ∷ first) ≡ at first
  here first = let set : setting o ≡ w = setting_is script list is same in λ i. after_all (set i) (opening (set i) (filled o.from o.found)) first

  -- an event that suits, and is a move, fits the script
  fits_by : (s : State) (event : Event) (added : List EntryKind) → SuitsIn suits s event added → length head ≤ length s.log → Moves w s event added (after w s event added) → is_stop event ≡ false → s.armed ≡ None → Fits script (swapped head s) event added
  fits_by s (Begin client) added suit low move n calm = (refl, move.may_add)
  fits_by s (Append client) added suit low move n calm = let f = only s (Append client) added suit head stood in (f.0, f.1 calm)
  fits_by s (End client) added suit low move n calm = let f = only s (End client) added suit head stood in (f.0, f.1 calm)
  fits_by s (Refuse client) added suit low move n calm = let f = only s (Refuse client) added suit head stood in (f.0, f.1 calm)
  fits_by s (Pad server) added suit low move n calm = (refl, (move_swapped w head s (after w s (Pad server) added) (Pad server) added low move).may_add)
  fits_by s (Publish server upto) added suit low move n calm = (refl, move.may_add)
  fits_by s (Stop call pattern) added suit low move n calm = absurd (cc n)

  -- what holds where the first occurrences lead, with the rest behind them
  record IsOn (first rest : List Occurrence) (s : State) : Type 0 where
    pub split : is.told.past ≡ first ++ rest
    pub moves : AreMoves w s rest
    pub calm : s.armed ≡ None
    pub low : length head ≤ length s.log

  -- the first occurrences and one more lead on
  step : (first : List Occurrence) (x : Occurrence) (rest : List Occurrence) (s : State) → s ≡ at (first ++ x ∷ []) → is.told.past ≡ first ++ (x ∷ rest) → AreMoves w s rest → s.armed ≡ None → length head ≤ length s.log → IsOn (first ++ x ∷ []) rest (at (first ++ x ∷ []))
  step first x rest s led split moves calm low = subst (IsOn (first ++ x ∷ []) rest) led (record { split = split ∙ sym (append_assoc first (x ∷ []) rest); moves = moves; calm = calm; low = low })

  walk : (first rest : List Occurrence) → IsOn first rest (at first) → AreFit script (swapped head (at first)) rest
  walk first [] on = tt
  walk first (Opened opened ∷ rest) on = absurd on.moves
  walk first (Halted place risen ∷ rest) on =
      let x = Halted place risen in
      let led = led_more w start first (x ∷ []) in
      subst (λ (z : State). AreFit script (swapped head z) rest) led (walk (first ++ x ∷ []) rest (step first x rest (at first) (sym led) on.split on.moves on.calm on.low))
  walk first (Lifted batch ∷ rest) on =
      let x = Lifted batch in
      let led = led_more w start first (x ∷ []) in
      subst (λ (z : State). AreFit script (swapped head z) rest) led (walk (first ++ x ∷ []) rest (step first x rest (at first) (sym led) on.split on.moves on.calm on.low))
  walk first (Landed ∷ rest) on =
      let led = led_more w start first (Landed ∷ []) in
      subst (λ (z : State). AreFit script (swapped head z) rest) led (walk (first ++ Landed ∷ []) rest (step first Landed rest (at first) (sym led) on.split on.moves on.calm on.low))
  walk first (Happened event added ended ∷ rest) on =
      let x = Happened event added ended in
      let s : State = at first in
      let next : State = after w s event added.entries in
      let led : at (first ++ x ∷ []) ≡ next = led_more w start first (x ∷ []) in
      let further = step first x rest next (sym led) on.split on.moves.3 (unarmed w s event added.entries on.calm on.moves.1) (longer w head s event added.entries on.low on.calm) in (
        fits_by s event added.entries (subst (λ (z : State). SuitsIn suits z event added.entries) (here first) (all (Opened o ∷ first) x rest (is.told.begins ∙ ap (λ (l : List Occurrence). Opened o ∷ l) on.split))) on.low on.moves.0 on.moves.1 on.calm,
        subst (λ (z : State). AreFit script z rest) (ap (swapped head) led ∙ blind_after w head s event added.entries on.low) (walk (first ++ x ∷ []) rest further),
      )

  pub run_is : run script (opening_of script (head ++ opened_log list)) (events_in_list list) ≡ Some (swapped head (state_after list))
  run_is =
      let past = is.told.past in
      let cut : length head ≡ o.from = stood.cut ∙ ap from_in is.told.begins in
      let fit : AreFit script (opening_of script (head ++ o.found)) past = subst (λ (z : State). AreFit script z past) (start_behind script list is same head cut)
      (walk [] past (record { split = refl; moves = moves_are script list is same; calm = refl; low = low_start script list is same head cut })) in
      subst (λ (found : List EntryKind). run script (opening_of script (head ++ found)) (events_in_list list) ≡ Some (swapped head (state_after list))) (sym (ap opened_log is.told.begins))
      (ap (run script (opening_of script (head ++ o.found))) (ap events_in_list is.told.begins) ∙ (runs script (opening_of script (head ++ o.found)) past (moves_with script list is same head cut) fit ∙ ap Some (sym (state_with script list is same head cut))))
