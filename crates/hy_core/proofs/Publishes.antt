-- What is kept after a publish: the furthest roller that hasn't passed the position goes on to it.
use Rattle.std.proofs.Common.{◌≡◌, ℕ, ◌+◌, ◌%◌, ◌<◌, ◌≤◌, Bool, true, false, List, [], ◌∷◌, length, map, refl, ap, sym, ◌∙◌, subst, arith}
use Rattle.std.proofs.lemmas.List.{append-nil}
use Rattle.std.specs.Prelude.{◌&&◌, ◌==◌, nat_lt, nat_le, Some, if◌then◌else◌}
use Rattle.std.specs.List.{AllByRecursion}
use Rattle.std.proofs.lemmas.Bool.{and_parts}
use Rattle.hy_base.specs.declared.workload.Event.TheVariants.{Publish}
use Rattle.hy_base.specs.Shape.{IsWithin}
use Rattle.hy_base.specs.Lists.{nth, change_nth}
use Rattle.hy_base.specs.Script.{Workload, IsScript}
use Rattle.hy_base.proofs.NthLemmas.{nth_some, map_change, length_change, all_nth}
use Rattle.hy_roll_laws.specs.Rolling.{Roll, rolled_upto, roll_on}
use Rattle.hy_rules.specs.Moves.{State, board_of, is_declared, is_whole, keeping}
use Rattle.hy_rules.specs.Runs.{setting_of, may_happen}
use Rattle.hy_core.specs.CoreParts.{Holding, IsHolding, IsServerBoard, MovesOn, RolledBoard, StepsTo, entries_between, furthest, keeping_rolls, moving_on, state_in_course, done_of}
use Rattle.hy_core.proofs.Beginning.{board_is}
use Rattle.hy_core.proofs.Kept.{all_keeping, keeping_is}
use Rattle.hy_core.proofs.Publishing.{all_change, server_is}
use Rattle.hy_core.proofs.Rerolls.{RollsTo, rolled_board, rolls_to}

pub record MayPublish (script : Workload) (h : Holding) (server upto : ℕ) : Type 0 where
  pub declared : IsWithin 1 script.servers server
  pub whole : upto % script.shape.group ≡ 0
  pub above : board_of (state_in_course h) server < upto
  pub within : upto ≤ length h.log

pub may_publish : (script : Workload) (h : Holding) (server upto : ℕ) → may_happen script (state_in_course h) (Publish server upto) ≡ true → MayPublish script h server upto
may_publish script h server upto may =
    let s : State = state_in_course h in
    let w = setting_of script in
    let enabled : (is_declared w server && (is_whole w.shape upto && (nat_lt (board_of s server) upto && nat_le upto (length s.log)))) ≡ true = (and_parts _ true may).0 in
    let two : (is_whole w.shape upto && (nat_lt (board_of s server) upto && nat_le upto (length s.log))) ≡ true = (and_parts (is_declared w server) _ enabled).1 in
    let whole : (upto % script.shape.group == 0) ≡ true = (and_parts (is_whole w.shape upto) _ two).0 in
    let rest : (nat_lt (board_of s server) upto && nat_le upto (length s.log)) ≡ true = (and_parts (is_whole w.shape upto) _ two).1 in
    let above : nat_lt (board_of s server) upto ≡ true = (and_parts (nat_lt (board_of s server) upto) _ rest).0 in
    let within : nat_le upto (length s.log) ≡ true = (and_parts (nat_lt (board_of s server) upto) _ rest).1 in
    record { declared = server_is script.servers server (and_parts (is_declared w server) _ enabled).0; whole = grind (arith, whole); above = grind (arith, above); within = grind (arith, within) }

-- ---- where a roll begins

further : (P : Roll → Type 0) (b : Bool) (r best : Roll) → P r → P best → P (if b then r else best)
further P true r best p q = p
further P false r best p q = q

-- what all of them are, the furthest is
pub furthest_is : (P : Roll → Type 0) (upto : ℕ) (best : Roll) (rs : List Roll) → P best → AllByRecursion P rs → P (furthest upto best rs)
furthest_is P upto best [] p all = p
furthest_is P upto best (r ∷ rs) p all = furthest_is P upto (if nat_lt (rolled_upto best) (rolled_upto r) && nat_le (rolled_upto r) upto then r else best) rs (further P (nat_lt (rolled_upto best) (rolled_upto r) && nat_le (rolled_upto r) upto) r best all.0 p) all.1

not_passed : (upto : ℕ) (b : Bool) (r best : Roll) → (b && nat_le (rolled_upto r) upto) ≡ true → rolled_upto r ≤ upto
not_passed upto b r best is = let le = (and_parts b (nat_le (rolled_upto r) upto) is).1 in grind (arith, le)

low_so : (upto : ℕ) (b : Bool) (r best : Roll) → (b ≡ true → rolled_upto r ≤ upto) → rolled_upto best ≤ upto → rolled_upto (if b then r else best) ≤ upto
low_so upto true r best low le = low refl
low_so upto false r best low le = le

-- and it hasn't passed the position
pub furthest_low : (upto : ℕ) (best : Roll) (rs : List Roll) → rolled_upto best ≤ upto → rolled_upto (furthest upto best rs) ≤ upto
furthest_low upto best [] low = low
furthest_low upto best (r ∷ rs) low =
    let is : Bool = nat_lt (rolled_upto best) (rolled_upto r) && nat_le (rolled_upto r) upto in
    furthest_low upto (if is then r else best) rs (low_so upto is r best (not_passed upto (nat_lt (rolled_upto best) (rolled_upto r)) r best) low)

-- what a publish asks of its parts
pub record CanRoll (script : Workload) (h : Holding) (server upto : ℕ) (r : Roll) : Type 0 where
  pub board : IsServerBoard script h.log r
  pub order : rolled_upto r ≤ upto
  pub within : upto ≤ length h.log
  pub whole : length (entries_between h.log (rolled_upto r) upto) % r.shape.group ≡ 0
  pub room : rolled_upto r + length (entries_between h.log (rolled_upto r) upto) ≤ r.shape.cap
  pub goes_on : (rolled : Roll) → rolled ≡ roll_on r (entries_between h.log (rolled_upto r) upto) → RolledBoard script h.log rolled upto

pub can_roll : (script : Workload) (h : Holding) (server upto : ℕ) (own r : Roll) → IsScript script → IsHolding script h → may_happen script (state_in_course h) (Publish server upto) ≡ true → nth h.rollers server ≡ Some own → r ≡ furthest upto own h.rollers → CanRoll script h server upto r
can_roll script h server upto own r script_is is may at far =
    let m : MayPublish script h server upto = may_publish script h server upto may in
    let above : rolled_upto own < upto = subst (λ n. n < upto) (board_is h server own at) m.above in
    let low : rolled_upto r ≤ upto = subst (λ x. rolled_upto x ≤ upto) (sym far) (furthest_low upto own h.rollers (omega (arith, above))) in
    let b : IsServerBoard script h.log r = subst (IsServerBoard script h.log) (sym far) (furthest_is (IsServerBoard script h.log) upto own h.rollers (all_nth (IsServerBoard script h.log) h.rollers server own is.boards at) is.boards) in
    let rolls : RollsTo h.log r upto = rolls_to script h.log r upto is.lawful b low m.within m.whole in
    record {
      board = b;
      order = low;
      within = m.within;
      whole = rolls.whole;
      room = rolls.room;
      goes_on = λ rolled rolls_on. rolled_board script h.log r rolled upto script_is is.lawful b low m.within m.whole rolls_on;
    }

-- ---- the event

-- the server's board, as the rules name it, and its list
pub record CanMoveOn (script : Workload) (h : Holding) (server : ℕ) : Type 0 where
  pub place : IsWithin 1 (length h.rollers) server
  pub list : IsWithin 1 (length h.earlier) server

pub can_move_on : (script : Workload) (h : Holding) (server upto : ℕ) → IsHolding script h → may_happen script (state_in_course h) (Publish server upto) ≡ true → CanMoveOn script h server
can_move_on script h server upto is may =
    let m : MayPublish script h server upto = may_publish script h server upto may in
    record {
      place = record { at_least = m.declared.at_least; at_most = omega (arith, m.declared.at_most, is.servers) };
      list = record { at_least = m.declared.at_least; at_most = omega (arith, m.declared.at_most, is.lists) };
    }

pub publish_steps : (script : Workload) (h new : Holding) (server upto : ℕ) (rolled : Roll) → IsHolding script h → may_happen script (state_in_course h) (Publish server upto) ≡ true → RolledBoard script h.log rolled upto → MovesOn h new server script.keeps rolled
    → StepsTo script h new (Publish server upto)
publish_steps script h new server upto rolled is may on moves =
    let there : (r : Roll) × (nth h.rollers server ≡ Some r) = nth_some h.rollers server (can_move_on script h server upto is may).place in
    let own : Roll = there.0 in
    let at : nth h.rollers server ≡ Some own = there.1 in
    let steps : StepsTo script h (moving_on h server script.keeps own rolled) (Publish server upto) = record {
      holding = record {
        stored = is.stored;
        armed = is.armed;
        lawful = is.lawful;
        servers = length_change (λ _. rolled) h.rollers server ∙ is.servers;
        boards = all_change (IsServerBoard script h.log) h.rollers server rolled on.board is.boards;
        lists = length_change (keeping_rolls script.keeps own) h.earlier server ∙ is.lists;
        earlier = all_keeping (IsServerBoard script h.log) script.keeps own h.earlier server (all_nth (IsServerBoard script h.log) h.rollers server own is.boards at) is.earlier;
        client_states = is.client_states;
        told = is.told;
      };
      leads = (λ i. record { log = h.log; boards = (map_change rolled_upto h.rollers server rolled ∙ ap (λ n. change_nth (λ _. n) (map rolled_upto h.rollers) server) on.at) i; earlier = (keeping_is script.keeps own h.earlier server ∙ ap (λ n. change_nth (keeping script.keeps n) (state_in_course h).earlier server) (sym (board_is h server own at))) i; sessions = (state_in_course h).sessions; armed = h.armed });
      ends = sym (append-nil (done_of h));
      whole = refl;
    } in
    subst (λ k. StepsTo script h k (Publish server upto)) (sym (moves own at)) steps
