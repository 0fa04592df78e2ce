-- The boards of a list that goes on.
use Rattle.std.proofs.Common.{◌≡◌, ℕ, List, [], ◌∷◌, ◌++◌, take, refl, ap, sym, ◌∙◌, subst}
use Rattle.std.specs.Prelude.{Option, replicate, unwrap_or}
use Rattle.hy_base.specs.Lists.{nth}
use Rattle.hy_base.proofs.NthLemmas.{All-nth, nth_map}
use Rattle.hy_rules.specs.CutLogs.{starting_with}
use Rattle.hy_rules.specs.Moves.{board_of}
use Rattle.hy_roll_laws.specs.Rolling.{Roll, rolled_upto, Stands}
use Rattle.hy_hub.specs.Origin.{Origin}
use Rattle.hy_hub.specs.declared.occurrence.Occurrence.{Occurrence}
use Rattle.hy_hub.specs.declared.occurrence.Occurrence.TheVariants.{Opened, Happened, Halted, Lifted, Landed}
use Rattle.hy_hub.specs.Trace.{state_after}
use Rattle.hy_hub.specs.Boards.{boards_then, boards_from, boards_in}
use Rattle.hy_hub.specs.Hub.{IsBoard}
use Rattle.hy_hub.specs.Calls.{IsRollerOf}
use Rattle.hy_hub.specs.HubLaws.{BoardsAreRollers}

-- from some boards on
boards_on : (boards : List Roll) (occurrences more : List Occurrence) → boards_from boards (occurrences ++ more) ≡ boards_from (boards_from boards occurrences) more
boards_on boards [] more = refl
boards_on boards (Opened o ∷ occurrences) more = boards_on boards occurrences more
boards_on boards (Happened event added ended ∷ occurrences) more = boards_on (boards_then boards event added.board) occurrences more
boards_on boards (Halted at risen ∷ occurrences) more = boards_on boards occurrences more
boards_on boards (Lifted batch ∷ occurrences) more = boards_on boards occurrences more
boards_on boards (Landed ∷ occurrences) more = boards_on boards occurrences more

-- of a list that begins with its opening
pub boards_more : (list : List Occurrence) (o : Origin) (past more : List Occurrence) → list ≡ Opened o ∷ past → boards_in (list ++ more) ≡ boards_from (boards_in list) more
boards_more list o past more e =
    ap (λ (l : List Occurrence). boards_in (l ++ more)) e ∙ (boards_on (replicate o.servers o.start) past more ∙ ap (λ (l : List Occurrence). boards_from (boards_in l) more) (sym e))

-- a board of the list is one of its rollers
pub board_rolls : (list : List Occurrence) (o : Origin) (past : List Occurrence) (r : Roll) → list ≡ Opened o ∷ past → IsBoard o (state_after list).log r → IsRollerOf list (rolled_upto r) r
board_rolls list o past r e board =
    subst (λ (m : List Occurrence). IsRollerOf m (rolled_upto r) r) (sym e)
    (board.shape, board.from, refl, λ front cut stood. subst (λ (m : List Occurrence). Stands (take (rolled_upto r) (starting_with front (state_after m).log)) r) e (board.stands front cut stood))

pub boards_are_rollers_law : BoardsAreRollers
boards_are_rollers_law list server r is here =
    let t = is.told in
    let board = All-nth (IsBoard is.opened (state_after list).log) (boards_in list) server r here is.rollers in
    let at : rolled_upto r ≡ board_of (state_after list) server = sym (ap (λ (o : Option ℕ). unwrap_or o 0) (nth_map rolled_upto (boards_in list) server r here)) ∙ ap (λ (bs : List ℕ). unwrap_or (nth bs server) 0) is.boards_are in
    subst (λ (n : ℕ). IsRollerOf list n r) at (board_rolls list is.opened t.past r t.begins board)
