-- The boards: which roller each server has published last.
use Rattle.std.specs.Prelude.{ℕ, List, [], ◌∷◌, replicate, Option, Some, None}
use Rattle.hy_base.specs.Lists.{nth, change_nth}
use Rattle.hy_base.specs.declared.workload.Event.{Event}
use Rattle.hy_base.specs.declared.workload.Event.TheVariants.{Begin, Append, End, Refuse, Pad, Publish, Stop}
use Rattle.hy_roll_laws.specs.Rolling.{Roll}
use Rattle.hy_hub.specs.declared.occurrence.Occurrence.{Occurrence}
use Rattle.hy_hub.specs.declared.occurrence.Occurrence.TheVariants.{Opened, Happened, Halted, Lifted, Landed}

-- a roller, if there is one, takes the place of the server's
abbrev pub put_board : ℕ → Option Roll → List Roll → List Roll
put_board server None boards = boards
put_board server (Some roller) boards = change_nth (λ _. roller) boards server

-- a publish puts its roller on its server's board, and no other event does
abbrev pub boards_then : List Roll → Event → Option Roll → List Roll
boards_then boards (Begin client) board = boards
boards_then boards (Append client) board = boards
boards_then boards (End client) board = boards
boards_then boards (Refuse client) board = boards
boards_then boards (Pad server) board = boards
boards_then boards (Publish server upto) board = put_board server board boards
boards_then boards (Stop call pattern) board = boards

-- the boards to which a list leads, from these on
abbrev pub boards_from : List Roll → List Occurrence → List Roll
boards_from boards [] = boards
boards_from boards (Opened o ∷ occurrences) = boards_from boards occurrences
boards_from boards (Happened event added ended ∷ occurrences) = boards_from (boards_then boards event added.board) occurrences
boards_from boards (Halted at risen ∷ occurrences) = boards_from boards occurrences
boards_from boards (Lifted batch ∷ occurrences) = boards_from boards occurrences
boards_from boards (Landed ∷ occurrences) = boards_from boards occurrences

-- At its opening each server's board is the first roller.
abbrev pub boards_in : List Occurrence → List Roll
boards_in [] = []
boards_in (Opened o ∷ occurrences) = boards_from (replicate o.servers o.start) occurrences
boards_in (Happened event added ended ∷ occurrences) = []
boards_in (Halted at risen ∷ occurrences) = []
boards_in (Lifted batch ∷ occurrences) = []
boards_in (Landed ∷ occurrences) = []

-- the roller of a server's board
abbrev pub board_roller : ℕ → List Occurrence → Option Roll
board_roller server list = nth (boards_in list) server
