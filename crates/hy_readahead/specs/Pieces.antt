-- What a piece that was read ahead holds.
use Rattle.std.specs.Prelude.{◌≡◌, ℕ, ◌+◌, ◌≤◌, Bool, List, length, take, drop, IsTrue, IfSome, IsSomeAnd}
use Rattle.hy_readahead.specs.declared.piece.Held.{Held}
use Rattle.hy_readahead.specs.declared.piece.Piece.{Piece}

-- as many of the device's bytes from its place on as there is room for, or as there are
abbrev pub IsHeld : Bool → List ℕ → List ℕ → Held → Type 0
IsHeld tells seen bytes held =
    (held.count ≤ length bytes)
    × (IsTrue tells
    → (held.count ≡ length (take (length bytes) (drop held.place seen)))
    × (take held.count bytes ≡ take (length bytes) (drop held.place seen)))

abbrev pub IsPiece : Bool → List ℕ → Piece → Type 0
IsPiece tells seen piece = IfSome piece.held (IsHeld tells seen piece.bytes.items)

-- so much room, from its place on, reaches over so many bytes from a place on
abbrev pub Reaches : ℕ → ℕ → ℕ → Held → Type 0
Reaches place len room held = (held.place ≤ place) × (place + len ≤ held.place + room)

abbrev pub Covers : ℕ → ℕ → Piece → Type 0
Covers place len piece = IsSomeAnd piece.held (Reaches place len (length piece.bytes.items))
