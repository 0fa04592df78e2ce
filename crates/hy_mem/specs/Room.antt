-- How much a device in memory can still take.
use Rattle.std.specs.Prelude.{ℕ, ◌-◌, max, Bool, ◌&&◌, nat_lt, nat_le}
use Rattle.hy_mem.specs.declared.room.Room.{Room}

-- whether there is room for one more write of so many bytes, or for a sync, which has none
abbrev pub is_room_for : ℕ → Room → Bool
is_room_for bytes room = nat_lt 0 room.calls && nat_le bytes room.bytes

-- the room after it
abbrev pub room_after : ℕ → Room → Room
room_after bytes room = record { calls = room.calls - 1; bytes = room.bytes - bytes }

-- room for at least so many writes and syncs, of so many bytes in all
abbrev pub widened : ℕ → ℕ → Room → Room
widened calls bytes room = record { calls = max room.calls calls; bytes = max room.bytes bytes }
