-- The room of a device in memory.
use Rattle.std.specs.Prelude.{◌≤◌}
use Rattle.hy_mem.specs.declared.room.Room.{Room}
use Rattle.hy_mem.specs.Store.{Stored}

-- its buffers have place for this room
pub record IsReserved (room : Room) (store : Stored) : Type 0 where
  pub calls : room.calls ≤ store.calls
  pub bytes : room.bytes ≤ store.bytes
