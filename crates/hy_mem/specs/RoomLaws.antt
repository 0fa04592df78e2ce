-- Room for more is room for less.
use Rattle.std.proofs.Common.{ℕ, ◌≤◌, arith}
use Rattle.hy_mem.specs.declared.memory.MemDisk.{MemDisk}
use Rattle.hy_mem.specs.DiskLaws.{is_before}
use Rattle.hy_mem.specs.MemDisk.{HasRoom}

pub room_shrinks : (disk : MemDisk) (j k a b : ℕ) → HasRoom disk k b → j ≤ k → a ≤ b → HasRoom disk j a
room_shrinks disk j k a b room fewer less = record {
  sound = room.sound;
  before = is_before j k disk.calls.armed room.before fewer;
  calls = omega (arith, room.calls);
  bytes = omega (arith, room.bytes);
}
