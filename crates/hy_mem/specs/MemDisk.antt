-- What a device in memory shows.
use Rattle.std.specs.Prelude.{◌≡◌, ◌⊎◌, ℕ, ◌+◌, ◌≤◌, List, length, Some}
use Rattle.hy_disk.specs.Content.{Content, Image}
use Rattle.hy_mem.specs.declared.memory.MemDisk.{MemDisk}
use Rattle.hy_mem.specs.declared.room.Room.{Room}
use Rattle.hy_mem.specs.DiskFailures.{DevicePlan, IsSoundPlan, IsEarlierCall, spare}
use Rattle.hy_mem.specs.DiskPast.{LeftBefore}

-- what it holds
abbrev pub content_of : MemDisk → Content
content_of disk = disk.store.content

-- its calls, and which of them fail
abbrev pub plan_of : MemDisk → DevicePlan
plan_of disk = disk.calls

-- how much it can still take
abbrev pub room_of : MemDisk → Room
room_of disk = disk.room

-- how many syncs it has done
abbrev pub moment_of : MemDisk → ℕ
moment_of disk = length disk.store.before

-- what a crash since a moment might have left
abbrev pub left_since_of : MemDisk → ℕ → List ℕ → Type 0
left_since_of disk t image = Image (content_of disk) image ⊎ LeftBefore disk.store.before t image

-- the k-th write or sync from now on is armed
abbrev pub ArmedAt : MemDisk → ℕ → Type 0
ArmedAt disk k = disk.calls.armed ≡ Some k

-- So many writes and syncs, of so many bytes in all, don't fail, nor does a call between them.
pub record HasRoom (disk : MemDisk) (k b : ℕ) : Type 0 where
  pub sound : IsSoundPlan disk.calls
  pub before : IsEarlierCall k disk.calls.armed
  pub calls : k + spare disk.calls.armed ≤ disk.room.calls
  pub bytes : b ≤ disk.room.bytes
