-- Room for appends.
use Rattle.std.proofs.Common.{◌≡◌, ◌∙◌, ℕ, suc, ◌+◌, ◌*◌, ◌≤◌, Option, Some, None, ap, sym, subst, arith}
use Rattle.std.proofs.Math.Nat.{mul-le-mul_right, suc-mul}
use Rattle.hy_formats.specs.LogFormat.{page_count}
use Rattle.hy_mem.specs.declared.memory.MemDisk.{MemDisk}
use Rattle.hy_mem.specs.DiskFailures.{IsSoundPlan, IsEarlierCall, spare}
use Rattle.hy_disk.specs.Armed.{IsUnarmed}
use Rattle.hy_mem.specs.MemDisk.{HasRoom, ArmedAt}
use Rattle.hy_mem.specs.RoomLaws.{room_shrinks}
use Rattle.hy_log.specs.View.{LogView}
use Rattle.hy_memlog.specs.Pages.{HasRoomFor}

-- a device with this room, on which nothing is ordered to fail
pub unarmed_room : (disk : MemDisk) (k b : ℕ) → IsSoundPlan disk.calls → disk.calls.armed ≡ None → k ≤ disk.room.calls → b ≤ disk.room.bytes → HasRoom disk k b
unarmed_room disk k b sound armed calls bytes = record {
  sound = sound;
  before = subst (λ (a : Option ℕ). IsEarlierCall k a) (sym armed) tt;
  calls = subst (λ (a : Option ℕ). k + spare a ≤ disk.room.calls) (sym armed) (omega (arith, calls));
  bytes = bytes;
}

pub none_armed : (disk : MemDisk) → disk.calls.armed ≡ None → IsUnarmed (ArmedAt disk)
none_armed disk none = λ k some. let f : None ≡ Some k = sym none ∙ some in absurd (cc)

next_times : (n m : ℕ) → (n + 1) * m ≡ n * m + m
next_times n m = let is : n + 1 ≡ suc n = omega arith in ap (λ (k : ℕ). k * m) is ∙ suc-mul n m

-- room for one more body, and for the rest
pub one_more : (disk : MemDisk) (n p : ℕ) → HasRoom disk (4 * (n + 1)) ((n + 1) * (1 + 256 * p)) → HasRoom disk (4 * n + 4) (n * (1 + 256 * p) + 1 + 256 * p)
one_more disk n p room = room_shrinks disk (4 * n + 4) (4 * (n + 1)) (n * (1 + 256 * p) + 1 + 256 * p) ((n + 1) * (1 + 256 * p)) room (omega arith) (omega (arith, next_times n (1 + 256 * p)))

pub one_alone : (disk : MemDisk) (p : ℕ) → HasRoom disk (4 * 1) (1 * (1 + 256 * p)) → HasRoom disk 4 (1 + 256 * p)
one_alone disk p room = room_shrinks disk 4 (4 * 1) (1 + 256 * p) (1 * (1 + 256 * p)) room (omega arith) (omega arith)

-- for fewer
pub ready_fewer : (size m n : ℕ) (log : LogView MemDisk) → m ≤ n → HasRoomFor size n log → HasRoomFor size m log
ready_fewer size m n log fewer ready = record {
  steady = ready.steady;
  places = omega (arith, ready.places, fewer);
  pages = room_shrinks log.disk (4 * m) (4 * n) (m * (1 + 256 * page_count size)) (n * (1 + 256 * page_count size)) ready.pages (omega (arith, fewer)) (mul-le-mul_right (1 + 256 * page_count size) fewer);
}
