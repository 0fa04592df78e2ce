-- The bytes of a device in memory.
use Rattle.std.specs.Prelude.{◌≡◌, ℕ, ◌+◌, ◌≤◌, List, length, drop, reverse}
use Rattle.hy_disk.specs.Content.{Content}
use Rattle.hy_mem.specs.declared.mark.SyncMark.{SyncMark}
use Rattle.hy_mem.specs.Undo.{covered_total}

-- What it holds, and held before each sync, the newest first. Without memory it can take so many writes and syncs more, of
-- so many bytes in all.
pub record Stored : Type 0 where
  pub content : Content
  pub before : List Content
  pub calls : ℕ
  pub bytes : ℕ

-- The last sync was at a mark that isn't past the end, and what the writes since were over is kept.
pub record IsStore (last : SyncMark) (bytes : List ℕ) (ranges : List (ℕ × ℕ)) (covered : List ℕ) : Type 0 where
  pub within : last.bytes ≤ length bytes
  pub places : last.ranges ≤ length ranges
  pub kept : last.covered + covered_total last.bytes (reverse (drop last.ranges ranges)) ≡ length covered
