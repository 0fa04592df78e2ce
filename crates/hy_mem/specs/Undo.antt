-- How what a device held before is told from what it holds now: by the places of its writes, and the bytes that they were over.
use Rattle.std.specs.Prelude.{ℕ, ◌+◌, ◌-◌, min, List, [], ◌∷◌, length, take, drop, reverse}
use Rattle.hy_disk.specs.Content.{Content, overwritten}
use Rattle.hy_mem.specs.declared.mark.SyncMark.{SyncMark}

-- how many of the first so many bytes a write is over
abbrev pub covered_count : ℕ → ℕ × ℕ → ℕ
covered_count size range = min range.1 (size - range.0)

-- how many these writes are over
abbrev pub covered_total : ℕ → List (ℕ × ℕ) → ℕ
covered_total size [] = 0
covered_total size (range ∷ ranges) = covered_count size range + covered_total size ranges

-- The first `size` bytes as they were before these writes, of which the newest comes first. What the newest was over
-- stands last in `covered`.
abbrev pub restored : ℕ → List ℕ → List (ℕ × ℕ) → List ℕ → List ℕ
restored size bytes [] covered = bytes
restored size bytes (range ∷ earlier) covered =
    let rest = length covered - covered_count size range in
    restored size (overwritten bytes range.0 (drop rest covered)) earlier (take rest covered)

-- what is held where these bytes are seen, and the last sync was at this mark
abbrev pub content_at : SyncMark → List ℕ → List (ℕ × ℕ) → List ℕ → Content
content_at mark bytes ranges covered = record {
  seen = bytes;
  synced = restored mark.bytes (take mark.bytes bytes) (reverse (drop mark.ranges ranges)) (drop mark.covered covered);
  pending = drop mark.ranges ranges;
}

-- what was held before each sync, the newest first, where these bytes were seen at the newest
abbrev pub contents_before : List SyncMark → List ℕ → List (ℕ × ℕ) → List ℕ → List Content
contents_before [] bytes ranges covered = []
contents_before (mark ∷ earlier) bytes ranges covered =
    let content = content_at mark bytes ranges covered in
    content ∷ contents_before earlier content.synced (take mark.ranges ranges) (take mark.covered covered)
