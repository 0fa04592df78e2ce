-- What a device in memory has been through.
use Rattle.std.specs.Prelude.{◌⊎◌, ℕ, ◌≤◌, List, [], ◌∷◌, length}
use Rattle.hy_disk.specs.Content.{Content, Image}

-- What a crash after so many syncs or more, and before the last one, might have left: by what was held just before
-- each sync, the newest first. A write only adds to what a crash may leave, so what was held last between two syncs
-- tells of each moment there.
abbrev pub LeftBefore : List Content → ℕ → List ℕ → Type 0
LeftBefore [] t image = ⊥
LeftBefore (content ∷ earlier) t image = ((t ≤ length earlier) × Image content image) ⊎ LeftBefore earlier t image
