-- A log over a device in memory.
use Rattle.std.specs.Prelude.{◌≡◌, ℕ, ◌+◌, ◌*◌, ◌≤◌, List, [], ◌++◌, replicate, Option, None}
use Rattle.hy_base.specs.declared.layout.Shape.{Shape}
use Rattle.hy_base.specs.declared.workload.ArmedStop.{ArmedStop}
use Rattle.hy_base.specs.Shape.{IsWithin}
use Rattle.hy_formats.specs.LogFormat.{page_count}
use Rattle.hy_rules.specs.Moves.{surviving}
use Rattle.hy_disk.specs.Armed.{IsUnarmed}
use Rattle.hy_mem.specs.declared.memory.MemDisk.{MemDisk}
use Rattle.hy_mem.specs.MemDisk.{HasRoom, ArmedAt}
use Rattle.hy_log.specs.View.{LogView}

-- its shape and its bodies. There are none once memory ran out in a new opening: the log is broken
pub record Pages : Type 0 where
  pub shape : Shape
  pub bodies : Option (List (List ℕ))

-- the log wasn't cut, nothing is ordered to fail, nothing has failed, and no body waits to be written
pub record IsSteady (log : LogView MemDisk) : Type 0 where
  pub whole : log.from ≡ 0
  pub running : log.stopped ≡ None
  pub nothing_waits : log.batch ≡ []
  pub unarmed : IsUnarmed (ArmedAt log.disk)
  pub room : HasRoom log.disk 0 0

-- and a body of this size can be appended so many times without memory
pub record HasRoomFor (size count : ℕ) (log : LogView MemDisk) : Type 0 where
  pub steady : IsSteady log
  pub places : count ≤ log.spare
  pub pages : HasRoom log.disk (4 * count) (count * (1 + 256 * page_count size))

-- a stop has one of four calls and one of three patterns
pub record IsStop (stop : ArmedStop) : Type 0 where
  pub call : IsWithin 1 4 stop.call
  pub pattern : stop.pattern ≤ 2

-- the bodies with one more, so many times, where a stop may happen in the first of these appends
abbrev pub with_body : Option ArmedStop → ℕ → List ℕ → List (List ℕ) → List (List ℕ)
with_body stop count body bodies = bodies ++ replicate (surviving stop count) body

-- the log is broken
abbrev pub broken_log : Pages → Pages
broken_log p = record p { bodies = None }

-- a log of this shape at rest
pub record IsAtRest (shape : Shape) (log : LogView MemDisk) : Type 0 where
  pub shape_is : log.shape ≡ shape
  pub steady : IsSteady log
