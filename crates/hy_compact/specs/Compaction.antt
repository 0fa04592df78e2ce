-- What a spare device holds while a log's entries are copied to it, and then.
use Rattle.std.specs.Prelude.{◌⊎◌, ℕ, List, map, take, Result, Ok, Err}
use Rattle.hy_base.specs.declared.record.EntryKind.{EntryKind}
use Rattle.hy_formats.specs.declared.header.Header.{Header}
use Rattle.hy_formats.specs.EntryFormat.{spelling}
use Rattle.hy_formats.specs.LogDevice.{Holds, HoldsNothing}
use Rattle.hy_formats.specs.declared.refusal.OpenError.{OpenError}
use Rattle.hy_formats.specs.declared.refusal.OpenError.TheVariants as opening
use Rattle.hy_compact.specs.declared.error.CopyError.{CopyError}
use Rattle.hy_compact.specs.declared.error.CopyError.TheVariants as copying
use Rattle.hy_compact.specs.declared.error.RefusedCopy.{RefusedCopy}

-- the first of the entries, behind this header
abbrev pub HoldsFirst : Header → List EntryKind → List ℕ → Type 0
HoldsFirst h entries image = (n : ℕ) × Holds h (map (spelling h.shape.version) (take n entries)) image

-- an unborn device, one without records, or the first of the entries
abbrev pub IsPartlyCopied : Header → List EntryKind → List ℕ → Type 0
IsPartlyCopied h entries image = HoldsNothing image ⊎ HoldsFirst h entries image

-- the spare device
abbrev pub spare_of : {D : Type 0} → Result D (RefusedCopy D) → D
spare_of (Ok spare) = spare
spare_of (Err refused) = refused.spare

-- why a spare device that should be unborn isn't opened
abbrev pub open_fault : OpenError → CopyError
open_fault opening.Memory = copying.Memory
open_fault opening.Device = copying.Device
open_fault (opening.BadPage bad) = copying.InUse
open_fault (opening.Config field log asked) = copying.InUse
open_fault opening.Unborn = copying.InUse
