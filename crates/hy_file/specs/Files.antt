-- What a device over a file shows: its path, whether the file is open, and its count of faults.
use Rattle.std.specs.Prelude.{ℕ, List, IsSome}
use Rattle.hy_file.specs.declared.disk.FileDisk.{FileDisk}

abbrev pub file_faults : {R F D : Type 0} → FileDisk R F D → ℕ
file_faults disk = disk.faults

abbrev pub file_path : {R F D : Type 0} → FileDisk R F D → List ℕ
file_path disk = disk.file.path.now

abbrev pub IsOpen : {R F D : Type 0} → FileDisk R F D → Type 0
IsOpen disk = IsSome disk.file.file
