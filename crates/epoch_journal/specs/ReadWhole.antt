-- What `read_whole` gives. This project's own.
use Rattle.std.specs.Prelude.{◌≡◌, ◌≤◌, ℕ, Bool, false, List, length, take, Option, Some, None, Result, Ok, Err, ⊤}
use Rattle.dp_base.specs.declared.limits.TheConstants.{MAX_JOURNAL_BYTES}
use Rattle.epoch_journal.specs.declared.reading.ReadFault.{ReadFault}
use Rattle.epoch_journal.specs.declared.reading.ReadFault.TheVariants as reads

-- the first bytes of the disk, if it is known
abbrev pub IsReadWhole : Option (List ℕ) → List ℕ → Type 0
IsReadWhole None bytes = ⊤
IsReadWhole (Some disk) bytes = bytes ≡ take MAX_JOURNAL_BYTES disk

-- The disk had no fault, unless the answer names one: the count of its faults, before and after.
abbrev pub ReadMetNoOther : {A : Type 0} → Result A ReadFault → (disk disk_after : ℕ) → Type 0
ReadMetNoOther (Ok done) disk disk_after = disk_after ≡ disk
ReadMetNoOther (Err reads.OutOfMemory) disk disk_after = disk_after ≡ disk
ReadMetNoOther (Err reads.DiskFault) disk disk_after = ⊤

-- ---- on the way. These serve the contracts of the crate's own steps.

-- the first bytes of the disk, as many as there are
abbrev pub IsReadSoFar : Option (List ℕ) → List ℕ → Type 0
IsReadSoFar None bytes = ⊤
IsReadSoFar (Some disk) bytes = bytes ≡ take (length bytes) disk

-- the same one chunk later; if there was none, all of it was read
abbrev pub IsReadOn : Option (List ℕ) → List ℕ → (more : Bool) → Type 0
IsReadOn None bytes more = ⊤
IsReadOn (Some disk) bytes more = IsReadSoFar (Some disk) bytes × (more ≡ false → length disk ≤ length bytes)
