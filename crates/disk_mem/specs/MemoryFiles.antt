-- Files in memory, and what each fetch leaves. This project's own.
use Rattle.std.specs.Prelude.{ℕ, Bool, List, map, string_bytes}
use Rattle.disk_model.specs.Directory.{File}
use Rattle.disk_mem.specs.declared.fails.Fails.{Fails}
use Rattle.disk_mem.specs.declared.named_file.NamedFile.{NamedFile}
use Rattle.disk_mem.specs.Counted.{counted_up}
use Rattle.disk_mem.specs.Fails.{fails_at}

-- a file as a directory has it
abbrev pub as_file : NamedFile → File
as_file f = record { name = string_bytes f.name; bytes = f.bytes.items }

abbrev pub as_files : List NamedFile → List File
as_files files = map as_file files

pub record MemoryFiles : Type 0 where
  pub files : List File
  -- which fetches fail
  pub fails : Fails
  -- how many fetches there were, and how many of them failed
  pub fetches : ℕ
  pub faults : ℕ

-- before the first fetch
abbrev pub of_files : List NamedFile → Fails → MemoryFiles
of_files files fails = record { files = as_files files; fails = fails; fetches = 0; faults = 0 }

-- whether the next fetch fails by its number
abbrev pub fetch_fails_next : MemoryFiles → Bool
fetch_fails_next m = fails_at m.fails (counted_up m.fetches)

-- after one that didn't fail, or for which an allocation failed
abbrev pub did_fetch : MemoryFiles → MemoryFiles
did_fetch m = record m { fetches = counted_up m.fetches }

-- after one that failed
abbrev pub failed_fetch : MemoryFiles → MemoryFiles
failed_fetch m = record (did_fetch m) { faults = counted_up m.faults }
