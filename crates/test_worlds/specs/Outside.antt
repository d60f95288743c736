-- What a test gives a run in memory. This project's own.
use Rattle.std.specs.Prelude.{ℕ, List, [], ◌∷◌}
use Rattle.disk_mem.specs.declared.fails.Fails.{Fails}
use Rattle.disk_mem.specs.declared.fails.Fails.TheVariants as fails
use Rattle.disk_mem.specs.MemoryFiles.{MemoryFiles}
use Rattle.test_worlds.specs.declared.failing.Failing.{Failing}
use Rattle.test_worlds.specs.declared.failing.Failing.TheVariants.{Never, At, AtBoth, From}

-- as a world in memory takes them
abbrev pub fails_as : Failing → Fails
fails_as Never = fails.Never
fails_as (At number) = fails.At (number ∷ [])
fails_as (AtBoth first second) = fails.At (first ∷ second ∷ [])
fails_as (From number) = fails.From number

-- one file, of which no fetch was made
abbrev pub one_file : (name bytes : List ℕ) → Fails → MemoryFiles
one_file name bytes fails = record { files = record { name = name; bytes = bytes } ∷ []; fails = fails; fetches = 0; faults = 0 }
