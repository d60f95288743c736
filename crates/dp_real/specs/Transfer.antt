-- What a transfer that fails has done to the bytes that a writer holds and a reader has left, if those are known. This
-- crate's own.
use Rattle.std.specs.Prelude.{◌<◌, ℕ, List, Option, length, take}
use Rattle.std.specs.Io.KnownBytes.{Appends, Consumes}

-- they grew by the first of these bytes, or by none, and not by all
abbrev pub AppendsStart : Option (List ℕ) → Option (List ℕ) → List ℕ → Type 0
AppendsStart old new bytes = (count : ℕ) × (count < length bytes) × Appends old new (take count bytes)

-- they lost what is at the start of a buffer, or nothing, and fewer bytes than the buffer has
abbrev pub ConsumesStart : Option (List ℕ) → Option (List ℕ) → List ℕ → Type 0
ConsumesStart old new buf = (count : ℕ) × (count < length buf) × Consumes old new (take count buf)
