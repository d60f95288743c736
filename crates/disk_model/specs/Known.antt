-- What may be known or not, as a history. If it isn't known these say nothing. This project's own.
use Rattle.std.specs.Prelude.{◌≡◌, ◌≤◌, ℕ, ◌+◌, List, ◌++◌, length, take, drop, Option, Some, None, ⊤}
use Rattle.disk_model.specs.History.{History}

-- what a read of the whole disk gives
abbrev pub known_disk : Option History → Option (List ℕ)
known_disk None = None
known_disk (Some h) = Some h.disk

-- If what was before is known, what is after is known too, and this step leads from one to the other.
abbrev pub IfKnown : {A : Type 0} → (A → A → Type 0) → Option A → Option A → Type 0
IfKnown step None after = ⊤
IfKnown {A} step (Some before) after = (there : A) × (after ≡ Some there) × step before there

-- old with these bytes from an offset on
abbrev pub overwritten : (at : ℕ) → (bytes old : List ℕ) → List ℕ
overwritten at bytes old = take at old ++ bytes ++ drop (at + length bytes) old

-- this many bytes
abbrev pub IsLength : Option (List ℕ) → ℕ → Type 0
IsLength None n = ⊤
IsLength (Some content) n = n ≡ length content

-- after a write of these bytes at an offset that is not past the end
abbrev pub IsWritten : Option (List ℕ) → ℕ → List ℕ → Option (List ℕ) → Type 0
IsWritten None at bytes after = ⊤
IsWritten (Some old) at bytes after = at ≤ length old → after ≡ Some (overwritten at bytes old)
