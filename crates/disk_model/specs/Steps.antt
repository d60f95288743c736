-- How each call of a world extends its history. This project's own.
use Rattle.std.specs.Prelude.{◌≡◌, ◌≤◌, ◌⊎◌, ℕ, ◌-◌, min, max, Bool, true, false, List, [], ◌∷◌, ◌++◌, length, take, drop, Result, Ok, Err, Option, Some, None, ⊤}
use Rattle.disk_model.specs.declared.world.Failed.{Failed}
use Rattle.disk_model.specs.declared.world.Stream.{Stream}
use Rattle.disk_model.specs.declared.world.Stream.TheVariants.{Out, Note}
use Rattle.disk_model.specs.History.{Pending, History, nothing_pending, write_pending, now}
use Rattle.disk_model.specs.Known.{overwritten}

-- ---- reads, which extend nothing

-- A read from an offset on gave this many bytes into the start of a buffer.
abbrev pub IsRead : Option (List ℕ) → (at : ℕ) → (old new : List ℕ) → ℕ → Type 0
IsRead None at old new n = ⊤
IsRead (Some disk) at old new n = (n ≡ min (length old) (length disk - at)) × (new ≡ take n (drop at disk) ++ drop n old)

-- ---- the disk

-- with this content, this pending, and one moment more
abbrev pub disk_changed : List ℕ → Pending → History → History
disk_changed disk pending h = record h {
  disk = disk;
  pending = pending;
  past = h.past ++ record { pending = pending; sent = h.sent; piece = [] } ∷ [];
}

-- after a write that gave the disk this content, whole or in part
abbrev pub after_write : (at count : ℕ) → (disk : List ℕ) → History → History
after_write at count disk h = disk_changed disk (write_pending at count h.pending) h

-- A write. One that fails did nothing, or any part of its work, and its range is pending.
abbrev pub Wrote : ℕ → List ℕ → Bool → History → History → Type 0
Wrote at bytes true h there = (disk : List ℕ) × (there ≡ after_write at (length bytes) disk h) × (at ≤ length h.disk → disk ≡ overwritten at bytes h.disk)
Wrote at bytes false h there = (there ≡ h) ⊎ ((disk : List ℕ) × (there ≡ after_write at (length bytes) disk h))

-- A cut to this length is pending too. One past the end may lengthen the disk.
abbrev pub cut_pending : ℕ → Pending → Pending
cut_pending size p = record p { least = min p.least size; greatest = max p.greatest size }

-- after a cut that gave the disk this content, whole or in part
abbrev pub truncated : (size : ℕ) → (disk : List ℕ) → History → History
truncated size disk h = disk_changed disk (cut_pending size h.pending) h

-- A cut. One that fails did nothing, or any part of its work, and is pending.
abbrev pub Truncated : ℕ → Bool → History → History → Type 0
Truncated size true h there = (disk : List ℕ) × (there ≡ truncated size disk h) × (size ≤ length h.disk → disk ≡ take size h.disk)
Truncated size false h there = (there ≡ h) ⊎ ((disk : List ℕ) × (there ≡ truncated size disk h))

-- one moment more
abbrev pub passed : History → History
passed h = record h { past = h.past ++ now h ∷ [] }

-- A sync. After one that fails all that was pending still is.
abbrev pub Synced : Bool → History → History → Type 0
Synced true h there = there ≡ record (passed h) { pending = nothing_pending h.disk }
Synced false h there = (there ≡ h) ⊎ (there ≡ passed h)

-- ---- the streams

-- what a stream has got
abbrev pub stream_of : Stream → History → List ℕ
stream_of Out h = h.sent
stream_of Note h = h.noted

-- after an emit of a piece of which this many bytes were taken; Out alone counts at a moment
abbrev pub emitted : Stream → List ℕ → ℕ → History → History
emitted Out piece count h = record h {
  sent = h.sent ++ take count piece;
  past = h.past ++ record { pending = h.pending; sent = h.sent; piece = piece } ∷ [];
}
emitted Note piece count h = record (passed h) { noted = h.noted ++ take count piece }

-- An emit. One that fails sent nothing, or any prefix of the piece.
abbrev pub Emitted : Stream → List ℕ → Result ℕ Failed → History → History → Type 0
Emitted to piece (Ok count) h there = there ≡ emitted to piece count h
Emitted to piece (Err _) h there = (there ≡ h) ⊎ ((count : ℕ) × (there ≡ emitted to piece count h))
