-- What the readers answer, as what the definitions say. This project's own.
use Rattle.std.specs.Prelude.{◌≡◌, ◌<◌, ◌≤◌, ◌+◌, ℕ, true, List, length, drop, Option, Some, None, is_some}
use Rattle.dp_base.specs.declared.limits.TheConstants.{MAX_BODY_BYTES}
use Rattle.dp_base.specs.Journal as journal
use Rattle.guest_state.specs.Checkpoint as state
use Rattle.partial_mark.specs.Partial as marks
use Rattle.journal_text.specs.declared.journal_header.Head.{Head}
use Rattle.journal_text.specs.declared.journal_header.Head.TheVariants.{Whole, NoJournal}
use Rattle.journal_text.specs.declared.record.Rec.{Rec}
use Rattle.journal_text.specs.declared.record.Rec.TheVariants.{Epoch, Mark, Partial, End, Bad}
use Rattle.journal_text.specs.Records.{body_of, bad, ended, epoch, found, mark, next_at, partial, record_in}

-- what an answer says of a header at the start of a file
abbrev pub IsHead : Option (List ℕ × List ℕ) → Head → Type 0
IsHead (Some h) head = head ≡ Whole (length h.0)
IsHead None head = head ≡ NoJournal

-- what an answer says of the place `at` of a file
abbrev pub IsNextRecord : (file : List ℕ) → (at : ℕ) → Rec → Type 0
IsNextRecord file at (Epoch body next) = (e : journal.Epoch) × (next_at (drop at file) ≡ found (epoch e) (drop next file))
    × (body.now ≡ body_of (epoch e)) × (at < next) × (next ≤ length file)
IsNextRecord file at (Mark body next) = (c : state.Checkpoint) × (next_at (drop at file) ≡ found (mark c) (drop next file))
    × (body.now ≡ body_of (mark c)) × (at < next) × (next ≤ length file)
IsNextRecord file at (Partial body next) = (m : marks.Partial) × (next_at (drop at file) ≡ found (partial m) (drop next file))
    × (body.now ≡ body_of (partial m)) × (at < next) × (next ≤ length file)
IsNextRecord file at (End place) = (next_at (drop at file) ≡ ended) × (place ≡ at)
IsNextRecord file at Bad = next_at (drop at file) ≡ bad

-- a record may have this body
pub record IsRecordBody (body : List ℕ) : Type 0 where
  pub some : 0 < length body
  pub few : length body ≤ MAX_BODY_BYTES
  pub is : is_some (record_in body) ≡ true

-- how long a frame is: a body of at least one byte, its length, and the closed gate
abbrev pub IsFrameLength : List ℕ → Type 0
IsFrameLength frame = (5 < length frame) × (length frame ≤ MAX_BODY_BYTES + 5)
