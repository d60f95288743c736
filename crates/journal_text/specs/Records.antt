-- The records of a journal, marks included: the body of each, and what a reader finds at a record's gate. This
-- project's own, over the bytes of an epoch (dp_base's Journal), of a guest between two slices (guest_state's
-- Checkpoint), and of what changed of it since the mark before (partial_mark's Partial).
use Rattle.std.specs.Prelude.{◌≤◌, ℕ, zero, suc, List, [], ◌∷◌, length, Option, Some, None, option_map, ◌==◌, nat_le, if◌then◌else◌}
use Rattle.dp_base.specs.declared.limits.TheConstants.{MAX_BODY_BYTES}
use Rattle.dp_base.specs.Encoding.{whole}
use Rattle.dp_base.specs.Field.{◌>>=◌, bytes_at, number_at}
use Rattle.dp_base.specs.Journal.{Epoch, IsEpoch, epoch_body, epoch_body_at, open_gate, record_of}
use Rattle.guest_state.specs.Checkpoint.{Checkpoint, IsCheckpoint, checkpoint_bytes, checkpoint_from}
use Rattle.partial_mark.specs.Partial.{IsPartial, Partial, partial_bytes, partial_from}

-- what a record holds: an epoch; the guest's whole state at the mark; or that state without the pages that its base has
pub data Record : Type 0 where
  epoch : Epoch → Record
  mark : Checkpoint → Record
  partial : Partial → Record

-- ---- encodings

-- the first byte of a full mark's body
abbrev pub mark_kind : ℕ
mark_kind = 1

abbrev pub body_of : Record → List ℕ
body_of (epoch e) = epoch_body e
body_of (mark c) = mark_kind ∷ checkpoint_bytes c
body_of (partial m) = partial_bytes m

-- the record after its open gate
abbrev pub record_bytes : Record → List ℕ
record_bytes r = record_of (body_of r)

-- what has an encoding

abbrev pub IsContent : Record → Type 0
IsContent (epoch e) = IsEpoch e
IsContent (mark c) = IsCheckpoint c
IsContent (partial m) = IsPartial m

abbrev pub IsRecord : Record → Type 0
IsRecord r = IsContent r × (length (body_of r) ≤ MAX_BODY_BYTES)

-- ---- what a reader accepts as a body

-- the checkpoint of a full mark's body, with no byte after it
unfoldable pub mark_in : List ℕ → Option Checkpoint
mark_in body = do
  kind ← number_at 1 body
  if kind.0 == mark_kind then whole checkpoint_from kind.1 else None

-- the first of two that is there
abbrev pub first_of : Option Record → Option Record → Option Record
first_of (Some r) other = Some r
first_of None other = other

-- the record that has this body
unfoldable pub record_in : List ℕ → Option Record
record_in body = first_of (option_map epoch (whole epoch_body_at body))
    (first_of (option_map mark (mark_in body)) (option_map partial (whole partial_from body)))

-- ---- what a reader finds at a gate

-- the body after an open gate and its length, and the bytes after it: none if it isn't there whole
unfoldable pub fitting_at : List ℕ → Option (List ℕ × List ℕ)
fitting_at bytes = do
  gate ← number_at 1 bytes
  size ← number_at 4 gate.1
  body ← bytes_at size.0 size.1
  if gate.0 == open_gate then Some body else None

-- the journal ends here; or here is a body that is no record's; or a record, with the bytes after it
pub data NextRecord : Type 0 where
  ended : NextRecord
  bad : NextRecord
  found : Record → List ℕ → NextRecord

abbrev pub found_in : Option Record → List ℕ → NextRecord
found_in None rest = bad
found_in (Some r) rest = found r rest

-- an empty body is no record's
abbrev pub next_of : Option (List ℕ × List ℕ) → NextRecord
next_of None = ended
next_of (Some (body, rest)) = if nat_le (length body) MAX_BODY_BYTES then found_in (record_in body) rest else bad

unfoldable pub next_at : List ℕ → NextRecord
next_at bytes = next_of (fitting_at bytes)

-- ---- the records one after another

-- a record before those that follow it, or none if there is no record
abbrev pub listed : (List ℕ → List Record × List ℕ) → List ℕ → NextRecord → List Record × List ℕ
listed others bytes ended = ([], bytes)
listed others bytes bad = ([], bytes)
listed others bytes (found r rest) = (r ∷ (others rest).0, (others rest).1)

-- at most this many
abbrev pub records_at : ℕ → List ℕ → List Record × List ℕ
records_at zero bytes = ([], bytes)
records_at (suc n) bytes = listed (records_at n) bytes (next_at bytes)

-- the records from here on, and the bytes at which the list ends; there are fewer records than bytes
unfoldable pub list_from : List ℕ → List Record × List ℕ
list_from bytes = records_at (length bytes) bytes
