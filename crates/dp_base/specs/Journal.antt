-- The bytes of a journal, format DPJ1. This project's own; docs/JOURNAL.md shows them.
-- Each value has an encoding (`header`, `epoch_body`), and with it what a reader accepts at the start of bytes
-- (`header_at`, `epoch_body_at`): the value, and the bytes after it. journal_text says what a reader finds at a record.
use Rattle.std.specs.Prelude.{◌^◌, ◌<◌, ◌≤◌, ℕ, zero, suc, List, [], ◌∷◌, ◌++◌, length, sum_by, Option, Some, None, ◌==◌, ◌&&◌, nat_lt, nat_le, if◌then◌else◌}
use Rattle.std.specs.List.{flat_map, AllByRecursion}
use Rattle.std.specs.Str.{bytes_eq}
use Rattle.byteorder.specs.Endian.{little_bytes}
use Rattle.dp_base.specs.declared.limits.TheConstants.{MAX_BODY_BYTES, MAX_CALL_BYTES, MAX_EPOCH_STEPS}
use Rattle.dp_base.specs.declared.answer.Answer.{Answer}
use Rattle.dp_base.specs.declared.answer.Answer.TheVariants.{Read, Clock}
use Rattle.dp_base.specs.declared.slice.Slice.{Slice}
use Rattle.dp_base.specs.Field.{AreBytes, ◌>>=◌, bytes_at, number_at}

-- ---- what a journal has

-- an epoch: the slices that it ran, and the answers that the outside gave it
pub record Epoch : Type 0 where
  pub slices : List Slice
  pub answers : List Answer

-- what has an encoding

abbrev pub IsSlice : Slice → Type 0
IsSlice s = (0 < s.tid.0) × (s.tid.0 < 2 ^ 16) × (0 < s.steps) × (s.steps < 2 ^ 32)

abbrev pub IsAnswer : Answer → Type 0
IsAnswer (Read bytes) = (length bytes ≤ MAX_CALL_BYTES) × AreBytes bytes
IsAnswer (Clock reading) = reading < 2 ^ 64

-- how many steps slices have together
abbrev pub steps_of : List Slice → ℕ
steps_of slices = sum_by (λ s. s.steps) slices

pub record IsEpoch (e : Epoch) : Type 0 where
  pub some_slice : 0 < length e.slices
  pub slice_count : length e.slices < 2 ^ 32
  pub slices : AllByRecursion IsSlice e.slices
  pub steps : steps_of e.slices ≤ MAX_EPOCH_STEPS
  pub answer_count : length e.answers < 2 ^ 32
  pub answers : AllByRecursion IsAnswer e.answers

abbrev pub IsBody : List ℕ → Type 0
IsBody body = (0 < length body) × (length body ≤ MAX_BODY_BYTES) × AreBytes body

abbrev pub IsGuest : List ℕ → Type 0
IsGuest guest = (length guest < 2 ^ 32) × AreBytes guest

-- ---- encodings

-- a gate, the commit byte: what follows an open one counts, what follows a closed one does not
abbrev pub open_gate : ℕ
open_gate = 1

abbrev pub closed_gate : ℕ
closed_gate = 0

-- the bytes DPJ1
abbrev pub magic : List ℕ
magic = 0x44 ∷ 0x50 ∷ 0x4a ∷ 0x31 ∷ []

-- what follows the header's gate
abbrev pub header_body : List ℕ → List ℕ
header_body guest = magic ++ (little_bytes 4 (length guest) ++ guest)

abbrev pub header : List ℕ → List ℕ
header guest = open_gate ∷ header_body guest

-- a body after its length
abbrev pub length_prefixed : List ℕ → List ℕ
length_prefixed body = little_bytes 4 (length body) ++ body

-- what an append writes after the closed gate: the record, and the next closed gate
abbrev pub frame : List ℕ → List ℕ
frame body = length_prefixed body ++ closed_gate ∷ []

abbrev pub record_of : List ℕ → List ℕ
record_of body = open_gate ∷ length_prefixed body

abbrev pub slice : Slice → List ℕ
slice s = little_bytes 2 s.tid.0 ++ little_bytes 4 s.steps

abbrev pub answer : Answer → List ℕ
answer (Read bytes) = 0 ∷ (little_bytes 2 (length bytes) ++ bytes)
answer (Clock reading) = 1 ∷ little_bytes 8 reading

abbrev pub epoch_body : Epoch → List ℕ
epoch_body e = 0 ∷ (little_bytes 4 (length e.slices) ++ (flat_map slice e.slices
    ++ (little_bytes 4 (length e.answers) ++ flat_map answer e.answers)))

-- ---- what a reader accepts

unfoldable pub header_at : List ℕ → Option (List ℕ × List ℕ)
header_at bytes = do
  gate ← number_at 1 bytes
  word ← bytes_at 4 gate.1
  size ← number_at 4 word.1
  guest ← bytes_at size.0 size.1
  if (gate.0 == open_gate) && bytes_eq word.0 magic then Some guest else None

unfoldable pub slice_at : List ℕ → Option (Slice × List ℕ)
slice_at bytes = do
  tid ← number_at 2 bytes
  steps ← number_at 4 tid.1
  if nat_lt 0 tid.0 && nat_lt 0 steps.0 then Some (record { tid = record { 0 = tid.0 }; steps = steps.0 }, steps.1) else None

-- the bytes of a read, after its kind
unfoldable pub read_at : List ℕ → Option (Answer × List ℕ)
read_at bytes = do
  size ← number_at 2 bytes
  taken ← bytes_at size.0 size.1
  if nat_le size.0 MAX_CALL_BYTES then Some (Read taken.0, taken.1) else None

-- a reading of the clock, after its kind
unfoldable pub clock_at : List ℕ → Option (Answer × List ℕ)
clock_at bytes = do
  reading ← number_at 8 bytes
  Some (Clock reading.0, reading.1)

unfoldable pub answer_at : List ℕ → Option (Answer × List ℕ)
answer_at bytes = do
  kind ← number_at 1 bytes
  if kind.0 == 0 then read_at kind.1 else if kind.0 == 1 then clock_at kind.1 else None

-- `count` of a kind, one after another
unfoldable pub many_at : {X : Type 0} → (List ℕ → Option (X × List ℕ)) → ℕ → List ℕ → Option (List X × List ℕ)
many_at item zero bytes = Some ([], bytes)
many_at item (suc n) bytes = do
  first ← item bytes
  others ← many_at item n first.1
  Some (first.0 ∷ others.0, others.1)

unfoldable pub epoch_body_at : List ℕ → Option (Epoch × List ℕ)
epoch_body_at bytes = do
  kind ← number_at 1 bytes
  slice_count ← number_at 4 kind.1
  slices ← many_at slice_at slice_count.0 slice_count.1
  answer_count ← number_at 4 slices.1
  answers ← many_at answer_at answer_count.0 answer_count.1
  if (kind.0 == 0) && nat_lt 0 slice_count.0 && nat_le (steps_of slices.0) MAX_EPOCH_STEPS
      then Some (record { slices = slices.0; answers = answers.0 }, answers.1) else None
