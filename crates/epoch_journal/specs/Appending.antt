-- What `append` leaves, by its answer. This project's own.
use Rattle.std.specs.Prelude.{◌≡◌, ◌⊎◌, ◌<◌, ◌≤◌, ◌+◌, ◌-◌, ℕ, Bool, true, false, List, [], ◌∷◌, ◌++◌, length, Result, Ok, Err, ⊤}
use Rattle.std.specs.List.{AllByRecursion}
use Rattle.dp_base.specs.Encoding.{IsPrefixOf}
use Rattle.dp_base.specs.Journal.{IsGuest, frame, open_gate}
use Rattle.device.specs.Writing.{SentNothing, WroteAndSynced}
use Rattle.disk_model.specs.History.{History}
use Rattle.disk_model.specs.Moments.{Always}
use Rattle.epoch_journal.specs.declared.append.AppendFault.{AppendFault}
use Rattle.epoch_journal.specs.declared.append.AppendFault.TheVariants as appends
use Rattle.epoch_journal.specs.Images.{IsBeforeOrAfter}
use Rattle.epoch_journal.specs.Standing.{IsShut, Journal, Stands}
use Rattle.journal_text.specs.Records.{IsRecord, Record, body_of}

-- A record's frame may be appended to a journal: the journal is on the disk, and the gate after its records isn't open
-- and is the last byte before this offset.
pub record IsAppend (end : ℕ) (added : List ℕ) (before : History) (guest : List ℕ) (records : List Record) (r : Record) : Type 0 where
  pub stands : IsShut guest records before
  pub at_end : end ≡ length before.disk
  pub framed : added ≡ frame (body_of r)

-- What an append leaves of that journal. At every moment a crash leaves the journal as it was, or the one with the
-- record. After success the one with the record is there. After a fault what was synced begins with what was there.
pub record RecordAppended (guest : List ℕ) (records : List Record) (r : Record) (ok : Bool) (before after : History) : Type 0 where
  pub moments : IsGuest guest → AllByRecursion IsRecord (records ++ r ∷ []) → Always (IsBeforeOrAfter guest records r before) before after
  pub stands : ok ≡ true → Stands guest (records ++ r ∷ []) after
  pub kept : ok ≡ false → IsPrefixOf before.disk after.pending.synced

-- What an append leaves of each journal that the frame may be appended to. Nothing was sent.
abbrev pub RecordWritten : (end : ℕ) → (added : List ℕ) → Bool → History → History → Type 0
RecordWritten end added ok before after = SentNothing before after
    × ((guest : List ℕ) (records : List Record) (r : Record) → IsAppend end added before guest records r → RecordAppended guest records r ok before after)

abbrev pub Appended : Journal → (added : List ℕ) → Result (Unit {0}) AppendFault → History → History → Type 0
Appended j added (Ok done) before after = RecordWritten j.end added true before after
Appended j added (Err (appends.Failed last)) before after = after ≡ before
Appended j added (Err (appends.Full end need)) before after = after ≡ before
Appended j added (Err appends.DiskFault) before after = RecordWritten j.end added false before after

-- What the journal is after an append of this many bytes. The answer is Failed exactly if an earlier append met a
-- device's fault, and else Full exactly if the frame doesn't fit.
abbrev pub HasAppended : Journal → (size : ℕ) → Journal → Result (Unit {0}) AppendFault → Type 0
HasAppended j size after (Ok done) =
    (j.failed ≡ false) × (j.end + size ≤ j.room) × (after ≡ record j { end = j.end + size; count = j.count + 1 })
HasAppended j size after (Err (appends.Failed last)) = (j.failed ≡ true) × (last ≡ j.count) × (after ≡ j)
HasAppended j size after (Err (appends.Full end need)) =
    (j.failed ≡ false) × (end ≡ j.end) × (need ≡ size) × (j.room < j.end + size) × (after ≡ j)
HasAppended j size after (Err appends.DiskFault) =
    (j.failed ≡ false) × (j.end + size ≤ j.room) × (after ≡ record j { failed = true })

-- the answers before which no call was made
abbrev pub MakesNoCall : Result (Unit {0}) AppendFault → Type 0
MakesNoCall (Ok done) = ⊥
MakesNoCall (Err (appends.Failed last)) = ⊤
MakesNoCall (Err (appends.Full end need)) = ⊤
MakesNoCall (Err appends.DiskFault) = ⊥

-- ---- its calls

-- The four calls: a frame is written after the gate at the end, and synced; the gate is opened, and that is synced.
abbrev pub RecordCalls : (end : ℕ) → (added : List ℕ) → Bool → History → History → Type 0
RecordCalls end added true before after =
    (mid : History) × WroteAndSynced end added true before mid × WroteAndSynced (end - 1) (open_gate ∷ []) true mid after
RecordCalls end added false before after =
    WroteAndSynced end added false before after
    ⊎ ((mid : History) × WroteAndSynced end added true before mid × WroteAndSynced (end - 1) (open_gate ∷ []) false mid after)

abbrev pub AppendCalls : Journal → (added : List ℕ) → Result (Unit {0}) AppendFault → History → History → Type 0
AppendCalls j added (Ok done) before after = RecordCalls j.end added true before after
AppendCalls j added (Err (appends.Failed last)) before after = after ≡ before
AppendCalls j added (Err (appends.Full end need)) before after = after ≡ before
AppendCalls j added (Err appends.DiskFault) before after = RecordCalls j.end added false before after
