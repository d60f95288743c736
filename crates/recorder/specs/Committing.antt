-- What a commit of one epoch leaves, by its answer. This project's own.
use Rattle.std.specs.Prelude.{◌≡◌, ◌⊎◌, ℕ, true, false, List, [], ◌∷◌, ◌++◌, Result, Ok, Err}
use Rattle.std.specs.List.{AllByRecursion}
use Rattle.dp_base.specs.Journal.{IsGuest}
use Rattle.device.specs.Sending.{IsPrefixSent, SendCalls}
use Rattle.disk_model.specs.declared.world.Stream.TheVariants.{Out}
use Rattle.disk_model.specs.History.{History}
use Rattle.disk_model.specs.Moments.{Always}
use Rattle.epoch_journal.specs.declared.append.AppendFault.TheVariants as appends
use Rattle.epoch_journal.specs.Appending.{HasAppended, IsAppend, RecordCalls, RecordWritten}
use Rattle.epoch_journal.specs.Images.{IsBeforeOrAfter, Reads}
use Rattle.epoch_journal.specs.Standing.{Journal, Stands}
use Rattle.journal_text.specs.Records.{IsRecord, Record}
use Rattle.recorder.specs.declared.commit.CommitFault.{CommitFault}
use Rattle.recorder.specs.declared.commit.CommitFault.TheVariants as commits

-- While an epoch is committed a crash leaves the journal as it was, or with the record. Some of the output was sent
-- only if it leaves the record.
abbrev pub IsCommitting : (guest : List ℕ) → List Record → Record → (output : List ℕ) → History → (image sent : List ℕ) → Type 0
IsCommitting guest records r output h image sent =
    IsBeforeOrAfter guest records r h image sent ⊎ (Reads guest (records ++ r ∷ []) image × IsPrefixSent output h.sent sent)

-- What a commit leaves of a journal, once the record is on the disk.
pub record EpochCommitted (guest : List ℕ) (records : List Record) (r : Record) (output : List ℕ) (before after : History) : Type 0 where
  pub moments : IsGuest guest → AllByRecursion IsRecord (records ++ r ∷ []) → Always (IsCommitting guest records r output before) before after
  pub stands : Stands guest (records ++ r ∷ []) after

-- the same of each journal that the frame may be appended to
abbrev pub EachCommitted : Journal → (added output : List ℕ) → History → History → Type 0
EachCommitted j added output before after =
    (guest : List ℕ) (records : List Record) (r : Record) → IsAppend j.end added before guest records r → EpochCommitted guest records r output before after

abbrev pub Committed : Journal → (added output : List ℕ) → Result (Unit {0}) CommitFault → History → History → Type 0
Committed j added output (Ok done) before after = (after.sent ≡ before.sent ++ output) × (after.noted ≡ before.noted) × EachCommitted j added output before after
Committed j added output (Err commits.OutputFault) before after =
    IsPrefixSent output before.sent after.sent × (after.noted ≡ before.noted) × EachCommitted j added output before after
Committed j added output (Err (commits.Full end need)) before after = after ≡ before
Committed j added output (Err (commits.Failed last)) before after = after ≡ before
Committed j added output (Err commits.DiskFault) before after = RecordWritten j.end added false before after

-- what the journal is after it
abbrev pub HasCommitted : Journal → (size : ℕ) → Journal → Result (Unit {0}) CommitFault → Type 0
HasCommitted j size after (Ok done) = HasAppended j size after (Ok tt)
HasCommitted j size after (Err commits.OutputFault) = HasAppended j size after (Ok tt)
HasCommitted j size after (Err (commits.Full end need)) = HasAppended j size after (Err (appends.Full end need))
HasCommitted j size after (Err (commits.Failed last)) = HasAppended j size after (Err (appends.Failed last))
HasCommitted j size after (Err commits.DiskFault) = HasAppended j size after (Err appends.DiskFault)

-- No device has failed but the one that the answer names: the counts of the disk's faults and of the sink's, before and
-- after.
abbrev pub CommitMetNoOther : Result (Unit {0}) CommitFault → (disk disk_after sink sink_after : ℕ) → Type 0
CommitMetNoOther (Ok done) disk disk_after sink sink_after = (disk_after ≡ disk) × (sink_after ≡ sink)
CommitMetNoOther (Err commits.OutputFault) disk disk_after sink sink_after = disk_after ≡ disk
CommitMetNoOther (Err (commits.Full end need)) disk disk_after sink sink_after = (disk_after ≡ disk) × (sink_after ≡ sink)
CommitMetNoOther (Err (commits.Failed last)) disk disk_after sink sink_after = (disk_after ≡ disk) × (sink_after ≡ sink)
CommitMetNoOther (Err commits.DiskFault) disk disk_after sink sink_after = sink_after ≡ sink

-- the calls that it makes of the world: those of the append, and after them those that send the output
abbrev pub CommitCalls : Journal → (added output : List ℕ) → Result (Unit {0}) CommitFault → History → History → Type 0
CommitCalls j added output (Ok done) before after = (mid : History) × RecordCalls j.end added true before mid × SendCalls Out output true mid after
CommitCalls j added output (Err commits.OutputFault) before after = (mid : History) × RecordCalls j.end added true before mid × SendCalls Out output false mid after
CommitCalls j added output (Err (commits.Full end need)) before after = after ≡ before
CommitCalls j added output (Err (commits.Failed last)) before after = after ≡ before
CommitCalls j added output (Err commits.DiskFault) before after = RecordCalls j.end added false before after
