-- A fault of a recording, by that of its step; and which devices failed. This project's own.
use Rattle.std.specs.Prelude.{◌≡◌, ℕ, Result, Ok, Err}
use Rattle.epoch_journal.specs.declared.begin.BeginFault.{BeginFault}
use Rattle.epoch_journal.specs.declared.begin.BeginFault.TheVariants as begins
use Rattle.recorder.specs.declared.commit.CommitFault.{CommitFault}
use Rattle.recorder.specs.declared.commit.CommitFault.TheVariants as commits
use Rattle.recorder.specs.declared.record_fault.RecordFault.{RecordFault}
use Rattle.recorder.specs.declared.record_fault.RecordFault.TheVariants as faults

abbrev pub of_begin : BeginFault → RecordFault
of_begin (begins.InUse len) = faults.JournalInUse len
of_begin begins.DiskFault = faults.DiskFault
of_begin (begins.Full end need) = faults.JournalFull end need
of_begin begins.OutOfMemory = faults.OutOfMemory

abbrev pub of_commit : CommitFault → RecordFault
of_commit commits.DiskFault = faults.DiskFault
of_commit (commits.Full end need) = faults.JournalFull end need
of_commit (commits.Failed last) = faults.DiskFault
of_commit commits.OutputFault = faults.OutputFault

-- No device has failed but the one that the answer names: the counts of the disk's faults, of the sink's and of the
-- input's, before and after.
abbrev pub RecordMetNoOther : {A : Type 0} → Result A RecordFault → (disk disk_after sink sink_after input input_after : ℕ) → Type 0
RecordMetNoOther (Ok done) disk disk_after sink sink_after input input_after = (disk_after ≡ disk) × (sink_after ≡ sink) × (input_after ≡ input)
RecordMetNoOther (Err faults.DiskFault) disk disk_after sink sink_after input input_after = (sink_after ≡ sink) × (input_after ≡ input)
RecordMetNoOther (Err faults.OutputFault) disk disk_after sink sink_after input input_after = (disk_after ≡ disk) × (input_after ≡ input)
RecordMetNoOther (Err faults.InputFault) disk disk_after sink sink_after input input_after = (disk_after ≡ disk) × (sink_after ≡ sink)
RecordMetNoOther (Err (faults.JournalInUse len)) disk disk_after sink sink_after input input_after =
    (disk_after ≡ disk) × (sink_after ≡ sink) × (input_after ≡ input)
RecordMetNoOther (Err (faults.StepLimit steps)) disk disk_after sink sink_after input input_after =
    (disk_after ≡ disk) × (sink_after ≡ sink) × (input_after ≡ input)
RecordMetNoOther (Err (faults.JournalFull end need)) disk disk_after sink sink_after input input_after =
    (disk_after ≡ disk) × (sink_after ≡ sink) × (input_after ≡ input)
RecordMetNoOther (Err faults.OutOfMemory) disk disk_after sink sink_after input input_after =
    (disk_after ≡ disk) × (sink_after ≡ sink) × (input_after ≡ input)
