-- The outcome of an inspection, by its answer, and how far one is. This project's own.
use Rattle.std.specs.Prelude.{◌≡◌, ◌+◌, ◌-◌, ◌≤◌, ℕ, Bool, true, false, List, [], ◌++◌, length, drop, Option, Some, None, Result, Ok, Err}
use Rattle.disk_model.specs.History.{History}
use Rattle.disk_model.specs.Known.{IfKnown}
use Rattle.disk_model.specs.Moments.{Always}
use Rattle.epoch_journal.specs.declared.reading.ReadFault.{ReadFault}
use Rattle.epoch_journal.specs.declared.reading.ReadFault.TheVariants as reads
use Rattle.journal_text.specs.Reading.{Reading, bad_record, end, tail_at}
use Rattle.journal_text.specs.Records.{list_from, next_at}
use Rattle.epoch_replay.specs.declared.inspect_fault.InspectFault.{InspectFault}
use Rattle.epoch_replay.specs.declared.inspect_fault.InspectFault.TheVariants as faults
use Rattle.epoch_replay.specs.declared.inspecting.Listing.{Listing}
use Rattle.epoch_replay.specs.Inspection.{inspection, record_lines, tail_line}
use Rattle.epoch_replay.specs.Playing.{left_at}
use Rattle.epoch_replay.specs.Replaying.{HasSent, HasSentSome, IsReplaying}

abbrev pub inspect_fault_of : ReadFault → InspectFault
inspect_fault_of reads.DiskFault = faults.DiskFault
inspect_fault_of reads.OutOfMemory = faults.OutOfMemory

-- No device has failed but the one that the answer names: the counts of the disk's faults and of the sink's, before and
-- after.
abbrev pub InspectMetNoOther : {A : Type 0} → Result A InspectFault → (disk disk_after sink sink_after : ℕ) → Type 0
InspectMetNoOther (Ok done) disk disk_after sink sink_after = (disk_after ≡ disk) × (sink_after ≡ sink)
InspectMetNoOther (Err faults.DiskFault) disk disk_after sink sink_after = sink_after ≡ sink
InspectMetNoOther (Err faults.OutputFault) disk disk_after sink sink_after = disk_after ≡ disk
InspectMetNoOther (Err faults.NoJournal) disk disk_after sink sink_after = (disk_after ≡ disk) × (sink_after ≡ sink)
InspectMetNoOther (Err (faults.BadJournal number)) disk disk_after sink sink_after = (disk_after ≡ disk) × (sink_after ≡ sink)
InspectMetNoOther (Err faults.OutOfMemory) disk disk_after sink sink_after = (disk_after ≡ disk) × (sink_after ≡ sink)

-- ---- by its answer

-- at every moment the disk was as it had been, and a prefix of this text had been sent
abbrev pub SendsInOrder : List ℕ → (before after : Option History) → Type 0
SendsInOrder text before after = IfKnown (λ s t. Always (IsReplaying text s) s t) before after

-- this text was sent on Out, and nothing on Note
abbrev pub Shown : List ℕ → (before after : Option History) → Type 0
Shown text before after = IfKnown (HasSent text []) before after × SendsInOrder text before after

-- a prefix of it was
abbrev pub ShownInPart : List ℕ → (before after : Option History) → Type 0
ShownInPart text before after = IfKnown (HasSentSome text) before after × SendsInOrder text before after

-- of a file with this reading
abbrev pub Inspected : Option Reading → (before after : Option History) → Result (Unit {0}) InspectFault → Type 0
Inspected reading before after (Ok done) = (r : Reading) × (place : ℕ) × (reading ≡ Some r) × (r.tail ≡ end place) × Shown (inspection r) before after
Inspected reading before after (Err faults.NoJournal) = (reading ≡ None) × (after ≡ before)
Inspected reading before after (Err (faults.BadJournal number)) =
    (r : Reading) × (reading ≡ Some r) × (r.tail ≡ bad_record number) × Shown (inspection r) before after
Inspected reading before after (Err faults.DiskFault) = after ≡ before
Inspected reading before after (Err faults.OutputFault) = (r : Reading) × (reading ≡ Some r) × ShownInPart (inspection r) before after
Inspected reading before after (Err faults.OutOfMemory) = after ≡ before

-- ---- where it is

-- what every step keeps within its bounds
pub record IsWithinFile (file : List ℕ) (here : Listing) : Type 0 where
  pub few : here.number ≤ here.at
  pub within : here.at ≤ length file

-- the lines of the records before the place were sent
pub record ListedSoFar (reading : Reading) (file : List ℕ) (first now : Option History) (here : Listing) : Type 0 where
  pub text : List ℕ
  pub left : inspection reading ≡ text ++ (record_lines here.number (left_at file here.at) ++ tail_line reading.tail)
  pub tail : reading.tail ≡ tail_at (next_at (list_from (drop here.at file)).1) (length file - length (list_from (drop here.at file)).1) (here.number + length (left_at file here.at))
  pub shown : Shown text first now

-- the list goes on, or all was sent
abbrev pub ListingGoesOn : Reading → (file : List ℕ) → (first now : Option History) → Listing → (more : Bool) → Type 0
ListingGoesOn reading file first now here true = ListedSoFar reading file first now here
ListingGoesOn reading file first now here false = Inspected (Some reading) first now (Ok tt)

-- one record later
abbrev pub ListedOn : Reading → (file : List ℕ) → (first now : Option History) → Listing → Result Bool InspectFault → Type 0
ListedOn reading file first now here (Ok more) = ListingGoesOn reading file first now here more
ListedOn reading file first now here (Err fault) = Inspected (Some reading) first now (Err fault)
