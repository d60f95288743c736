-- The outcome of a command, by its status. This project's own.
use Rattle.std.specs.Prelude.{◌≡◌, ◌⊎◌, ℕ, Bool, false, List, [], Option, Some, None, Result, String}
use Rattle.std.specs.declared.alloc.Global.{Global}
use Rattle.device.specs.Sending.{Sent}
use Rattle.dp_base.specs.Field.{AreBytes}
use Rattle.disk_model.specs.declared.world.Stream.TheVariants.{Note}
use Rattle.disk_model.specs.Directory.{File, IsFetched}
use Rattle.disk_model.specs.History.{History}
use Rattle.disk_model.specs.Input.{Input}
use Rattle.disk_model.specs.Known.{IfKnown, known_disk}
use Rattle.dp_report.specs.declared.report.Report.{Report}
use Rattle.dp_report.specs.declared.status.Status.{Status}
use Rattle.dp_report.specs.declared.status.Status.TheVariants as statuses
use Rattle.dp_report.specs.Texts.{status_line}
use Rattle.elf_image.specs.Faults.{image_fault}
use Rattle.guest_kernel.specs.Start.{IsGuestFile, start_state}
use Rattle.racing_runner.specs.Offers.{Tells}
use Rattle.recorder.specs.declared.options.Options.{Options}
use Rattle.recorder.specs.declared.record_fault.RecordFault.{RecordFault}
use Rattle.recorder.specs.Moments.{EachMoment}
use Rattle.recorder.specs.Recording.{Recorded}
use Rattle.dp_words.specs.Commands.{are_taken}
use Rattle.epoch_replay.specs.declared.inspect_fault.InspectFault.{InspectFault}
use Rattle.epoch_replay.specs.declared.replay_fault.ReplayFault.{ReplayFault}
use Rattle.epoch_replay.specs.Inspecting.{Inspected}
use Rattle.epoch_replay.specs.Replaying.{OnDisk, Replayed}
use Rattle.journal_text.specs.Reading.{Reading, end as ends_at, reads}
use Rattle.dp_top.specs.Answer.{status_of, status_of_inspection, status_of_replay}
use Rattle.dp_top.specs.SelfTesting.{SelfTestedTo}
use Rattle.dp_top.specs.Asking.{Asked, AskedInspection, AskedReplay, AskedSelfTest}

-- The file of this name, which is of bytes, is a guest, and its recording with these options had this outcome, by a
-- racer with these known offers at first.
pub record RecordedAs (tells : Tells) (name : List ℕ) (options : Options) (files : Option (List File)) (i j : Option Input) (before after : Option History) (answer : Result Report RecordFault) : Type 0 where
  pub bytes : List ℕ
  pub of_bytes : AreBytes bytes
  pub fetched : IsFetched files name bytes
  pub accepted : IsGuestFile bytes
  pub recorded : Recorded bytes tells (start_state bytes) options i j before after answer
  pub moments : EachMoment bytes options.mark (start_state bytes) i j before after

-- What a record command results in, before its status's line is sent on Note. Nothing was done, since the guest's file
-- could not be read, or is refused, or memory ran out; or the guest was recorded, and the status is that of the
-- recording's answer.
abbrev pub HasEndedWith : Tells → (name : List ℕ) → Options → Option (List File) → (i j : Option Input) → (before after : Option History) → Status → Type 0
HasEndedWith tells name options files i j before after status =
    (((status ≡ statuses.GuestFault) ⊎ (status ≡ statuses.OutOfMemory)) × (j ≡ i) × (after ≡ before))
    ⊎ ((bytes : List ℕ) × (fault : ℕ) × (status ≡ statuses.BadImage fault) × IsFetched files name bytes × (image_fault bytes ≡ Some fault) × (j ≡ i) × (after ≡ before))
    ⊎ ((answer : Result Report RecordFault) × (status ≡ status_of answer) × RecordedAs tells name options files i j before after answer)

-- The outcome of a replay command, before its status is sent on Note: a replay of the bytes that the disk reads as.
abbrev pub ReplayedTo : Option History → Option History → Status → Type 0
ReplayedTo before after status = (answer : Result Report ReplayFault) × (status ≡ status_of_replay answer)
    × OnDisk (known_disk before) (λ bytes. Replayed (reads bytes) before after answer)

-- The outcome of an inspection, before its status is sent on Note: a listing of the bytes that the disk reads as.
abbrev pub InspectedTo : Option History → Option History → Status → Type 0
InspectedTo before after status = (answer : Result (Unit {0}) InspectFault) × (status ≡ status_of_inspection answer)
    × OnDisk (known_disk before) (λ bytes. Inspected (reads bytes) before after answer)

-- The words aren't taken, or ask for a recording, a replay, an inspection or a self-test that came to this. Only a
-- recording takes from the input or reads the clock.
abbrev pub Did : Tells → List (String Global) → Option (List File) → (i j : Option Input) → (before after : Option History) → Status → Type 0
Did tells words files i j before after status =
    ((status ≡ statuses.Usage) × (are_taken words ≡ false) × (j ≡ i) × (after ≡ before))
    ⊎ ((status ≡ statuses.OutOfMemory) × (j ≡ i) × (after ≡ before))
    ⊎ ((a : Asked words) × HasEndedWith tells a.guest a.options files i j before after status)
    ⊎ (AskedReplay words × (j ≡ i) × ReplayedTo before after status)
    ⊎ (AskedInspection words × (j ≡ i) × InspectedTo before after status)
    ⊎ ((a : AskedSelfTest words) × (j ≡ i) × SelfTestedTo a.n before after status)

-- The command came to this, and then the status's line was sent on Note: all of it, or a prefix. At Ok it has no line:
-- the report's has been sent by then, and an inspection and a self-test have none.
abbrev pub RanCommand : Tells → List (String Global) → Option (List File) → (i j : Option Input) → (before after : Option History) → Status → (told : Bool) → Type 0
RanCommand tells words files i j before after status told = (done : Option History) × Did tells words files i j before done status × IfKnown (Sent Note (status_line status) told) done after

-- the guest's file is refused
abbrev pub IsBadImage : Status → Type 0
IsBadImage status = (fault : ℕ) × (status ≡ statuses.BadImage fault)

-- ---- completeness

-- it is known that the word GUEST names a guest
abbrev pub NamesGuest : (name : List ℕ) → Option (List File) → Type 0
NamesGuest name None = ⊥
NamesGuest name (Some files) = (bytes : List ℕ) × IsFetched (Some files) name bytes × IsGuestFile bytes

-- it is known that the disk is empty
abbrev pub IsKnownEmpty : Option History → Type 0
IsKnownEmpty None = ⊥
IsKnownEmpty (Some h) = h.disk ≡ []

-- it is known that the disk has a journal of which no record is malformed
abbrev pub IsKnownListed : Option (List ℕ) → Type 0
IsKnownListed None = ⊥
IsKnownListed (Some disk) = (r : Reading) × (place : ℕ) × (reads disk ≡ Some r) × (r.tail ≡ ends_at place)

-- the answers of a recording in which nothing failed
abbrev pub IsNoFault : Status → Type 0
IsNoFault statuses.Ok = Unit {0}
IsNoFault (statuses.StepLimit steps) = Unit {0}
IsNoFault (statuses.JournalFull end need) = Unit {0}
IsNoFault statuses.OutOfMemory = Unit {0}
IsNoFault statuses.Usage = ⊥
IsNoFault statuses.GuestFault = ⊥
IsNoFault (statuses.BadImage fault) = ⊥
IsNoFault statuses.InputFault = ⊥
IsNoFault statuses.DiskFault = ⊥
IsNoFault statuses.OutputFault = ⊥
IsNoFault (statuses.JournalInUse len) = ⊥
IsNoFault (statuses.BadJournal number) = ⊥
IsNoFault (statuses.BadEpoch number) = ⊥
IsNoFault statuses.NoJournal = ⊥
IsNoFault (statuses.BadMark number) = ⊥
