-- What a status says, by the answer of the replay.
use Rattle.std.proofs.Common.{◌≡◌, Bool, ℕ, List, [], Option, Some, None, Result, Ok, Err, refl, subst}
use Rattle.disk_model.specs.History.{History}
use Rattle.device.specs.Sending.{Sent}
use Rattle.disk_model.specs.declared.world.Stream.TheVariants.{Note}
use Rattle.disk_model.specs.Known.{IfKnown, known_disk}
use Rattle.dp_report.specs.declared.report.Report.{Report}
use Rattle.dp_report.specs.declared.status.Status.{Status}
use Rattle.dp_report.specs.declared.status.Status.TheVariants as statuses
use Rattle.epoch_replay.specs.declared.replay_fault.ReplayFault.{ReplayFault}
use Rattle.epoch_replay.specs.declared.replay_fault.ReplayFault.TheVariants as faults
use Rattle.epoch_replay.specs.Faults.{ReplayMetNoOther}
use Rattle.epoch_replay.specs.Replaying.{EachReplayMoment, OnDisk, Replayed, output_of}
use Rattle.epoch_replay.specs.Play.{plays_to}
use Rattle.epoch_replay.proofs.Moments.{Moments, noted_moments, quiet}
use Rattle.journal_text.specs.Reading.{reads}
use Rattle.dp_top.specs.Answer.{status_of_replay}
use Rattle.dp_top.specs.Running.{ReplayedTo}

-- ---- a journal that could not be attached

failed_on : (known : Option (List ℕ)) (before after : Option History) → after ≡ before → OnDisk known (λ bytes. Replayed (reads bytes) before after (Err faults.DiskFault))
failed_on None before after same = ([], same)
failed_on (Some disk) before after same = same

pub not_attached : (before after : Option History) → after ≡ before → ReplayedTo before after statuses.DiskFault
not_attached before after same = (Err faults.DiskFault, refl, failed_on (known_disk before) before after same)

-- the journal was attached, which changed nothing
pub attached : (before there after : Option History) (answer : Result Report ReplayFault) (status : Status) → there ≡ before → status ≡ status_of_replay answer
    → OnDisk (known_disk there) (λ bytes. Replayed (reads bytes) there after answer) → ReplayedTo before after status
attached before there after answer status same is replayed = (answer, is, subst (λ (h : Option History). OnDisk (known_disk h) (λ bytes. Replayed (reads bytes) h after answer)) same replayed)

pub attached_moments : (before there after : Option History) → there ≡ before → OnDisk (known_disk there) (λ bytes. EachReplayMoment (reads bytes) there after) → OnDisk (known_disk before) (λ bytes. EachReplayMoment (reads bytes) before after)
attached_moments before there after same each = subst (λ (h : Option History). OnDisk (known_disk h) (λ bytes. EachReplayMoment (reads bytes) h after)) same each

-- at every moment the disk is as it was, and a prefix of the text that the disk's bytes say was sent
abbrev pub Sends : (says : List ℕ → List ℕ) → (known : Option (List ℕ)) → (before after : Option History) → Type 0
Sends says known before after = OnDisk known (λ bytes. Moments (says bytes) before after)

pub quiet_on : (says : List ℕ → List ℕ) (known : Option (List ℕ)) (before after : Option History) → after ≡ before → Sends says known before after
quiet_on says None before after same = ([], quiet (says []) before after same)
quiet_on says (Some disk) before after same = quiet (says disk) before after same

abbrev replayed_text : List ℕ → List ℕ
replayed_text bytes = output_of (plays_to (reads bytes))

-- nothing was done
pub quiet_moments : (before after : Option History) → after ≡ before → OnDisk (known_disk before) (λ bytes. EachReplayMoment (reads bytes) before after)
quiet_moments before after same = quiet_on replayed_text (known_disk before) before after same

pub told_on : (says : List ℕ → List ℕ) (known : Option (List ℕ)) (before mid after : Option History) (text : List ℕ) (ok : Bool) → Sends says known before mid → IfKnown (Sent Note text ok) mid after
    → Sends says known before after
told_on says None before mid after text ok each line = (each.0, noted_moments (says each.0) text ok before mid after each.1 line)
told_on says (Some disk) before mid after text ok each line = noted_moments (says disk) text ok before mid after each line

-- and then the status's line is sent
pub told_moments : (before mid after : Option History) (text : List ℕ) (ok : Bool) → OnDisk (known_disk before) (λ bytes. EachReplayMoment (reads bytes) before mid) → IfKnown (Sent Note text ok) mid after
    → OnDisk (known_disk before) (λ bytes. EachReplayMoment (reads bytes) before after)
told_moments before mid after text ok each line = told_on replayed_text (known_disk before) before mid after text ok each line

-- ---- the counts of faults at Ok

pub replay_met_none : (answer : Result Report ReplayFault) (disk disk_after sink sink_after : ℕ) → status_of_replay answer ≡ statuses.Ok → ReplayMetNoOther answer disk disk_after sink sink_after → (disk_after ≡ disk) × (sink_after ≡ sink)
replay_met_none (Ok report) disk disk_after sink sink_after is met = met
replay_met_none (Err faults.NoJournal) disk disk_after sink sink_after is met = absurd cc
replay_met_none (Err (faults.BadImage fault)) disk disk_after sink sink_after is met = absurd cc
replay_met_none (Err (faults.BadJournal number)) disk disk_after sink sink_after is met = absurd cc
replay_met_none (Err (faults.BadEpoch number)) disk disk_after sink sink_after is met = absurd cc
replay_met_none (Err (faults.BadMark number)) disk disk_after sink sink_after is met = absurd cc
replay_met_none (Err faults.DiskFault) disk disk_after sink sink_after is met = absurd cc
replay_met_none (Err faults.OutputFault) disk disk_after sink sink_after is met = absurd cc
replay_met_none (Err faults.OutOfMemory) disk disk_after sink sink_after is met = absurd cc
