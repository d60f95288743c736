-- The outcome of a self-test: a made guest is recorded in memory, from nothing but its number, and the line of its
-- report is sent. This project's own.
use Rattle.std.specs.Prelude.{◌≡◌, ◌++◌, ℕ, Bool, true, false, List, [], codes, decimal, replicate, Option, Some, Result, Ok, Err}
use Rattle.std.proofs.Common.{refl}
use Rattle.std.proofs.lemmas.Bool.{leb-true, ltb-true}
use Rattle.device.specs.Sending.{Sent}
use Rattle.disk_mem.specs.Replay.{start}
use Rattle.disk_model.specs.declared.world.Stream.TheVariants.{Out}
use Rattle.disk_model.specs.History.{History}
use Rattle.disk_model.specs.Input.{Input}
use Rattle.disk_model.specs.Known.{IfKnown}
use Rattle.dp_base.specs.declared.limits.TheConstants.{MAX_EPOCH_STEPS, MAX_JOBS, MAX_JOURNAL_BYTES, MAX_MARK_EPOCHS, MAX_RECORDING_STEPS, MAX_SLICE_STEPS, MAX_WORKERS}
use Rattle.dp_report.specs.declared.report.Report.{Report}
use Rattle.dp_report.specs.declared.status.Status.{Status}
use Rattle.dp_report.specs.declared.status.Status.TheVariants as statuses
use Rattle.dp_report.specs.Texts.{report_line}
use Rattle.epoch_replay.specs.declared.replay_fault.ReplayFault.{ReplayFault}
use Rattle.epoch_replay.specs.declared.replay_fault.ReplayFault.TheVariants as replays
use Rattle.guest_gen.specs.Guest.{guest_file}
use Rattle.guest_kernel.specs.Start.{start_state}
use Rattle.racing_runner.specs.Chaos.{chaos}
use Rattle.racing_runner.specs.Offers.{Tells}
use Rattle.recorder.specs.declared.options.Options.{Options}
use Rattle.recorder.specs.declared.record_fault.RecordFault.{RecordFault}
use Rattle.recorder.specs.declared.record_fault.RecordFault.TheVariants as faults
use Rattle.recorder.specs.Recording.{Recorded}
use Rattle.dp_top.specs.declared.self_test_fault.SelfTestFault.{SelfTestFault}
use Rattle.dp_top.specs.declared.self_test_fault.SelfTestFault.TheVariants as tests
use Rattle.dp_top.specs.declared.tested_report.TestedReport.{TestedReport}

-- ---- the recording

-- the options of a record command that has none
abbrev pub default_options : Options
default_options = record {
  workers = 4;
  epoch = 20000;
  slice = 1000;
  ahead = 16;
  mark = 16;
  limit = 1000000000;
  room = MAX_JOURNAL_BYTES;
  workers_range = (ltb-true 0 4 refl, leb-true 4 MAX_WORKERS refl);
  epoch_range = (ltb-true 0 20000 refl, leb-true 20000 MAX_EPOCH_STEPS refl);
  slice_range = (ltb-true 0 1000 refl, leb-true 1000 MAX_SLICE_STEPS refl);
  ahead_range = (ltb-true 0 16 refl, leb-true 16 MAX_JOBS refl);
  mark_range = leb-true 16 MAX_MARK_EPOCHS refl;
  limit_range = (ltb-true 0 1000000000 refl, leb-true 1000000000 MAX_RECORDING_STEPS refl);
  room_range = leb-true MAX_JOURNAL_BYTES MAX_JOURNAL_BYTES refl;
}

-- the known offers of the racer of this number
abbrev pub chaos_offers : ℕ → Tells
chaos_offers n state supply plan = Some (chaos n state supply plan)

-- An input without a byte, whose end was seen or wasn't, and a clock that was read `count` times and read 0 each time.
abbrev pub no_input : (ended : Bool) → (readings : ℕ) → Input
no_input ended readings = record { given = []; left = []; ended = ended; readings = replicate readings 0 }

-- Guest n was recorded with this answer: into a world of its own, by racer n, with the default options and no input.
pub record MadeRecording (n : ℕ) (answer : Result Report RecordFault) : Type 0 where
  pub ended : Bool
  pub readings : ℕ
  pub left : History
  pub recorded : Recorded (guest_file n) (chaos_offers n) (start_state (guest_file n)) default_options
      (Some (no_input false 0)) (Some (no_input ended readings)) (Some (start [])) (Some left) answer

-- Why there is no report of it. Its disk was empty, its input never fails, and a call on its world fails only if an
-- allocation does.
abbrev pub of_recording : RecordFault → SelfTestFault
of_recording (faults.StepLimit steps) = tests.StepLimit steps
of_recording (faults.JournalFull end need) = tests.JournalFull end need
of_recording faults.DiskFault = tests.OutOfMemory
of_recording faults.OutputFault = tests.OutOfMemory
of_recording faults.OutOfMemory = tests.OutOfMemory
of_recording faults.InputFault = tests.OutOfMemory
of_recording (faults.JournalInUse len) = tests.OutOfMemory

-- the report of guest n's recording, or why there is none
abbrev pub Tested : ℕ → Result Report SelfTestFault → Type 0
Tested n (Ok report) = MadeRecording n (Ok report)
Tested n (Err (tests.StepLimit steps)) = MadeRecording n (Err (faults.StepLimit steps))
Tested n (Err (tests.JournalFull end need)) = MadeRecording n (Err (faults.JournalFull end need))
Tested n (Err tests.OutOfMemory) = Unit {0}
Tested n (Err tests.Differs) = ⊥

-- without the replays that agreed with it
abbrev pub report_in : Result TestedReport SelfTestFault → Result Report SelfTestFault
report_in (Ok tested) = Ok tested.report
report_in (Err fault) = Err fault

-- the answers of a replay of it that aren't `Ok`: memory ran out
abbrev pub IsMemoryFault : ReplayFault → Type 0
IsMemoryFault replays.DiskFault = Unit {0}
IsMemoryFault replays.OutputFault = Unit {0}
IsMemoryFault replays.OutOfMemory = Unit {0}
IsMemoryFault replays.NoJournal = ⊥
IsMemoryFault (replays.BadImage fault) = ⊥
IsMemoryFault (replays.BadJournal number) = ⊥
IsMemoryFault (replays.BadEpoch number) = ⊥
IsMemoryFault (replays.BadMark number) = ⊥

-- ---- the line

abbrev pub self_test_line : ℕ → Report → List ℕ
self_test_line n report = codes "selftest " ++ decimal n ++ codes ": " ++ report_line report

-- ---- by the status

-- the line was sent on Out, or a prefix of it
abbrev pub SentLine : ℕ → (ok : Bool) → (before after : Option History) → Type 0
SentLine n ok before after =
    (report : Report) × MadeRecording n (Ok report) × IfKnown (Sent Out (self_test_line n report) ok) before after

abbrev pub SelfTestedTo : ℕ → (before after : Option History) → Status → Type 0
SelfTestedTo n before after statuses.Ok = SentLine n true before after
SelfTestedTo n before after statuses.OutputFault = SentLine n false before after
SelfTestedTo n before after (statuses.StepLimit steps) = MadeRecording n (Err (faults.StepLimit steps)) × (after ≡ before)
SelfTestedTo n before after (statuses.JournalFull end need) = MadeRecording n (Err (faults.JournalFull end need)) × (after ≡ before)
SelfTestedTo n before after statuses.OutOfMemory = after ≡ before
SelfTestedTo n before after statuses.Usage = ⊥
SelfTestedTo n before after statuses.GuestFault = ⊥
SelfTestedTo n before after (statuses.BadImage fault) = ⊥
SelfTestedTo n before after statuses.InputFault = ⊥
SelfTestedTo n before after statuses.DiskFault = ⊥
SelfTestedTo n before after (statuses.JournalInUse len) = ⊥
SelfTestedTo n before after (statuses.BadJournal number) = ⊥
SelfTestedTo n before after (statuses.BadEpoch number) = ⊥
SelfTestedTo n before after statuses.NoJournal = ⊥
SelfTestedTo n before after (statuses.BadMark number) = ⊥
