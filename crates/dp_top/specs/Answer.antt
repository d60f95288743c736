-- The status of an answer, a row for each. This project's own.
use Rattle.std.specs.Prelude.{ℕ, Option, Some, None, Result, Ok, Err}
use Rattle.dp_report.specs.declared.report.Report.{Report}
use Rattle.recorder.specs.declared.record_fault.RecordFault.{RecordFault}
use Rattle.recorder.specs.declared.record_fault.RecordFault.TheVariants as faults
use Rattle.epoch_replay.specs.declared.inspect_fault.InspectFault.{InspectFault}
use Rattle.epoch_replay.specs.declared.inspect_fault.InspectFault.TheVariants as inspections
use Rattle.epoch_replay.specs.declared.replay_fault.ReplayFault.{ReplayFault}
use Rattle.epoch_replay.specs.declared.replay_fault.ReplayFault.TheVariants as replays
use Rattle.dp_report.specs.declared.status.Status.{Status}
use Rattle.dp_report.specs.declared.status.Status.TheVariants as statuses
use Rattle.dp_top.specs.declared.self_test_fault.SelfTestFault.{SelfTestFault}
use Rattle.dp_top.specs.declared.self_test_fault.SelfTestFault.TheVariants as tests

-- of a recording
abbrev pub status_of : Result Report RecordFault → Status
status_of (Ok report) = statuses.Ok
status_of (Err faults.InputFault) = statuses.InputFault
status_of (Err faults.DiskFault) = statuses.DiskFault
status_of (Err faults.OutputFault) = statuses.OutputFault
status_of (Err (faults.JournalInUse len)) = statuses.JournalInUse len
status_of (Err (faults.StepLimit steps)) = statuses.StepLimit steps
status_of (Err (faults.JournalFull end need)) = statuses.JournalFull end need
status_of (Err faults.OutOfMemory) = statuses.OutOfMemory

-- of a guest whose file is refused, by the fault's number, which memory's want doesn't have
abbrev pub status_of_image : Option ℕ → Status
status_of_image (Some fault) = statuses.BadImage fault
status_of_image None = statuses.OutOfMemory

-- of a replay
abbrev pub status_of_replay : Result Report ReplayFault → Status
status_of_replay (Ok report) = statuses.Ok
status_of_replay (Err replays.NoJournal) = statuses.NoJournal
status_of_replay (Err (replays.BadImage fault)) = statuses.BadImage fault
status_of_replay (Err (replays.BadJournal number)) = statuses.BadJournal number
status_of_replay (Err (replays.BadEpoch number)) = statuses.BadEpoch number
status_of_replay (Err (replays.BadMark number)) = statuses.BadMark number
status_of_replay (Err replays.DiskFault) = statuses.DiskFault
status_of_replay (Err replays.OutputFault) = statuses.OutputFault
status_of_replay (Err replays.OutOfMemory) = statuses.OutOfMemory

-- of an inspection
abbrev pub status_of_inspection : Result (Unit {0}) InspectFault → Status
status_of_inspection (Ok done) = statuses.Ok
status_of_inspection (Err inspections.NoJournal) = statuses.NoJournal
status_of_inspection (Err (inspections.BadJournal number)) = statuses.BadJournal number
status_of_inspection (Err inspections.DiskFault) = statuses.DiskFault
status_of_inspection (Err inspections.OutputFault) = statuses.OutputFault
status_of_inspection (Err inspections.OutOfMemory) = statuses.OutOfMemory

-- of a self-test without a line; the last row is never reached
abbrev pub status_of_self_test : SelfTestFault → Status
status_of_self_test (tests.StepLimit steps) = statuses.StepLimit steps
status_of_self_test (tests.JournalFull end need) = statuses.JournalFull end need
status_of_self_test tests.OutOfMemory = statuses.OutOfMemory
status_of_self_test tests.Differs = statuses.DiskFault
