-- The numbers with which the program ends, a row for each status. This project's own.
use Rattle.std.specs.Prelude.{ℕ}
use Rattle.dp_report.specs.declared.status.Status.{Status}
use Rattle.dp_report.specs.declared.status.Status.TheVariants as statuses

abbrev pub status_number : Status → ℕ
status_number statuses.Ok = 0
status_number statuses.Usage = 2
status_number statuses.GuestFault = 3
status_number (statuses.BadImage fault) = 4
status_number statuses.InputFault = 5
status_number statuses.DiskFault = 6
status_number statuses.OutputFault = 7
status_number (statuses.JournalInUse len) = 8
status_number (statuses.BadJournal record_number) = 9
status_number (statuses.BadEpoch record_number) = 10
status_number (statuses.StepLimit steps) = 11
status_number (statuses.JournalFull end need) = 12
status_number statuses.OutOfMemory = 13
status_number statuses.NoJournal = 14
status_number (statuses.BadMark record_number) = 15
