-- What the program says of itself, byte by byte: the line of a report, and the line of each status. This project's own.
use Rattle.std.specs.Prelude.{ℕ, List, [], ◌∷◌, ◌++◌, codes, decimal, get_or}
use Rattle.std.specs.Int.{bytes_high_first}
use Rattle.hex.specs.Hex.{encode_lower}
use Rattle.guest_state.specs.declared.end.End.{End}
use Rattle.guest_state.specs.declared.end.End.TheVariants as ends
use Rattle.dp_report.specs.declared.report.Report.{Report}
use Rattle.dp_report.specs.declared.status.Status.{Status}
use Rattle.dp_report.specs.declared.status.Status.TheVariants as statuses

-- ---- the report

-- how a guest ended
abbrev pub end_text : End → List ℕ
end_text ends.None = codes "none"
end_text (ends.Exit code) = codes "exit " ++ decimal code
end_text (ends.Trap tid cause value) = codes "trap " ++ decimal cause ++ codes " thread " ++ decimal tid.0 ++ codes " value " ++ encode_lower (bytes_high_first 4 value)
end_text ends.Deadlock = codes "deadlock"

abbrev pub report_line : Report → List ℕ
report_line r =
    codes "epochs " ++ decimal r.epochs ++ codes " squashes " ++ decimal r.squashes ++ codes " steps " ++ decimal r.steps ++ codes " sent " ++ decimal r.sent
    ++ codes " end " ++ end_text r.end ++ codes " state " ++ encode_lower r.state ++ codes "\n"

-- ---- the statuses

-- why a guest's file is refused, by the fault's number from 1 on
abbrev pub image_faults : List (List ℕ)
image_faults =
    codes "TooLong" ∷ codes "NotElf" ∷ codes "NotClass32" ∷ codes "NotLittle" ∷ codes "NotExec" ∷ codes "NotRiscv" ∷ codes "BadTable"
    ∷ codes "Interp" ∷ codes "BadSegment" ∷ codes "TooManyPages" ∷ []

abbrev pub image_fault_text : ℕ → List ℕ
image_fault_text fault = get_or (codes "Unknown" ∷ image_faults) fault (codes "Unknown")

abbrev pub status_line : Status → List ℕ
status_line statuses.Ok = []
status_line statuses.Usage = codes "usage: dpcli record GUEST JOURNAL [options], replay JOURNAL [--workers N], inspect JOURNAL, selftest N\n"
status_line statuses.GuestFault = codes "dpcli: guest file could not be read\n"
status_line (statuses.BadImage fault) = codes "dpcli: guest refused: " ++ decimal fault ++ codes " " ++ image_fault_text fault ++ codes "\n"
status_line statuses.InputFault = codes "dpcli: input failed\n"
status_line statuses.DiskFault = codes "dpcli: journal device failed\n"
status_line statuses.OutputFault = codes "dpcli: output failed\n"
status_line (statuses.JournalInUse len) = codes "dpcli: journal is not empty: " ++ decimal len ++ codes " bytes\n"
status_line (statuses.BadJournal number) = codes "dpcli: record " ++ decimal number ++ codes " is malformed\n"
status_line (statuses.BadEpoch number) = codes "dpcli: record " ++ decimal number ++ codes " does not run\n"
status_line (statuses.StepLimit steps) = codes "dpcli: step limit " ++ decimal steps ++ codes " reached\n"
status_line (statuses.JournalFull end need) = codes "dpcli: journal full: " ++ decimal end ++ codes " + " ++ decimal need ++ codes " bytes\n"
status_line statuses.OutOfMemory = codes "dpcli: out of memory\n"
status_line statuses.NoJournal = codes "dpcli: no journal\n"
status_line (statuses.BadMark number) = codes "dpcli: record " ++ decimal number ++ codes " is a wrong mark\n"
