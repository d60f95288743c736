-- The outcome of sending a recording's report, by the answer. This project's own.
use Rattle.std.specs.Prelude.{◌≡◌, ℕ, true, false, Result, Ok, Err, ⊤}
use Rattle.checkpoint.specs.State.{digest_of}
use Rattle.device.specs.Sending.{Sent}
use Rattle.disk_model.specs.declared.world.Stream.TheVariants.{Note}
use Rattle.disk_model.specs.History.{History}
use Rattle.dp_report.specs.declared.report.Report.{Report}
use Rattle.dp_report.specs.Texts.{report_line}
use Rattle.guest_kernel.specs.declared.state.State.{State}
use Rattle.recorder.specs.declared.record_fault.RecordFault.{RecordFault}
use Rattle.recorder.specs.declared.record_fault.RecordFault.TheVariants as faults

-- the report of a guest in this state, after this many epochs, squashed results and bytes sent
abbrev pub report_at : (epochs squashes sent : ℕ) → State → Report
report_at epochs squashes sent s = record { epochs = epochs; squashes = squashes; steps = s.steps; sent = sent; end = s.end; state = digest_of s }

-- it answers the report, a fault of the output or `OutOfMemory`
abbrev pub IsReportSent : Report → Result Report RecordFault → Type 0
IsReportSent r (Ok told) = told ≡ r
IsReportSent r (Err faults.OutputFault) = ⊤
IsReportSent r (Err faults.OutOfMemory) = ⊤
IsReportSent r (Err faults.DiskFault) = ⊥
IsReportSent r (Err faults.InputFault) = ⊥
IsReportSent r (Err (faults.JournalInUse len)) = ⊥
IsReportSent r (Err (faults.StepLimit steps)) = ⊥
IsReportSent r (Err (faults.JournalFull end need)) = ⊥

-- the report's line was sent, or a prefix of it, or nothing
abbrev pub HasSentReport : Report → Result Report RecordFault → History → History → Type 0
HasSentReport r (Ok told) before after = Sent Note (report_line r) true before after
HasSentReport r (Err faults.OutputFault) before after = Sent Note (report_line r) false before after
HasSentReport r (Err faults.OutOfMemory) before after = after ≡ before
HasSentReport r (Err faults.DiskFault) before after = ⊥
HasSentReport r (Err faults.InputFault) before after = ⊥
HasSentReport r (Err (faults.JournalInUse len)) before after = ⊥
HasSentReport r (Err (faults.StepLimit steps)) before after = ⊥
HasSentReport r (Err (faults.JournalFull end need)) before after = ⊥
