use Rattle.std.proofs.Common.{sym, ◌∙◌, codes}
use Rattle.dp_report.proofs.Lines.{five_noted, none_noted}
use Rattle.dp_report.proofs.fault_line.emit_fault.Goals as goal

pub returns-in-Usage-clause-history : goal.returns-in-Usage-clause-history
returns-in-Usage-clause-history g c = rw c.in-Usage.is c.note.ensures.history

pub returns-in-GuestFault-clause-history : goal.returns-in-GuestFault-clause-history
returns-in-GuestFault-clause-history g c = rw c.in-GuestFault.is c.note-in-GuestFault.ensures.history

pub returns-in-BadImage-clause-history : goal.returns-in-BadImage-clause-history
returns-in-BadImage-clause-history g c =
    rw (c.in-BadImage.is, sym c.image_fault_name.ensures, sym (c.as_bytes.ensures.value ∙ c.format.ensures.text))
    (five_noted (codes "dpcli: guest refused: ") c.as_bytes.result.now (codes " ") c.image_fault_name.result.now (codes "\n") _ _ _ c.note-in-BadImage.ensures.history)

pub returns-in-InputFault-clause-history : goal.returns-in-InputFault-clause-history
returns-in-InputFault-clause-history g c = rw c.in-InputFault.is c.note-in-InputFault.ensures.history

pub returns-in-DiskFault-clause-history : goal.returns-in-DiskFault-clause-history
returns-in-DiskFault-clause-history g c = rw c.in-DiskFault.is c.note-in-DiskFault.ensures.history

pub returns-in-JournalInUse-clause-history : goal.returns-in-JournalInUse-clause-history
returns-in-JournalInUse-clause-history g c =
    rw (c.in-JournalInUse.is, sym (c.as_bytes-in-JournalInUse.ensures.value ∙ c.format-in-JournalInUse.ensures.text)) c.note-in-JournalInUse.ensures.history

pub returns-in-JournalFull-clause-history : goal.returns-in-JournalFull-clause-history
returns-in-JournalFull-clause-history g c =
    rw (c.in-JournalFull.is, sym (c.as_bytes-in-JournalFull.ensures.value ∙ c.format-in-JournalFull.ensures.text), sym (c.as_bytes-in-JournalFull-2.ensures.value ∙ c.format-in-JournalFull-2.ensures.text))
    (five_noted (codes "dpcli: journal full: ") c.as_bytes-in-JournalFull.result.now (codes " + ") c.as_bytes-in-JournalFull-2.result.now (codes " bytes\n") _ _ _ c.note-in-JournalFull.ensures.history)

pub returns-in-NoJournal-clause-history : goal.returns-in-NoJournal-clause-history
returns-in-NoJournal-clause-history g c = rw c.in-NoJournal.is c.note-in-NoJournal.ensures.history

pub returns-in-Ok-clause-history : goal.returns-in-Ok-clause-history
returns-in-Ok-clause-history g c = rw c.in-Ok.is (none_noted _)
