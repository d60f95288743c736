use Rattle.std.proofs.Common.{sym, ◌∙◌, codes}
use Rattle.dp_report.proofs.Lines.{three_noted}
use Rattle.dp_report.proofs.fault_line.note_record.Goals as goal

pub returns-clause-history : goal.returns-clause-history
returns-clause-history g c =
    rw (sym (c.as_bytes.ensures.value ∙ c.format.ensures.text)) (three_noted (codes "dpcli: record ") c.as_bytes.result.now c.args.said.now _ _ _ c.note.ensures.history)
