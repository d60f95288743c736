use Rattle.dp_top.proofs.Inspections.{attached, not_attached}
use Rattle.dp_top.proofs.inspecting.inspect_journal.Goals as goal

pub returns-then-is_err-clause-inspected : goal.returns-then-is_err-clause-inspected
returns-then-is_err-clause-inspected g c = not_attached _ _ c.attach.ensures.history

pub returns-clause-inspected : goal.returns-clause-inspected
returns-clause-inspected g c = attached _ _ _ c.inspect-world.result.1 c.status_of_inspected.result c.attach.ensures.history c.status_of_inspected.ensures c.inspect-world.ensures.inspected
