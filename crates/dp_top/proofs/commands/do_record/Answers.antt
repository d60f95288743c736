use Rattle.std.proofs.Common.{refl}
use Rattle.elf_image.specs.Faults.{fault_number}
use Rattle.dp_top.proofs.Statuses.{came_by, came_refused, why_refused}
use Rattle.dp_top.proofs.commands.do_record.Goals as goal

pub returns-clause-came : goal.returns-clause-came
returns-clause-came g c =
    let by = c.record_guest.ensures.recorded in
    came_by (g.Q.Racer.tells c.args.racer) c.args.name.now c.args.options _ _ _ _ _ c.in-Ok.guest.items c.deref.result.now c.deref-2.result.now c.in-Ok-start_from_file.state by.0 c.record_guest.result.1
    c.record_guest.ensures.bytes c.in-Ok.ensures.bytes c.deref.ensures.value c.deref-2.ensures.value c.in-Ok-start_from_file.ensures.accepted c.in-Ok-start_from_file.ensures.state by.1 by.2 c.record_guest.ensures.moments

pub returns-in-Err-clause-came : goal.returns-in-Err-clause-came
returns-in-Err-clause-came g c =
    came_refused (g.Q.Racer.tells c.args.racer) c.args.name.now c.args.options _ _ _ _ _ c.in-Ok.guest.items c.deref.result.now (fault_number c.in-Err.fault) _
    c.in-Ok.ensures.bytes c.deref.ensures.value c.status_of_fault.ensures
    (why_refused c.in-Err.fault c.deref.result.now c.in-Err.ensures.refused) refl refl
