use Rattle.epoch_runner.proofs.Waiting.{ready_or_due, refilled_can, stamped_can, used_up}
use Rattle.epoch_runner.proofs.laws.a_supply_lets_a_guest_step.Goals as goal

pub returns-clause-ready : goal.returns-clause-ready
returns-clause-ready c = λ s w alive some none. ready_or_due s w alive some none

pub returns-clause-used_up : goal.returns-clause-used_up
returns-clause-used_up c = λ s w is from within due.
    let is_used_up = used_up c.a_read_starts_where_the_input_is.ensures s w from within due in
    (is_used_up.end, is_used_up.going)

pub returns-clause-refilled : goal.returns-clause-refilled
returns-clause-refilled c = λ s w bytes stamp from within due. refilled_can c.a_read_starts_where_the_input_is.ensures s w bytes stamp from within due

pub returns-clause-stamped : goal.returns-clause-stamped
returns-clause-stamped c = λ s w stamp. stamped_can s w stamp
