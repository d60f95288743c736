use Rattle.epoch_runner.proofs.CourseRuns.{course_none, none_given, same_without}
use Rattle.epoch_runner.proofs.Nexts.{next_by_last}
use Rattle.epoch_runner.proofs.laws.without_hints_an_epoch_goes_by_round_robin.Goals as goal

pub returns-clause-none : goal.returns-clause-none
returns-clause-none c = λ start hints w bounds turns here none went.
    course_none c.turn_laws.ensures c.run_laws.ensures c.a_reservation_asks_for_nothing.ensures start hints w bounds turns here (none_given hints none) went

pub returns-clause-next : goal.returns-clause-next
returns-clause-next c = λ s w bounds p none. next_by_last s w bounds p none

pub returns-clause-same : goal.returns-clause-same
returns-clause-same c = λ start hints other w bounds e output end none without is. same_without start hints other w bounds e output end (none_given hints none) (none_given other without) is
