use Rattle.epoch_runner.proofs.CourseRuns.{scheduled_run}
use Rattle.epoch_runner.proofs.laws.a_scheduled_run_is_a_run.Goals as goal

pub returns : goal.returns
returns c =
    λ start hints w bounds e output end is. scheduled_run c.turn_laws.ensures c.run_laws.ensures c.a_reservation_asks_for_nothing.ensures start hints w bounds e output end is
