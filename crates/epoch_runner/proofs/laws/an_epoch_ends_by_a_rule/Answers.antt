use Rattle.epoch_runner.proofs.CourseRuns.{scheduled_few, scheduled_little, scheduled_little_read, scheduled_stops}
use Rattle.epoch_runner.proofs.laws.an_epoch_ends_by_a_rule.Goals as goal

pub returns-clause-stops : goal.returns-clause-stops
returns-clause-stops c =
    λ start hints w bounds e output end is. scheduled_stops c.turn_laws.ensures c.run_laws.ensures c.a_reservation_asks_for_nothing.ensures start hints w bounds e output end is

pub returns-clause-few : goal.returns-clause-few
returns-clause-few c =
    λ start hints w bounds e output end is. scheduled_few c.turn_laws.ensures c.run_laws.ensures c.a_reservation_asks_for_nothing.ensures start hints w bounds e output end is

pub returns-clause-writes : goal.returns-clause-writes
returns-clause-writes c =
    λ start hints w bounds e output end is. scheduled_little c.turn_laws.ensures c.run_laws.ensures c.a_reservation_asks_for_nothing.ensures start hints w bounds e output end is

pub returns-clause-reads : goal.returns-clause-reads
returns-clause-reads c =
    λ start hints w bounds e output end is. scheduled_little_read c.turn_laws.ensures c.run_laws.ensures c.a_reservation_asks_for_nothing.ensures start hints w bounds e output end is
