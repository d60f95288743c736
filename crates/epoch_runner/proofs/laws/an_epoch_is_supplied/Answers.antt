use Rattle.epoch_runner.proofs.Supplies.{scheduled_supplied}
use Rattle.epoch_runner.proofs.laws.an_epoch_is_supplied.Goals as goal

pub returns : goal.returns
returns c =
    λ start hints w bounds e output end is from within.
    scheduled_supplied c.turn_laws.ensures c.a_reservation_asks_for_nothing.ensures c.a_read_starts_where_the_input_is.ensures start hints w bounds e output end is from within
