use Rattle.epoch_runner.proofs.SuppliedTurns.{scheduled_turns}
use Rattle.epoch_runner.proofs.laws.each_turn_is_supplied.Goals as goal

pub returns : goal.returns
returns c = λ start hints w bounds e output end is placed.
    scheduled_turns c.turn_laws.ensures c.run_laws.ensures c.a_reservation_asks_for_nothing.ensures c.a_read_starts_where_the_input_is.ensures start hints w bounds e output end is placed
