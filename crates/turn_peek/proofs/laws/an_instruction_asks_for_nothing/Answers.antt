use Rattle.turn_peek.proofs.Reservations.{instruction_asks}
use Rattle.turn_peek.proofs.laws.an_instruction_asks_for_nothing.Goals as goal

pub returns : goal.returns
returns c = instruction_asks
