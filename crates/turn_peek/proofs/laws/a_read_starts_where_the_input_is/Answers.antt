use Rattle.turn_peek.proofs.ReadTurns.{read_starts}
use Rattle.turn_peek.proofs.laws.a_read_starts_where_the_input_is.Goals as goal

pub returns : goal.returns
returns c = read_starts
