use Rattle.std.proofs.Common.{None, ap}
use Rattle.turn_peek.proofs.Reservations.{reservation_peeked}
use Rattle.turn_peek.proofs.laws.a_reservation_asks_for_nothing.Goals as goal

pub returns : goal.returns
returns c = λ f hart memory input plain conditional. ap f (reservation_peeked hart None memory input)
