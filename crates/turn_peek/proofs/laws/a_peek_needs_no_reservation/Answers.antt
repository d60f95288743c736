use Rattle.turn_peek.proofs.Reservations.{reservation_peeked}
use Rattle.turn_peek.proofs.laws.a_peek_needs_no_reservation.Goals as goal

pub returns : goal.returns
returns c = reservation_peeked
