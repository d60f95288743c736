use Rattle.amo_order.specs.Places.{at_tickets}
use Rattle.amo_order.proofs.Answering.{IsAnswer}
use Rattle.amo_order.proofs.ordering.order_amos.Given as goal

abbrev pub invariant-loop-word : goal.invariant-loop-word
invariant-loop-word l = IsAnswer (at_tickets l.amos) l.placed.items
