use Rattle.std.proofs.Common.{◌≡◌, take}
use Rattle.amo_order.specs.Places.{at_tickets}
use Rattle.amo_order.proofs.ordering.start_of.Given as goal

abbrev pub invariant-loop-amo : goal.invariant-loop-amo
invariant-loop-amo l = l.placed.items ≡ at_tickets (take l.amo-index l.amos)
