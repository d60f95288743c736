use Rattle.amo_order.proofs.Finding.{RisesBelow}
use Rattle.amo_order.proofs.turn_check.is_rising.Given as goal

abbrev pub invariant-loop-index : goal.invariant-loop-index
invariant-loop-index l = RisesBelow l.order l.index
