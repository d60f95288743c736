use Rattle.amo_order.proofs.Finding.{FindsBelow}
use Rattle.amo_order.proofs.turn_check.each_finds.Given as goal

abbrev pub invariant-loop-index : goal.invariant-loop-index
invariant-loop-index l = FindsBelow l.order l.index
