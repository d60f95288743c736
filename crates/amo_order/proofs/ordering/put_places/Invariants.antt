use Rattle.amo_order.specs.Replacing.{Replaces}
use Rattle.amo_order.proofs.ordering.put_places.Given as goal

abbrev pub invariant-loop-place : goal.invariant-loop-place
invariant-loop-place l = Replaces l.word l.fn.placed l.placed
