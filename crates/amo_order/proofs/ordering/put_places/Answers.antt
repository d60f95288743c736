use Rattle.amo_order.proofs.Replacings.{replaces_none, replaces_both}
use Rattle.amo_order.proofs.ordering.put_places.Goals as goal

pub loop-place-init : goal.loop-place-init
loop-place-init c = replaces_none _ _

pub loop-place-preserved : goal.loop-place-preserved
loop-place-preserved c = replaces_both _ _ _ _ c.loop-place.invariant c.put_place.ensures
