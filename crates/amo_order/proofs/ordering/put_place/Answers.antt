use Rattle.amo_order.proofs.Replacings.{replaces_one}
use Rattle.amo_order.proofs.ordering.put_place.Goals as goal

pub returns-then-place-amo : goal.returns-then-place-amo
returns-then-place-amo c = replaces_one _ _ _ _ _ c.if-index-placed.true c.if-amo-word.true c.if-amo-place.true c.if-place-amo.true
