use Rattle.checkpoint.proofs.Sizes.{partial_short}
use Rattle.checkpoint.proofs.laws.a_partial_is_short.Goals as goal

pub returns : goal.returns
returns c = partial_short
