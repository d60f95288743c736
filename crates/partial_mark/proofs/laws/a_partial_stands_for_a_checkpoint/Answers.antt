use Rattle.partial_mark.proofs.Applying.{stands_for}
use Rattle.partial_mark.proofs.laws.a_partial_stands_for_a_checkpoint.Goals as goal

pub returns : goal.returns
returns c = stands_for
