use Rattle.partial_mark.proofs.PartialCode.{partial_code}
use Rattle.partial_mark.proofs.laws.partials.Goals as goal

pub returns : goal.returns
returns c = partial_code
