use Rattle.dp_base.proofs.Whole.{whole_code}
use Rattle.partial_mark.proofs.PartialCode.{partial_code}
use Rattle.partial_mark.proofs.laws.whole_partials.Goals as goal

pub returns : goal.returns
returns c = whole_code partial_code
