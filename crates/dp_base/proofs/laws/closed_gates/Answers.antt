use Rattle.dp_base.proofs.Records.{header_behind_closed}
use Rattle.dp_base.proofs.laws.closed_gates.Goals as goal

pub returns : goal.returns
returns c = header_behind_closed
