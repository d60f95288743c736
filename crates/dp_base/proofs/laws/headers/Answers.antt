use Rattle.dp_base.proofs.Records.{header_code}
use Rattle.dp_base.proofs.laws.headers.Goals as goal

pub returns : goal.returns
returns c = header_code
