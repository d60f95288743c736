use Rattle.dp_base.proofs.Records.{frame_one}
use Rattle.dp_base.proofs.laws.frames.Goals as goal

pub returns : goal.returns
returns c = frame_one
