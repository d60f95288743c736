use Rattle.dp_base.proofs.Epochs.{slice_code}
use Rattle.dp_base.proofs.laws.slices.Goals as goal

pub returns : goal.returns
returns c = slice_code
