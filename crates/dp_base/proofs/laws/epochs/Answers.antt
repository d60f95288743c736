use Rattle.dp_base.proofs.Epochs.{epoch_code}
use Rattle.dp_base.proofs.laws.epochs.Goals as goal

pub returns : goal.returns
returns c = epoch_code
