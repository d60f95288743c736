use Rattle.dp_base.proofs.Sizes.{epoch_is_body}
use Rattle.dp_base.proofs.laws.epochs_fit_records.Goals as goal

pub returns : goal.returns
returns c = epoch_is_body
