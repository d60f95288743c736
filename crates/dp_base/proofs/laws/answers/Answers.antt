use Rattle.dp_base.proofs.Epochs.{answer_code}
use Rattle.dp_base.proofs.laws.answers.Goals as goal

pub returns : goal.returns
returns c = answer_code
