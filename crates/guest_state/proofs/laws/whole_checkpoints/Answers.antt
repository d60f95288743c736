use Rattle.dp_base.proofs.Whole.{whole_code}
use Rattle.guest_state.proofs.CheckpointCode.{checkpoint_code}
use Rattle.guest_state.proofs.laws.whole_checkpoints.Goals as goal

pub returns : goal.returns
returns c = whole_code checkpoint_code
