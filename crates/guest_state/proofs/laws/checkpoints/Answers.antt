use Rattle.guest_state.proofs.CheckpointCode.{checkpoint_code}
use Rattle.guest_state.proofs.laws.checkpoints.Goals as goal

pub returns : goal.returns
returns c = checkpoint_code
