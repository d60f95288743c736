use Rattle.guest_state.proofs.Codes.{end_code}
use Rattle.guest_state.proofs.laws.ends.Goals as goal

pub returns : goal.returns
returns c = end_code
