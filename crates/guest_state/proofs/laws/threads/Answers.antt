use Rattle.guest_state.proofs.Codes.{thread_code}
use Rattle.guest_state.proofs.laws.threads.Goals as goal

pub returns : goal.returns
returns c = thread_code
