use Rattle.recorder.proofs.CallEvents.{send_is_events}
use Rattle.recorder.proofs.laws.a_sending_is_events.Goals as goal

pub returns : goal.returns
returns c = λ guest supplied m bytes ok t. send_is_events guest supplied m bytes ok t
