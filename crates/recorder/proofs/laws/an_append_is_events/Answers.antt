use Rattle.recorder.proofs.CallEvents.{append_is_events}
use Rattle.recorder.proofs.laws.an_append_is_events.Goals as goal

pub returns : goal.returns
returns c = λ guest supplied m before after added result t. append_is_events guest supplied m before after added result t
