use Rattle.recorder.proofs.CallEvents.{commit_is_events}
use Rattle.recorder.proofs.laws.a_commit_is_events.Goals as goal

pub returns : goal.returns
returns c = λ guest supplied m before after added output result t. commit_is_events guest supplied m before after added output result t
