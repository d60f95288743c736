use Rattle.recorder.proofs.CallEvents.{applied_is_event, commit_is_in_hand}
use Rattle.recorder.proofs.laws.an_applied_event_is_an_event.Goals as goal

pub returns-clause-applied : goal.returns-clause-applied
returns-clause-applied c = λ guest supplied m e verdict core. applied_is_event c.an_event_is_noted_or_refused.ensures guest supplied m e verdict core

pub returns-clause-in_hand : goal.returns-clause-in_hand
returns-clause-in_hand c = λ guest supplied m e out core. commit_is_in_hand guest supplied m e out core
