use Rattle.recorder.specs.Machine.{first_machine}
use Rattle.recorder.proofs.MachineEvents.{begun, kept, reached}
use Rattle.recorder.proofs.laws.every_event_keeps.Goals as goal

pub returns : goal.returns
returns c = λ guest start h i supplied events m is-guest fits stands is.
    kept guest start h is-guest supplied m (reached guest start h is-guest supplied (first_machine start h i) m events (begun guest start h is-guest supplied i fits stands) is)
