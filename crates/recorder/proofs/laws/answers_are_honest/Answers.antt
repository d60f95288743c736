use Rattle.std.proofs.Common.{true}
use Rattle.recorder.proofs.Drawings.{take_laws}
use Rattle.recorder.proofs.MachineDrawn.{all_drawn}
use Rattle.recorder.proofs.MachineEvents.{begun}
use Rattle.recorder.proofs.laws.answers_are_honest.Goals as goal

pub returns : goal.returns
returns c = λ guest start h i events m is-guest fits stands from is.
    all_drawn (take_laws c.an_answer_is_of_the_input.ensures.refill c.the_windows_are_the_input.ensures.left c.the_windows_are_the_input.ensures.end) guest start h is-guest i h m events from
    (begun guest start h is-guest true i fits stands) is
