use Rattle.recorder.proofs.Drawings.{take_laws}
use Rattle.recorder.proofs.InputReads.{at_end, joined}
use Rattle.recorder.proofs.laws.reads_take_the_input.Goals as goal

pub returns-clause-joined : goal.returns-clause-joined
returns-clause-joined c = λ draws answers i j drawn.
    joined (take_laws c.an_answer_is_of_the_input.ensures.refill c.the_windows_are_the_input.ensures.left c.the_windows_are_the_input.ensures.end) draws answers i j drawn

pub returns-clause-end : goal.returns-clause-end
returns-clause-end c = λ draws answers i j drawn first before after is.
    at_end (take_laws c.an_answer_is_of_the_input.ensures.refill c.the_windows_are_the_input.ensures.left c.the_windows_are_the_input.ensures.end) draws answers i j drawn first before after is
