use Rattle.std.proofs.Common.{ap, ◌∙◌}
use Rattle.epoch_replay.specs.Counting.{marked_steps_at}
use Rattle.epoch_replay.proofs.Counting.{marked, partial_marked}
use Rattle.epoch_replay.proofs.counts.marked_steps.Goals as goal

pub returns-clause-full : goal.returns-clause-full
returns-clause-full c = λ marked_state is body_is. c.read_marked_steps.ensures ∙ ap marked_steps_at body_is ∙ marked marked_state is

pub returns-clause-partial : goal.returns-clause-partial
returns-clause-partial c = λ m is body_is. c.read_marked_steps.ensures ∙ ap marked_steps_at body_is ∙ partial_marked m is
