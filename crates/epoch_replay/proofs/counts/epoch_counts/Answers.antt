use Rattle.std.proofs.Common.{ap, ◌∙◌}
use Rattle.epoch_replay.specs.Counting.{counts_at}
use Rattle.epoch_replay.proofs.Counting.{counted}
use Rattle.epoch_replay.proofs.counts.epoch_counts.Goals as goal

pub returns : goal.returns
returns c = λ e is body_is. c.count_epoch.ensures ∙ ap counts_at body_is ∙ counted e is
