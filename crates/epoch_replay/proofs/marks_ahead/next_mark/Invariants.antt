use Rattle.std.proofs.Common.{◌^◌, ◌-◌}
use Rattle.epoch_replay.proofs.marks_ahead.next_mark.Given as goal

abbrev pub decreases-gates : goal.decreases-gates
decreases-gates l = 2 ^ 64 - l.mark
