use Rattle.std.proofs.Common.{◌+◌, ◌*◌, length}
use Rattle.thread_racer.proofs.side_by_side.+chunks.Given as goal

abbrev pub decreases-side_by_side : goal.decreases-side_by_side
decreases-side_by_side g l = 4 * length l.items.now

abbrev pub decreases-both : goal.decreases-both
decreases-both g l = 4 * length l.others.now + 2

abbrev pub decreases-both-back : goal.decreases-both-back
decreases-both-back g l = 4 * length l.others.now + 1
