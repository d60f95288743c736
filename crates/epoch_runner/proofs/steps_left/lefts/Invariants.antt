use Rattle.std.proofs.Common.{◌≡◌, drop, ◌≤◌, length}
use Rattle.epoch_runner.specs.Hinted.{lefts}
use Rattle.epoch_runner.proofs.steps_left.lefts.Given as goal

abbrev pub invariant-counts : goal.invariant-counts
invariant-counts l = (l.left.items ≡ lefts (drop l.index l.counts)) × (l.index ≤ length l.counts)

abbrev pub decreases-counts : goal.decreases-counts
decreases-counts l = l.index
