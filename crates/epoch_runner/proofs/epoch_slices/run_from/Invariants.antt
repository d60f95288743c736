use Rattle.epoch_runner.specs.Trace.{traced}
use Rattle.epoch_runner.specs.SliceRun.{EpochSoFar}
use Rattle.epoch_runner.proofs.epoch_slices.run_from.Given as goal

abbrev pub invariant-slices : goal.invariant-slices
invariant-slices l = EpochSoFar l.fn.start l.fn.hints l.supply l.fn.bounds l.slices l.left l.state (traced l.trace) l.next

abbrev pub decreases-slices : goal.decreases-slices
decreases-slices l = l.left
