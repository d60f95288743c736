use Rattle.std.proofs.Common.{◌≡◌, ◌<◌, ◌-◌, false}
use Rattle.guest_kernel.specs.Peek.{peeked}
use Rattle.epoch_runner.specs.Trace.{traced}
use Rattle.epoch_runner.proofs.Slicing.{SliceSoFar}
use Rattle.epoch_runner.proofs.slice.take_slice.Given as goal

abbrev pub invariant-turns : goal.invariant-turns
invariant-turns l =
    SliceSoFar l.supply l.fn.bounds l.tid l.left l.most l.initial.state (traced l.initial.trace) l.steps l.has_yielded l.state (traced l.trace)
    × (l.steps < l.most → l.has_yielded ≡ false → l.peek ≡ peeked l.state l.tid)

abbrev pub decreases-turns : goal.decreases-turns
decreases-turns l = l.most - l.steps
