use Rattle.std.proofs.Common.{◌≡◌, ◌+◌, false}
use Rattle.std.specs.Prelude.{if◌then◌else◌}
use Rattle.epoch_runner.specs.HintRun.{HintedSoFar, AreHintsOver, following_of}
use Rattle.epoch_runner.specs.Trace.{traced}
use Rattle.epoch_runner.proofs.hint_phase.begin.Given as goal

abbrev pub invariant-turns : goal.invariant-turns
invariant-turns l =
    HintedSoFar l.fn.start l.fn.hints l.supply l.bounds l.course.state l.course.slices (traced l.course.trace) l.course.left l.course.hand (following_of l.following l.fn.hints.order)
    × (l.more ≡ false → AreHintsOver l.supply l.course.state (traced l.course.trace) l.course.left (following_of l.following l.fn.hints.order))

abbrev pub decreases-turns : goal.decreases-turns
decreases-turns l = l.course.left + (if l.more then 1 else 0)
