use Rattle.racing_runner.specs.Racing.{raced_so_far}
use Rattle.racing_runner.proofs.Stretches.{IsSoFar}
use Rattle.racing_runner.proofs.noted_epoch.run_turns.Given as goal

abbrev pub invariant-loop-step : goal.invariant-loop-step
invariant-loop-step l = IsSoFar l.fn.supply l.fn.bounds (raced_so_far l.fn.walk l.fn.notes.counts.items l.fn.notes.order.items) l._step l.walk l.notes.counts.items l.notes.order.items
