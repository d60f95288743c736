use Rattle.std.proofs.Common.{◌≡◌, ◌+◌, ◌-◌, ◌<◌, length}
use Rattle.epoch_runner.specs.Answering.{ready_at}
use Rattle.epoch_runner.specs.Lowest.{lowest_from, lowest_of}
use Rattle.epoch_runner.proofs.schedule.lowest_from.Given as goal

abbrev pub invariant-threads : goal.invariant-threads
invariant-threads l =
    (0 < l.number) × (lowest_from (ready_at l.state l.supply) l.least l.state.threads
    ≡ lowest_of (ready_at l.state l.supply) l.number (length l.state.threads + 1 - l.number))

abbrev pub decreases-threads : goal.decreases-threads
decreases-threads l = length l.state.threads + 1 - l.number
