use Rattle.std.proofs.Common.{◌≡◌, ◌+◌, ◌-◌, ◌<◌, length, not, ◌&&◌}
use Rattle.epoch_runner.specs.Hinted.{goes_plain, is_thread}
use Rattle.epoch_runner.specs.Lowest.{lowest_from, lowest_of}
use Rattle.epoch_runner.proofs.hint_rules.lowest_plain.Given as goal

abbrev pub invariant-threads : goal.invariant-threads
invariant-threads l =
    (0 < l.number) × (lowest_from (λ tid. not (is_thread l.but tid) && goes_plain l.state l.left tid) l.least l.state.threads
    ≡ lowest_of (λ tid. not (is_thread l.but tid) && goes_plain l.state l.left tid) l.number (length l.state.threads + 1 - l.number))

abbrev pub decreases-threads : goal.decreases-threads
decreases-threads l = length l.state.threads + 1 - l.number
