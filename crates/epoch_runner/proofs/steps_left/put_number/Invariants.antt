use Rattle.std.proofs.Common.{◌≡◌, ◌+◌, ◌-◌}
use Rattle.epoch_runner.specs.Hinted.{with_number}
use Rattle.epoch_runner.proofs.steps_left.put_number.Given as goal

abbrev pub invariant-missing : goal.invariant-missing
invariant-missing l = with_number l.place l.number l.numbers.items ≡ with_number l.place l.number l.initial.numbers.items

abbrev pub decreases-missing : goal.decreases-missing
decreases-missing l = l.place + 1 - l.numbers.len
