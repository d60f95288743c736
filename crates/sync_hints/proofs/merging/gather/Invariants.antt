use Rattle.std.proofs.Common.{◌≡◌, take}
use Rattle.sync_hints.specs.Merging.{all_entries}
use Rattle.sync_hints.proofs.merging.gather.Given as goal

abbrev pub invariant-loop-log : goal.invariant-loop-log
invariant-loop-log l = l.entries.items ≡ all_entries (take l.log-index l.logs)
