use Rattle.std.proofs.Common.{◌≡◌}
use Rattle.test_files.specs.Bytes.{repeated}
use Rattle.test_files.proofs.repeating.repeated.Given as goal

abbrev pub invariant-loop-number : goal.invariant-loop-number
invariant-loop-number g l = l.bytes.items ≡ repeated l.number
