use Rattle.std.proofs.Common.{◌≡◌}
use Rattle.std.specs.Prelude.{IsTrue}
use Rattle.epoch_replay.specs.Stretches.{IsStretch}
use Rattle.epoch_replay.proofs.journal_stretch.run_parts.Given as goal

abbrev pub invariant-marks : goal.invariant-marks
invariant-marks l = record {
  is : IsTrue l.ran → IsStretch l.file l.stretch;
  base : l.stretch.base ≡ l.fn.stretch.base;
  start : l.stretch.start ≡ l.fn.stretch.start;
}
