use Rattle.std.proofs.Common.{◌≡◌, ◌+◌, ◌-◌, cond, length}
use Rattle.epoch_replay.specs.Stretches.{IsStretch}
use Rattle.epoch_replay.proofs.journal_stretch.run_epochs.Given as goal

abbrev pub invariant-epochs : goal.invariant-epochs
invariant-epochs l = record {
  is : IsStretch l.file l.stretch;
  base : l.stretch.base ≡ l.fn.stretch.base;
  start : l.stretch.start ≡ l.fn.stretch.start;
}

abbrev pub decreases-epochs : goal.decreases-epochs
decreases-epochs l = length l.file - l.stretch.at + cond l.more 1 0
