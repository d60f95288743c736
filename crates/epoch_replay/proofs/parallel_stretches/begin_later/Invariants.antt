use Rattle.checkpoint.specs.State.{IsEncodable}
use Rattle.epoch_replay.proofs.parallel_stretches.begin_later.Given as goal

abbrev pub invariant-marks : goal.invariant-marks
invariant-marks l = record { base : IsEncodable l.base }
