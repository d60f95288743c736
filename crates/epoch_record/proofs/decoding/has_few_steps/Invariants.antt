use Rattle.std.proofs.Common.{◌≡◌, ◌+◌, take}
use Rattle.dp_base.specs.Journal.{steps_of}
use Rattle.dp_base.specs.declared.limits.TheConstants.{MAX_EPOCH_STEPS}
use Rattle.epoch_record.proofs.decoding.has_few_steps.Given as goal

abbrev pub invariant-loop-slice : goal.invariant-loop-slice
invariant-loop-slice l = l.left + steps_of (take l.slice-index l.slices) ≡ MAX_EPOCH_STEPS
