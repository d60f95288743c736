use Rattle.std.proofs.Common.{refl}
use Rattle.guest_kernel.specs.Slices.{turns}
use Rattle.epoch_runner.proofs.slice.stretch.Goals as goal

pub returns-in_default-clause-turns : goal.returns-in_default-clause-turns
unfolding turns
returns-in_default-clause-turns c = refl
