use Rattle.std.proofs.Common.{subst}
use Rattle.disk_model.specs.History.{IsImage, Pending}
use Rattle.disk_model.proofs.Images.{image-synced}
use Rattle.epoch_replay.proofs.laws.a_crash_in_a_replay_leaves_the_disk.Goals as goal

pub returns : goal.returns
returns c = λ output before image sent synced replaying. image-synced before.disk image (subst (λ (p : Pending). IsImage p image) synced replaying.3)
