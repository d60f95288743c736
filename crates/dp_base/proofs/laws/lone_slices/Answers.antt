use Rattle.dp_base.proofs.Sizes.{length-lone, lone_is_epoch, lone_is_body}
use Rattle.dp_base.proofs.laws.lone_slices.Goals as goal

pub returns-clause-length : goal.returns-clause-length
returns-clause-length c = length-lone

pub returns-clause-epoch : goal.returns-clause-epoch
returns-clause-epoch c = lone_is_epoch

pub returns-clause-body : goal.returns-clause-body
returns-clause-body c = lone_is_body
