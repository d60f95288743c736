use Rattle.recorder.proofs.Alike.{one_epoch}
use Rattle.recorder.proofs.laws.an_epoch_is_determined.Goals as goal

pub returns : goal.returns
returns c = λ options first s w e f end other output written a b. one_epoch c.a_schedule_is_determined.ensures options first s w e f end other output written a b
