use Rattle.recorder.proofs.CallEvents.{run_is_takeable}
use Rattle.recorder.proofs.laws.a_run_may_be_taken.Goals as goal

pub returns : goal.returns
returns c = λ supplied s hints w bounds ran. run_is_takeable c.an_epoch_is_supplied.ensures supplied s hints w bounds ran
