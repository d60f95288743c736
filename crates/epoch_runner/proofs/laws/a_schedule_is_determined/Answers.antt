use Rattle.epoch_runner.proofs.Courses.{one_schedule}
use Rattle.epoch_runner.proofs.laws.a_schedule_is_determined.Goals as goal

pub returns : goal.returns
returns c = λ start hints w bounds e f output other end otherwise a b. one_schedule start hints w bounds e f output other end otherwise a b
