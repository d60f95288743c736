use Rattle.epoch_runner.proofs.Nexts.{turn_next}
use Rattle.epoch_runner.proofs.laws.the_next_thread_can_step.Goals as goal

pub returns : goal.returns
returns c = λ s w bounds p tid begins left is.
    let there = turn_next s w bounds p tid begins left is in
    (there.0.alive, there.1.0)
