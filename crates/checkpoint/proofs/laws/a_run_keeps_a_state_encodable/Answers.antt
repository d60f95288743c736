use Rattle.checkpoint.proofs.Running.{run_keeps}
use Rattle.checkpoint.proofs.laws.a_run_keeps_a_state_encodable.Goals as goal

pub returns : goal.returns
returns c = run_keeps c.a_turn_is_one_step.ensures.counts c.the_place_grows_by_what_is_read.ensures.turn c.a_turn_goes_by_its_peek.ensures.left
    c.a_turn_keeps_a_state_encodable.ensures
