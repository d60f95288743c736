use Rattle.checkpoint.proofs.Running.{chain_keeps_at}
use Rattle.checkpoint.proofs.laws.a_chain_keeps_a_state_encodable.Goals as goal

pub returns : goal.returns
returns c = chain_keeps_at c.a_turn_is_one_step.ensures.counts c.the_place_grows_by_what_is_read.ensures.turn c.a_turn_goes_by_its_peek.ensures.left
    c.a_turn_keeps_a_state_encodable.ensures
