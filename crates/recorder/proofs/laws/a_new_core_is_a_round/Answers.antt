use Rattle.recorder.proofs.CallEvents.{draw_is_round}
use Rattle.recorder.proofs.laws.a_new_core_is_a_round.Goals as goal

pub returns : goal.returns
returns c = λ guest supplied m d jobs i w core. draw_is_round c.a_supply_lets_a_guest_step.ensures.used_up guest supplied m d jobs i w core
