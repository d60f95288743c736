use Rattle.supply.proofs.Last.{last-refill, last-fault, last-bytes}
use Rattle.supply.proofs.laws.an_answer_is_of_the_input.Goals as goal

pub returns-clause-refill : goal.returns-clause-refill
returns-clause-refill c = last-refill

pub returns-clause-fault : goal.returns-clause-fault
returns-clause-fault c = last-fault

pub returns-clause-bytes : goal.returns-clause-bytes
returns-clause-bytes c = last-bytes
