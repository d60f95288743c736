use Rattle.job_board.specs.Items.{job_cost, no_cost}
use Rattle.job_board.proofs.Steps.{begins}
use Rattle.job_board.proofs.opening.make_fresh.Goals as goal

pub ruled-requires-clause-rule : goal.ruled-requires-clause-rule
ruled-requires-clause-rule g c = begins job_cost

pub ruled-requires-2-clause-rule : goal.ruled-requires-2-clause-rule
ruled-requires-2-clause-rule g c = begins no_cost
