use Rattle.std.proofs.Common.{◌≡◌, length}
use Rattle.job_board_tests.proofs.round_tests.jobs_of.Given as goal

abbrev pub invariant-loop-index : goal.invariant-loop-index
invariant-loop-index l = length l.jobs.items ≡ l.index
