use Rattle.std.proofs.Common.{List, ◌++◌, length}
use Rattle.epoch_pool.specs.Pool.{HaveRun}
use Rattle.epoch_runner.specs.declared.epoch_run.Ran.{Ran}
use Rattle.epoch_pool.proofs.assignment.run_jobs.Given as goal

-- results of what is left end those of all
abbrev pub invariant-jobs : goal.invariant-jobs
invariant-jobs g l = (others : List Ran) → HaveRun l.jobs.items l.supply others → HaveRun l.fn.queue.jobs.items l.supply (l.results.items ++ others)

abbrev pub decreases-jobs : goal.decreases-jobs
decreases-jobs g l = length l.jobs.items
