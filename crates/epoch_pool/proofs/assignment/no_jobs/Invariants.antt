use Rattle.std.proofs.Common.{◌≡◌, map}
use Rattle.epoch_pool.specs.Assigning.{no_jobs}
use Rattle.epoch_pool.proofs.assignment.no_jobs.Given as goal

abbrev pub invariant-workers : goal.invariant-workers
invariant-workers l = map (λ h. h.jobs.items) l.queues.items ≡ no_jobs l.worker
