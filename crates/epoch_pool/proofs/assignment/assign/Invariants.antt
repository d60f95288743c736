use Rattle.std.proofs.Common.{◌≡◌, ◌<◌, length, map}
use Rattle.epoch_pool.specs.Assigning.{assigned, no_jobs}
use Rattle.epoch_pool.proofs.assignment.assign.Given as goal

abbrev pub invariant-jobs : goal.invariant-jobs
invariant-jobs l = record {
  some : 0 < length l.queues.items;
  rest : assigned l.fn.jobs.items (no_jobs l.workers) ≡ assigned l.jobs.items (map (λ h. h.jobs.items) l.queues.items);
}

abbrev pub decreases-jobs : goal.decreases-jobs
decreases-jobs l = length l.jobs.items
