use Rattle.std.proofs.Common.{map}
use Rattle.epoch_pool.specs.Assigning.{no_jobs}
use Rattle.epoch_pool.proofs.Assignments.{Gathering}
use Rattle.epoch_pool.proofs.pool.run_in.Given as goal

abbrev pub invariant-left : goal.invariant-left
invariant-left g l = Gathering l.fn.jobs.items (no_jobs l.workers) l.supply l.left (map (λ h. h.items) l.all.items) l.ordered.items

abbrev pub decreases-left : goal.decreases-left
decreases-left g l = l.left
