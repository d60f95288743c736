use Rattle.std.proofs.Common.{◌≡◌, ◌≤◌, ◌+◌, length, suc}
use Rattle.dp_base.specs.declared.limits.TheConstants.{MAX_WORKERS}
use Rattle.std.specs.Prelude.{vec_capacity, vec_len}
use Rattle.epoch_stream.specs.Rounds.{AreDone, AreStarted}
use Rattle.epoch_stream.proofs.promises.worker_starts.join_all.Given as goal

abbrev pub invariant-workers : goal.invariant-workers
invariant-workers g l = record {
  started : AreStarted l.board l.supply (suc l.worker_number) l.started.items;
  done : AreDone l.board l.supply 1 l.workers.items;
  count : length l.workers.items ≡ l.worker_number;
  whole : length l.workers.items + length l.started.items ≡ length l.fn.started.items;
  few : length l.fn.started.items ≤ MAX_WORKERS;
  room : length l.fn.started.items ≤ vec_capacity l.workers;
}

abbrev pub decreases-workers : goal.decreases-workers
decreases-workers g l = vec_len l.started
