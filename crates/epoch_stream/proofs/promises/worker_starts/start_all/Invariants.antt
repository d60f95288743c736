use Rattle.std.proofs.Common.{◌≡◌, ◌≤◌, ◌+◌, length, suc}
use Rattle.dp_base.specs.declared.limits.TheConstants.{MAX_WORKERS}
use Rattle.std.specs.Prelude.{vec_capacity, vec_len}
use Rattle.epoch_stream.specs.Rounds.{ArePasses, AreStarted}
use Rattle.epoch_stream.proofs.promises.worker_starts.start_all.Given as goal

abbrev pub invariant-workers : goal.invariant-workers
invariant-workers g l = record {
  started : AreStarted l.board l.supply 1 l.started.items;
  passes : ArePasses l.board l.stop (suc l.worker_number) l.passes.items;
  count : length l.started.items ≡ l.worker_number;
  whole : length l.started.items + length l.passes.items ≡ length l.fn.passes.items;
  few : length l.fn.passes.items ≤ MAX_WORKERS;
  room : length l.fn.passes.items ≤ vec_capacity l.started;
}

abbrev pub decreases-workers : goal.decreases-workers
decreases-workers g l = vec_len l.passes
