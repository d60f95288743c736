use Rattle.std.proofs.Common.{◌≡◌, None}
use Rattle.job_board.specs.Passes.{IsWorkerOf, claimed, deposited}
use Rattle.stop_word.specs.Seats.{IsWatcherOf}
use Rattle.epoch_stream.specs.Deposits.{AreFor}
use Rattle.epoch_stream.proofs.worker_part.work.Given as goal

abbrev pub invariant-jobs : goal.invariant-jobs
invariant-jobs g l = record {
  worker : IsWorkerOf l.board l.fn.worker_number l.worker;
  watcher : IsWatcherOf l.stop l.watcher;
  free : l.worker.held ≡ None;
  are_for : AreFor l.supply (claimed l.worker) (deposited l.worker);
}
