use Rattle.std.proofs.Common.{◌≡◌, ◌≤◌, ◌+◌, length, suc}
use Rattle.std.specs.Prelude.{vec_capacity, vec_len}
use Rattle.job_board.specs.Passes.{AreWorkersOf}
use Rattle.stop_word.specs.Seats.{IsStopperOf}
use Rattle.job_board_tests.specs.Crews.{AreStarted}
use Rattle.job_board_tests.proofs.joining.join_all.Given as goal

abbrev pub invariant-workers : goal.invariant-workers
invariant-workers g l = record {
  started : AreStarted l.board l.stop (suc l.number) l.started.items;
  workers : AreWorkersOf l.board 1 l.workers.items;
  stopper : IsStopperOf l.stop l.stopper;
  count : length l.workers.items ≡ l.number;
  whole : length l.workers.items + length l.started.items ≡ length l.fn.started.items;
  few : length l.fn.started.items ≤ 64;
  space : length l.fn.started.items ≤ vec_capacity l.workers;
}

abbrev pub decreases-workers : goal.decreases-workers
decreases-workers g l = vec_len l.started
