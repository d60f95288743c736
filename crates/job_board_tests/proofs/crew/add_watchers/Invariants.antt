use Rattle.std.proofs.Common.{◌≡◌, ◌≤◌, ◌+◌, length, suc}
use Rattle.std.specs.Prelude.{vec_capacity, vec_len}
use Rattle.job_board.specs.Passes.{AreWorkersOf, AreIdle}
use Rattle.stop_word.specs.Seats.{IsStopperOf}
use Rattle.job_board_tests.specs.Crews.{ArePasses}
use Rattle.job_board_tests.proofs.crew.add_watchers.Given as goal

abbrev pub invariant-workers : goal.invariant-workers
invariant-workers g l = record {
  passes : ArePasses l.board l.stop 1 l.passes.items;
  workers : AreWorkersOf l.board (suc (length l.passes.items)) l.workers.items;
  idle : AreIdle l.workers.items;
  stopper : IsStopperOf l.stop l.stopper;
  whole : length l.passes.items + length l.workers.items ≡ length l.fn.workers.items;
  space : length l.fn.workers.items ≤ vec_capacity l.passes;
}

abbrev pub decreases-workers : goal.decreases-workers
decreases-workers g l = vec_len l.workers
