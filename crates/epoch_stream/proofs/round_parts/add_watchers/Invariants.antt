use Rattle.std.proofs.Common.{◌≡◌, ◌≤◌, ◌+◌, length, suc}
use Rattle.std.specs.Prelude.{vec_capacity, vec_len}
use Rattle.job_board.specs.Passes.{AreIdle, AreWorkersOf}
use Rattle.stop_word.specs.Seats.{IsStopperOf, has_stopped}
use Rattle.epoch_stream.specs.Rounds.{ArePasses}
use Rattle.epoch_stream.proofs.round_parts.add_watchers.Given as goal

abbrev pub invariant-workers : goal.invariant-workers
invariant-workers l = record {
  stopper : IsStopperOf l.stop l.stopper;
  unsaid : has_stopped l.stopper ≡ has_stopped l.fn.stopper;
  workers : AreWorkersOf l.board (suc (length l.passes.items)) l.workers.items;
  idle : AreIdle l.workers.items;
  passes : ArePasses l.board l.stop 1 l.passes.items;
  whole : length l.passes.items + length l.workers.items ≡ length l.fn.workers.items;
  room : length l.fn.workers.items ≤ vec_capacity l.passes;
}

abbrev pub decreases-workers : goal.decreases-workers
decreases-workers l = vec_len l.workers
