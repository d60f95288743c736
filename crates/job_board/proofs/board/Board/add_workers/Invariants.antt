use Rattle.std.proofs.Common.{◌≡◌, ◌≤◌, length}
use Rattle.std.specs.Prelude.{vec_capacity}
use Rattle.crossbeam_queue.specs.Passes.{view, IsPassOf}
use Rattle.job_board.specs.Opening.{job_view, result_view}
use Rattle.job_board.specs.Passes.{AreIdle, AreWorkersOf}
use Rattle.job_board.proofs.board.Board.add_workers.Given as goal

abbrev pub invariant-workers : goal.invariant-workers
invariant-workers g l = record {
  jobs : IsPassOf l.self.jobs l.jobs;
  job_view : view l.jobs ≡ job_view l.self l.made;
  results : IsPassOf l.self.results l.results;
  result_view : view l.results ≡ result_view l.self l.made;
  workers : AreWorkersOf l.self 1 l.workers.items;
  idle : AreIdle l.workers.items;
  count : length l.workers.items ≡ l.made;
  space : l.self.workers ≤ vec_capacity l.workers;
}
