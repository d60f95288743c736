use Rattle.std.proofs.Common.{◌≡◌, ◌+◌, ◌++◌, length, suc}
use Rattle.std.specs.Prelude.{vec_len}
use Rattle.crossbeam_queue.specs.Passes.{view, IsPassOf}
use Rattle.job_board.specs.Passes.{IsFirst, AreWorkersOf, job_parts, result_parts}
use Rattle.job_board.proofs.board.Board.take_back.Given as goal

abbrev pub invariant-workers : goal.invariant-workers
invariant-workers g l = record {
  jobs : IsPassOf l.self.jobs l.jobs;
  first_jobs : IsFirst (view l.jobs) (l.self.workers + 1) (view l.jobs).returned;
  job_put : (view l.jobs).put ≡ (view l.fn.jobs).put;
  job_capacity : (view l.jobs).capacity ≡ (view l.fn.jobs).capacity;
  results : IsPassOf l.self.results l.results;
  first_results : IsFirst (view l.results) (l.self.workers + 2) (view l.results).returned;
  result_put : (view l.results).put ≡ (view l.fn.results).put;
  result_capacity : (view l.results).capacity ≡ (view l.fn.results).capacity;
  rest : AreWorkersOf l.self (suc (length (view l.jobs).returned)) l.workers.items;
  both : length (view l.results).returned ≡ length (view l.jobs).returned;
  job_known : (view l.jobs).returned ++ job_parts l.workers.items ≡ job_parts l.fn.workers.items;
  result_known : (view l.results).returned ++ result_parts l.workers.items ≡ result_parts l.fn.workers.items;
}

abbrev pub decreases-workers : goal.decreases-workers
decreases-workers g l = vec_len l.workers
