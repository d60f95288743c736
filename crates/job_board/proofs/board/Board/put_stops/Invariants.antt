use Rattle.std.specs.Prelude.{replicate, ◌++◌}
use Rattle.job_board.specs.declared.item.JobItem.TheVariants.{Stop}
use Rattle.std.proofs.Common.{◌≡◌, ◌+◌, ◌≤◌, []}
use Rattle.crossbeam_queue.specs.Passes.{view, IsPassOf}
use Rattle.job_board.specs.Items.{jobs_of}
use Rattle.job_board.specs.Passes.{IsFirst, job_capacity}
use Rattle.job_board.proofs.board.Board.put_stops.Given as goal

abbrev pub invariant-stops : goal.invariant-stops
invariant-stops g l = record {
  pass : IsPassOf l.self.jobs l.jobs;
  first : IsFirst (view l.jobs) (l.self.workers + 1) [];
  capacity : (view l.jobs).capacity ≡ job_capacity l.self;
  space : l.self.workers ≤ (view l.jobs).items_left + l.stops;
  put : (view l.jobs).put ≡ (view l.fn.jobs).put ++ replicate l.stops Stop;
  same : jobs_of (view l.jobs).put ≡ jobs_of (view l.fn.jobs).put;
}
