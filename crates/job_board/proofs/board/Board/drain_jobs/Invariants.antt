use Rattle.std.proofs.Common.{◌≡◌, ◌≤◌, length}
use Rattle.std.specs.Prelude.{vec_capacity}
use Rattle.crossbeam_queue.specs.Passes.{view, IsPassOf}
use Rattle.job_board.specs.Items.{jobs_of}
use Rattle.job_board.proofs.board.Board.drain_jobs.Given as goal

abbrev pub invariant-items : goal.invariant-items
invariant-items g l = record {
  pass : IsPassOf l.self.jobs l.jobs;
  number : (view l.jobs).number ≡ (view l.fn.jobs).number;
  alive : (view l.jobs).spent ≡ (view l.fn.jobs).spent;
  made : (view l.jobs).made ≡ (view l.fn.jobs).made;
  returned : (view l.jobs).returned ≡ (view l.fn.jobs).returned;
  put : (view l.jobs).put ≡ (view l.fn.jobs).put;
  capacity : (view l.jobs).capacity ≡ (view l.fn.jobs).capacity;
  few : length (view l.jobs).taken ≤ (view l.fn.jobs).capacity;
  left : l.left.items ≡ jobs_of (view l.jobs).taken;
  space : (view l.fn.jobs).capacity ≤ vec_capacity l.left;
}
