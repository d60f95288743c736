use Rattle.std.proofs.Common.{◌≡◌, ◌≤◌, length}
use Rattle.std.specs.Prelude.{vec_capacity}
use Rattle.crossbeam_queue.specs.Passes.{view, IsPassOf}
use Rattle.job_board.specs.Items.{results_of}
use Rattle.job_board.proofs.board.Board.drain_results.Given as goal

abbrev pub invariant-items : goal.invariant-items
invariant-items g l = record {
  pass : IsPassOf l.self.results l.results;
  number : (view l.results).number ≡ (view l.fn.results).number;
  alive : (view l.results).spent ≡ (view l.fn.results).spent;
  made : (view l.results).made ≡ (view l.fn.results).made;
  returned : (view l.results).returned ≡ (view l.fn.results).returned;
  put : (view l.results).put ≡ (view l.fn.results).put;
  capacity : (view l.results).capacity ≡ (view l.fn.results).capacity;
  few : length (view l.results).taken ≤ (view l.fn.results).capacity;
  left : l.left.items ≡ results_of (view l.results).taken;
  space : (view l.fn.results).capacity ≤ vec_capacity l.left;
}
