use Rattle.std.proofs.Common.{sym, ap, ◌∙◌, ◌≡◌, ℕ, suc, ◌<◌, ◌==◌, false, arith}
use Rattle.job_board.specs.Items.{job_cost, no_cost}
use Rattle.job_board.proofs.Steps.{merges}
use Rattle.job_board.proofs.Closings.{first_worker}
use Rattle.job_board.proofs.board.Board.take_back.Goals as goal

some_there : (n : ℕ) → false ≡ (n == 0) → 0 < n
some_there n e = grind arith

pub absorb-requires-clause-rule : goal.absorb-requires-clause-rule
absorb-requires-clause-rule g c = let i = c.workers.invariant in let w = (first_worker c.args.self.now _ c.workers.workers.items c.remove-job_pass.result i.rest (rw c.workers.workers.ok.0 at (some_there _ c.workers-test.ensures)) c.remove-job_pass.ensures.value).0 in
    merges job_cost _ _ _ _ i.first_jobs.alive i.first_jobs.number w.job_alive w.job_number

pub absorb-requires-in-workers-clause-rule : goal.absorb-requires-in-workers-clause-rule
absorb-requires-in-workers-clause-rule g c = let i = c.workers.invariant in let w = (first_worker c.args.self.now _ c.workers.workers.items c.remove-job_pass.result i.rest (rw c.workers.workers.ok.0 at (some_there _ c.workers-test.ensures)) c.remove-job_pass.ensures.value).0 in
    merges no_cost _ _ _ _ i.first_results.alive i.first_results.number w.result_alive (w.result_number ∙ ap suc (sym i.both))
