use Rattle.std.proofs.Common.{None, refl, ap, ◌∙◌, ◌+◌, ℕ, length-append, arith, subst}
use Rattle.crossbeam_queue.specs.Passes.{view}
use Rattle.job_board.specs.declared.pass.Worker.{Worker}
use Rattle.job_board.specs.Passes.{IsWorkerOf}
use Rattle.job_board.proofs.Openings.{fresh, one_more, one_more_idle, job_forks, result_forks, new_job_view, new_result_view, next_job_view, next_result_view}
use Rattle.job_board.proofs.board.Board.add_workers.Goals as goal

pub another-job_pass-requires-clause-rule : goal.another-job_pass-requires-clause-rule
another-job_pass-requires-clause-rule g c = job_forks c.args.self.now _ _ c.requires.size.0 c.requires.size.1 c.workers.made _ _ c.workers.invariant.job_view

pub another-result_pass-requires-clause-rule : goal.another-result_pass-requires-clause-rule
another-result_pass-requires-clause-rule g c = result_forks c.args.self.now _ _ c.requires.size.0 c.requires.size.1 c.workers.made _ _ c.workers.invariant.result_view c.workers-test.true

pub workers-preserved : goal.workers-preserved
workers-preserved g c = let i = c.workers.invariant in let j = c.another-job_pass.ensures in let r = c.another-result_pass.ensures in
    let made : ℕ = c.workers.made in
    let new : Worker _ _ = record { jobs = c.another-job_pass.result; results = c.another-result_pass.result; held = None } in
    let both = fresh c.args.self.now (made + 1) new j.queue.1 r.queue.1 (λ e. omega (arith, e))
    (new_job_view c.args.self.now _ _ c.requires.size.0 c.requires.size.1 made (view c.workers.jobs) _ i.job_view j.rule.1) (new_result_view c.args.self.now _ _ c.requires.size.0 c.requires.size.1 made (view c.workers.results) _ i.result_view r.rule.1) refl in
    let len = i.count in record {
      jobs = (j.queue.0.0 ∙ i.jobs.0, j.queue.0.2 ∙ i.jobs.1);
      job_view = next_job_view c.args.self.now _ _ c.requires.size.0 c.requires.size.1 made (view c.workers.jobs) _ i.job_view j.rule.0;
      results = (r.queue.0.0 ∙ i.results.0, r.queue.0.2 ∙ i.results.1);
      result_view = next_result_view c.args.self.now _ _ c.requires.size.0 c.requires.size.1 made (view c.workers.results) _ i.result_view r.rule.0;
      workers = rw c.push_reserved.ensures.items (one_more c.args.self.now 1 _ _ i.workers (subst (λ n. IsWorkerOf c.args.self.now n new) (omega (arith, len)) both.0));
      idle = rw c.push_reserved.ensures.items (one_more_idle _ _ i.idle both.1);
      count = rw c.push_reserved.ensures.items (length-append _ _ ∙ ap (λ (n : ℕ). n + 1) i.count);
      space = rw c.push_reserved.ensures.capacity i.space;
    }
