use Rattle.std.proofs.Common.{refl, ◌∙◌, arith}
use Rattle.crossbeam_queue.specs.Passes.{view}
use Rattle.job_board.proofs.Openings.{collector_forks, publishes}
use Rattle.job_board.proofs.board.Board.sized.Goals as goal

pub another-pass-requires-clause-rule : goal.another-pass-requires-clause-rule
another-pass-requires-clause-rule g c = let s = c.in_ok-board.ensures.size in collector_forks c.in_ok-board.field-0.board _ _ (s.0 ∙ c.requires.size.0) (s.1 ∙ c.requires.size.1) _ _ c.in_ok-all.ensures.results.1

pub returns-clause-publisher : goal.returns-clause-publisher
returns-clause-publisher g c = let s = c.in_ok-board.ensures.size in let a = c.another-pass.ensures in let j = c.in_ok-all.ensures.jobs in let r = c.in_ok-all.ensures.results in
    publishes c.in_ok-board.field-0.board _ _ (s.0 ∙ c.requires.size.0) (s.1 ∙ c.requires.size.1) _ (view c.add_workers.new.results) (let w = s.1 in let some = c.requires.some in omega (arith, w, some)) j.0 (a.queue.0.0 ∙ r.0.0, a.queue.0.2 ∙ r.0.1) j.1 r.1 a.rule.0 refl c.in_ok-left.ensures
