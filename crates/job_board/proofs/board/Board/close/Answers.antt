use Rattle.std.proofs.Common.{refl, ap, ◌∙◌, ◌≡◌, suc, List, length, [], ◌∷◌, arith}
use Rattle.crossbeam_queue.specs.Passes.{view}
use Rattle.job_board.specs.declared.pass.Worker.{Worker}
use Rattle.job_board.specs.Items.{no_cost}
use Rattle.job_board.specs.Passes.{result_parts}
use Rattle.job_board.proofs.Steps.{merges}
use Rattle.job_board.proofs.Closings.{close_jobs, close_results}
use Rattle.job_board.proofs.Distinct.{of_published, are_distinct}
use Rattle.job_board.proofs.board.Board.close.Goals as goal

module _ {J R : Type 0} where
  counted : (ws : List (Worker J R)) → length (result_parts ws) ≡ length ws
  counted [] = refl
  counted (w ∷ ws) = ap suc (counted ws)

pub absorb-requires-clause-rule : goal.absorb-requires-clause-rule
absorb-requires-clause-rule g c = let f = c.take_back.ensures.results.1 in let k = c.requires.collector in let n = k.number in let e = ap length f.returned ∙ counted c.args.workers.items in let l = c.requires.workers.1 in
    merges no_cost _ _ _ _ f.alive f.number k.alive (n ∙ omega (arith, e, l))

pub returns-clause-jobs : goal.returns-clause-jobs
returns-clause-jobs g c = let t = c.take_back.ensures.jobs in let d = c.drain_jobs.ensures in close_jobs (view c.take_back.new.jobs) _ c.args.workers.items _ _ t.2 t.1.returned d.0 d.1

pub returns-clause-results : goal.returns-clause-results
returns-clause-results g c = let t = c.take_back.ensures.results in let d = c.drain_results.ensures in (close_results c.args.self (view c.take_back.new.results) (view c.absorb.new.pass) (view c.args.collector.results) _ c.args.workers.items _ _ c.requires.workers.0 (t.2 ∙ c.requires.receipt.count) t.1.returned c.requires.collector.put c.absorb.ensures.rule d.0 d.1).0

pub returns-clause-count : goal.returns-clause-count
returns-clause-count g c = let t = c.take_back.ensures.results in let d = c.drain_results.ensures in (close_results c.args.self (view c.take_back.new.results) (view c.absorb.new.pass) (view c.args.collector.results) _ c.args.workers.items _ _ c.requires.workers.0 (t.2 ∙ c.requires.receipt.count) t.1.returned c.requires.collector.put c.absorb.ensures.rule d.0 d.1).1

pub returns-clause-known : goal.returns-clause-known
returns-clause-known g c = of_published c.args.self c.args.workers.items _ _ _ c.requires.workers.0 (returns-clause-jobs g c) (returns-clause-results g c)

pub returns-clause-distinct : goal.returns-clause-distinct
returns-clause-distinct g c = are_distinct _ _ c.requires.receipt.numbered (returns-clause-known g c)
