use Rattle.std.proofs.Common.{◌≡◌, ℕ, Some, sym, ◌∙◌, arith}
use Rattle.job_board.specs.Items.{no_cost}
use Rattle.job_board.proofs.Steps.{pushes, fits}
use Rattle.job_board.proofs.Calls.{put_result, has_space}
use Rattle.job_board.proofs.board.Board.deposit.Goals as goal

pub push_as-requires-clause-rule : goal.push_as-requires-clause-rule
push_as-requires-clause-rule g c = let w = c.requires.pass in (pushes no_cost _ _ _ _ w.result_alive (has_space c.args.self.now _ c.args.worker.now c.in-Some.index w c.in-Some.is) (omega arith), fits no_cost _ _ w.result_alive)

pub unreachable-requires : goal.unreachable-requires
unreachable-requires g c = let space = has_space c.args.self.now _ c.args.worker.now c.in-Some.index c.requires.pass c.in-Some.is in let h = c.in-Err.ensures.rule.2 in let l = h.1 in let f = h.2 in let a = c.requires.pass.results_fit in let cap = c.args.self.now.result_capacity in omega (arith, space, l, f, a, cap)

pub returns-in-Ok-clause-pass : goal.returns-in-Ok-clause-pass
returns-in-Ok-clause-pass g c = (put_result c.args.self.now _ c.args.worker.now c.push_as.new.pass _ _ c.requires.pass c.in-Some.is c.push_as.ensures.queue c.in-Ok.ensures.rule).0

pub returns-in-Ok-clause-deposited : goal.returns-in-Ok-clause-deposited
returns-in-Ok-clause-deposited g c = λ i is. (put_result c.args.self.now _ c.args.worker.now c.push_as.new.pass i _ c.requires.pass is c.push_as.ensures.queue (rw (some_one (sym is ∙ c.in-Some.is)) c.in-Ok.ensures.rule)).1 where
  some_one : {i j : ℕ} → Some i ≡ Some j → i ≡ j
  some_one e = cc
