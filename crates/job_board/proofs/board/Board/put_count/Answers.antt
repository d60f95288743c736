use Rattle.std.proofs.Common.{arith}
use Rattle.job_board.specs.Items.{no_cost}
use Rattle.job_board.proofs.Steps.{pushes, fits}
use Rattle.job_board.proofs.board.Board.put_count.Goals as goal

pub push_as-requires-clause-rule : goal.push_as-requires-clause-rule
push_as-requires-clause-rule g c = let space = c.requires.space in (pushes no_cost _ _ _ _ c.requires.pass.1.alive (omega (arith, space)) (omega arith), fits no_cost _ _ c.requires.pass.1.alive)

pub unreachable-requires : goal.unreachable-requires
unreachable-requires g c = let space = c.requires.space in let h = c.in-Err.ensures.rule.2 in let l = h.1 in let k = h.2 in let a = c.requires.capacity in let cap = c.args.self.now.result_capacity in omega (arith, space, l, k, a, cap)
