use Rattle.std.proofs.Common.{arith}
use Rattle.job_board.specs.Items.{job_cost}
use Rattle.job_board.proofs.Steps.{pushes, fits}
use Rattle.job_board.proofs.Calls.{put_job}
use Rattle.job_board.proofs.board.Board.publish.Goals as goal

pub push_as-requires-clause-rule : goal.push_as-requires-clause-rule
push_as-requires-clause-rule g c = let p = c.requires.pass in (pushes job_cost _ _ _ _ p.first_jobs.alive (let r = p.items_left in let n = p.count in let f = c.requires.few in omega (arith, r, n, f)) (let q = p.cost_left in let n = p.count in let f = c.requires.few in omega (arith, q, n, f)), fits job_cost _ _ p.first_jobs.alive)

pub unreachable-requires : goal.unreachable-requires
unreachable-requires g c = let p = c.requires.pass in let r = p.items_left in let n = p.count in let f = c.requires.few in let h = c.in-Err.ensures.rule.2 in let l = h.1 in let k = h.2 in let a = p.jobs_fit in let cap = c.args.self.now.job_capacity in omega (arith, r, n, f, l, k, a, cap)

pub returns-clause-pass : goal.returns-clause-pass
returns-clause-pass g c = (put_job c.args.self.now c.args.publisher.now c.push_as.new.pass c.args.job c.requires.pass c.requires.few c.push_as.ensures.queue c.in-Ok.ensures.rule).0

pub returns-clause-published : goal.returns-clause-published
returns-clause-published g c = (put_job c.args.self.now c.args.publisher.now c.push_as.new.pass c.args.job c.requires.pass c.requires.few c.push_as.ensures.queue c.in-Ok.ensures.rule).1
