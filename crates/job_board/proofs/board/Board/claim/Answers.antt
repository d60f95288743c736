use Rattle.std.proofs.Common.{sym, refl, ◌∙◌}
use Rattle.job_board.specs.Items.{job_cost}
use Rattle.crossbeam_queue.specs.Passes.{view}
use Rattle.job_board.proofs.Steps.{takes, tells}
use Rattle.job_board.proofs.Calls.{took_job, took_stop, no_stop_more, one_stop_more}
use Rattle.job_board.proofs.board.Board.claim.Goals as goal

pub pop_as-requires-clause-rule : goal.pop_as-requires-clause-rule
pop_as-requires-clause-rule g c = let w = c.requires.pass in (takes job_cost _ _ w.job_alive (λ e. w.some (sym w.job_number ∙ e)), tells job_cost _ _ w.job_alive)

pub returns-in-Some-Job-clause-pass : goal.returns-in-Some-Job-clause-pass
returns-in-Some-Job-clause-pass g c = (took_job c.args.self.now _ c.args.worker.now c.pop_as.new.pass _ _ c.requires.pass c.requires.free c.pop_as.ensures.queue (rw c.in-Some-Job.field-0-is at c.in-Some-Job.ensures.rule)).0

pub returns-in-Some-Job-clause-claim : goal.returns-in-Some-Job-clause-claim
returns-in-Some-Job-clause-claim g c = ((took_job c.args.self.now _ c.args.worker.now c.pop_as.new.pass _ _ c.requires.pass c.requires.free c.pop_as.ensures.queue (rw c.in-Some-Job.field-0-is at c.in-Some-Job.ensures.rule)).1, refl, refl, no_stop_more (view c.args.worker.now.jobs) (view c.pop_as.new.pass) c.in-Some-Job.index c.in-Some-Job.job (rw c.in-Some-Job.field-0-is at c.in-Some-Job.ensures.rule).0)

pub returns-in-Some-Stop-clause-pass : goal.returns-in-Some-Stop-clause-pass
returns-in-Some-Stop-clause-pass g c = (took_stop c.args.self.now _ c.args.worker.now c.pop_as.new.pass c.requires.pass c.pop_as.ensures.queue (rw c.in-Some-Stop.field-0-is at c.in-Some-Stop.ensures.rule)).0

pub returns-in-Some-Stop-clause-claim : goal.returns-in-Some-Stop-clause-claim
returns-in-Some-Stop-clause-claim g c = ((took_stop c.args.self.now _ c.args.worker.now c.pop_as.new.pass c.requires.pass c.pop_as.ensures.queue (rw c.in-Some-Stop.field-0-is at c.in-Some-Stop.ensures.rule)).1, refl, c.requires.free, one_stop_more (view c.args.worker.now.jobs) (view c.pop_as.new.pass) (rw c.in-Some-Stop.field-0-is at c.in-Some-Stop.ensures.rule).0)
