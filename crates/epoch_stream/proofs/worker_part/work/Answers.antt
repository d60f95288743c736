use Rattle.std.proofs.Common.{ℕ, ap, subst, ◌∙◌, ◌++◌, ◌∷◌, []}
use Rattle.job_board.specs.Passes.{IsWorkerOf}
use Rattle.epoch_stream.proofs.Handing.{for_more}
use Rattle.epoch_stream.proofs.worker_part.work.Goals as goal

pub jobs-preserved-in-Job : goal.jobs-preserved-in-Job
jobs-preserved-in-Job g c = let i = c.jobs.invariant in let claim = c.in-Job.ensures.claim in let d = c.deposit.ensures in record {
  worker = subst (λ (k : ℕ). IsWorkerOf c.args.board.now k c.deposit.new.worker) (c.in-Job.ensures.pass.job_number ∙ i.worker.job_number) d.pass;
  watcher = c.deposit_for-deposit.ensures.watcher;
  free = d.held;
  are_for = for_more c.args.supply.now _ _ _ _ c.in-Job.index c.in-Job.job c.deposit_for-deposit.result i.are_for
      (d.claimed ∙ claim.0)
      (d.deposited c.in-Job.index claim.2 ∙ ap (λ l. l ++ (c.in-Job.index, c.deposit_for-deposit.result) ∷ []) claim.1)
      c.deposit_for-deposit.ensures.deposit;
}
