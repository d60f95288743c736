use Rattle.epoch_replay.proofs.journal_stretch.run_job.Goals as goal

pub returns-clause-of_job : goal.returns-clause-of_job
returns-clause-of_job g c = (c.in_ok-run_parts.ensures.same.0, c.in_ok-run_parts.ensures.same.1, λ meets. c.begins_at_end-meets.ensures meets)
