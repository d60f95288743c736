-- The results of a job. This project's own.
use Rattle.epoch_pool.specs.declared.job.Job.{Job}
use Rattle.epoch_runner.specs.declared.epoch_run.Ran.{Ran}
use Rattle.epoch_runner.specs.Running.{HasRun}
use Rattle.supply.specs.Supplied.{Supplied}

-- a result of this job's epoch with this supply
abbrev pub IsResultOf : Supplied → Job → Ran → Type 0
IsResultOf supply job ran = HasRun job.start job.hints supply job.bounds ran
