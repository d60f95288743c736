-- What the results of the jobs of a round are. This machine's own.
use Rattle.std.specs.Prelude.{List, [], ◌∷◌}
use Rattle.epoch_runner.specs.Running.{HasRun}
use Rattle.epoch_runner.specs.declared.epoch_run.Ran.{Ran}
use Rattle.epoch_pool.specs.declared.job.Job.{Job}
use Rattle.supply.specs.Supplied.{Supplied}

-- one result for each job, in order, and each is that of a run of the job's epoch
abbrev pub HaveRun : List Job → Supplied → List Ran → Type 0
HaveRun [] w [] = Unit {0}
HaveRun (j ∷ js) w (r ∷ rs) = HasRun j.start j.hints w j.bounds r × HaveRun js w rs
HaveRun [] w (r ∷ rs) = ⊥
HaveRun (j ∷ js) w [] = ⊥
