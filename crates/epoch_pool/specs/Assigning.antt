-- Jobs assigned to workers in turn. These serve the contracts of this crate's own steps. This machine's own.
use Rattle.std.specs.Prelude.{ℕ, zero, suc, List, [], ◌∷◌, ◌++◌}
use Rattle.epoch_runner.specs.declared.epoch_run.Ran.{Ran}
use Rattle.epoch_pool.specs.declared.job.Job.{Job}
use Rattle.epoch_pool.specs.Pool.{HaveRun}
use Rattle.supply.specs.Supplied.{Supplied}

-- this many queues without a job
abbrev pub no_jobs : ℕ → List (List Job)
no_jobs zero = []
no_jobs (suc n) = no_jobs n ++ [] ∷ []

-- the first queue gets a job, and goes to the end
abbrev pub with_next : Job → List (List Job) → List (List Job)
with_next j [] = []
with_next j (h ∷ hs) = hs ++ (h ++ j ∷ []) ∷ []

abbrev pub assigned : List Job → List (List Job) → List (List Job)
assigned [] queues = queues
assigned (j ∷ js) queues = assigned js (with_next j queues)

-- the results of each queue
abbrev pub AllHaveRun : List (List Job) → Supplied → List (List Ran) → Type 0
AllHaveRun [] w [] = Unit {0}
AllHaveRun (h ∷ hs) w (r ∷ rs) = HaveRun h w r × AllHaveRun hs w rs
AllHaveRun [] w (r ∷ rs) = ⊥
AllHaveRun (h ∷ hs) w [] = ⊥
