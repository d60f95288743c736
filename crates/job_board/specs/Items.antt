-- The items of the two queues: which are jobs, results and counts, and what a job and a stop cost.
use Rattle.std.specs.Prelude.{ℕ, suc, List, [], ◌∷◌}
use Rattle.job_board.specs.declared.item.JobItem.{JobItem}
use Rattle.job_board.specs.declared.item.JobItem.TheVariants.{Job, Stop}
use Rattle.job_board.specs.declared.item.ResultItem.{ResultItem}
use Rattle.job_board.specs.declared.item.ResultItem.TheVariants.{Result, Count}

module _ {J : Type 0} where
  abbrev pub job_cost : JobItem J → ℕ
  job_cost (Job index job) = 1
  job_cost Stop = 0

  -- the jobs, each with its index
  abbrev pub jobs_of : List (JobItem J) → List (ℕ × J)
  jobs_of [] = []
  jobs_of (Job index job ∷ xs) = (index, job) ∷ jobs_of xs
  jobs_of (Stop ∷ xs) = jobs_of xs

  abbrev pub stops_of : List (JobItem J) → ℕ
  stops_of [] = 0
  stops_of (Job index job ∷ xs) = stops_of xs
  stops_of (Stop ∷ xs) = suc (stops_of xs)

abbrev pub no_cost : {X : Type 0} → X → ℕ
no_cost x = 0

module _ {R : Type 0} where
  -- the results, each with its index
  abbrev pub results_of : List (ResultItem R) → List (ℕ × R)
  results_of [] = []
  results_of (Result index result ∷ xs) = (index, result) ∷ results_of xs
  results_of (Count n ∷ xs) = results_of xs

  abbrev pub counts_of : List (ResultItem R) → List ℕ
  counts_of [] = []
  counts_of (Result index result ∷ xs) = counts_of xs
  counts_of (Count n ∷ xs) = n ∷ counts_of xs
