-- What is deposited for jobs. This project's own.
use Rattle.std.specs.Prelude.{◌≡◌, ℕ, suc, ◌⊎◌, ⊤, List, [], ◌∷◌, slice_get, Some}
use Rattle.epoch_pool.specs.declared.job.Job.{Job}
use Rattle.epoch_runner.specs.declared.epoch_run.Ran as runner
use Rattle.epoch_stream.specs.declared.deposit.Deposit.{Deposit}
use Rattle.epoch_stream.specs.declared.deposit.Deposit.TheVariants.{Ran, Skipped, OutOfMemory}
use Rattle.epoch_stream.specs.Results.{IsResultOf}
use Rattle.supply.specs.Supplied.{Supplied}

-- a deposit for this job
abbrev pub IsFor : Supplied → Job → Deposit → Type 0
IsFor supply job (Ran ran) = IsResultOf supply job ran
IsFor supply job (Skipped other) = other ≡ job
IsFor supply job OutOfMemory = ⊤

abbrev pub IsSkipped : Deposit → Type 0
IsSkipped (Ran ran) = ⊥
IsSkipped (Skipped job) = ⊤
IsSkipped OutOfMemory = ⊥

-- the deposits for these jobs, one for each, with the same indexes
abbrev pub AreFor : Supplied → List (ℕ × Job) → List (ℕ × Deposit) → Type 0
AreFor supply [] [] = ⊤
AreFor supply [] (d ∷ ds) = ⊥
AreFor supply (j ∷ js) [] = ⊥
AreFor supply (j ∷ js) (d ∷ ds) = (d.0 ≡ j.0) × IsFor supply j.1 d.1 × AreFor supply js ds

-- a result of a deposit: if its job wasn't run, one of the job
abbrev pub IsResultIn : Supplied → Deposit → runner.Ran → Type 0
IsResultIn supply (Ran ran) result = result ≡ ran
IsResultIn supply (Skipped job) result = IsResultOf supply job result
IsResultIn supply OutOfMemory result = ⊥

-- it is one of these
abbrev pub In : {A : Type 0} → A → List A → Type 0
In x [] = ⊥
In x (y ∷ ys) = (x ≡ y) ⊎ In x ys

-- The results in order: a deposit with the index k + 1 is that of the one at place k.
abbrev pub AreOf : Supplied → List (ℕ × Deposit) → List runner.Ran → Type 0
AreOf supply deposits results = (k : ℕ) (ran : runner.Ran) → slice_get results k ≡ Some ran → (d : Deposit) × In (suc k, d) deposits × IsResultIn supply d ran
