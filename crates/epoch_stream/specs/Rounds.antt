-- What the workers of a round are given and leave. This project's own.
use Rattle.std.specs.Prelude.{◌≡◌, ℕ, suc, ⊤, List, [], ◌∷◌}
use Rattle.job_board.specs.declared.board.Board.{Board}
use Rattle.job_board.specs.declared.pass.Worker.{Worker}
use Rattle.job_board.specs.Passes.{IsIdle, IsWorkerOf, claimed, deposited}
use Rattle.stop_word.specs.declared.stop_word.StopWord.{StopWord}
use Rattle.stop_word.specs.Seats.{IsWatcherOf}
use Rattle.supply.specs.Supplied.{Supplied}
use Rattle.epoch_pool.specs.declared.job.Job.{Job}
use Rattle.epoch_stream.specs.declared.deposit.Deposit.{Deposit}
use Rattle.epoch_stream.specs.declared.worker_part.Pass.{Pass}
use Rattle.epoch_stream.specs.declared.promises.Started.{Started}
use Rattle.epoch_stream.specs.declared.promises.Started.TheVariants.{There, Here}
use Rattle.epoch_stream.specs.Deposits.{AreFor}

-- what worker k starts with
abbrev pub IsPass : Board Job Deposit → StopWord → ℕ → Pass → Type 0
IsPass b s k p = IsWorkerOf b k p.worker × IsIdle p.worker × IsWatcherOf s p.watcher

-- what the workers from k on start with
abbrev pub ArePasses : Board Job Deposit → StopWord → ℕ → List Pass → Type 0
ArePasses b s k [] = ⊤
ArePasses b s k (p ∷ ps) = IsPass b s k p × ArePasses b s (suc k) ps

-- worker k, which has deposited for each job that it claimed
abbrev pub IsReturned : Board Job Deposit → Supplied → ℕ → Worker Job Deposit → Type 0
IsReturned b supply k w = IsWorkerOf b k w × AreFor supply (claimed w) (deposited w)

-- the workers from k on
abbrev pub AreDone : Board Job Deposit → Supplied → ℕ → List (Worker Job Deposit) → Type 0
AreDone b supply k [] = ⊤
AreDone b supply k (w ∷ ws) = IsReturned b supply k w × AreDone b supply (suc k) ws

-- a worker that was started, or has run
abbrev pub IsStarted : Board Job Deposit → Supplied → ℕ → Started → Type 0
IsStarted b supply k (There h) = (h.promise.board.value ≡ b) × (h.promise.supply.value ≡ supply) × (h.promise.number ≡ k)
IsStarted b supply k (Here p) = IsReturned b supply k p.worker

abbrev pub AreStarted : Board Job Deposit → Supplied → ℕ → List Started → Type 0
AreStarted b supply k [] = ⊤
AreStarted b supply k (x ∷ xs) = IsStarted b supply k x × AreStarted b supply (suc k) xs
