-- Workers with their watchers, and those that were started.
use Rattle.std.specs.Prelude.{◌≡◌, ℕ, suc, List, [], ◌∷◌}
use Rattle.job_board.specs.declared.board.Board.{Board}
use Rattle.job_board.specs.declared.pass.Worker.{Worker}
use Rattle.job_board.specs.Passes.{IsWorkerOf, IsIdle, IsReceiptOf}
use Rattle.stop_word.specs.declared.stop_word.StopWord.{StopWord}
use Rattle.stop_word.specs.Seats.{IsWatcherOf}
use Rattle.job_board_tests.specs.declared.working.Crossing.{Crossing}
use Rattle.job_board_tests.specs.declared.joining.Started.{Started}
use Rattle.job_board_tests.specs.declared.joining.Started.TheVariants as started
use Rattle.job_board_tests.specs.declared.publishing.Publishing.{Publishing}
use Rattle.job_board_tests.specs.declared.publishing.Publishing.TheVariants as publishing

module _ {J V : Type 0} where
  abbrev pub ArePasses : Board J V → StopWord → ℕ → List (Crossing (Worker J V)) → Type 0
  ArePasses b s k [] = Unit {0}
  ArePasses b s k (p ∷ ps) = IsWorkerOf b k p.worker × IsIdle p.worker × IsWatcherOf s p.watcher × ArePasses b s (suc k) ps

  abbrev pub IsStarted : Board J V → StopWord → ℕ → Started J V → Type 0
  IsStarted b s k (started.There h) = (h.promise.board.value ≡ b) × (h.promise.stop.value ≡ s) × (h.promise.number ≡ k)
  IsStarted b s k (started.Here r) = IsWorkerOf b k r.worker × IsWatcherOf s r.watcher

  abbrev pub AreStarted : Board J V → StopWord → ℕ → List (Started J V) → Type 0
  AreStarted b s k [] = Unit {0}
  AreStarted b s k (x ∷ xs) = IsStarted b s k x × AreStarted b s (suc k) xs

  abbrev pub IsPublishing : Board J V → Publishing J V → Type 0
  IsPublishing b (publishing.There h) = h.promise.board.value ≡ b
  IsPublishing b (publishing.Here r) = IsReceiptOf b r
