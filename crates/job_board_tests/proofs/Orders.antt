-- Workers that are started and joined, in order.
use Rattle.std.proofs.Common.{◌≡◌, ℕ, suc, ◌+◌, ◌<◌, ◌==◌, false, List, [], ◌∷◌, ◌++◌, length, sym, refl, subst, arith}
use Rattle.std.specs.Prelude.{slice_index_or, remove}
use Rattle.job_board.specs.declared.board.Board.{Board}
use Rattle.job_board.specs.declared.pass.Worker.{Worker}
use Rattle.job_board.specs.Passes.{IsWorkerOf, IsIdle, AreWorkersOf, AreIdle}
use Rattle.stop_word.specs.declared.stop_word.StopWord.{StopWord}
use Rattle.stop_word.specs.Seats.{IsWatcherOf}
use Rattle.job_board_tests.specs.declared.working.Crossing.{Crossing}
use Rattle.job_board_tests.specs.declared.joining.Started.{Started}
use Rattle.job_board_tests.specs.Crews.{ArePasses, AreStarted, IsStarted}

pub some_left : (n m : ℕ) → n ≡ m → false ≡ (n == 0) → 0 < m
some_left n m e h = grind arith

pub shorter : {A : Type 0} (xs : List A) → 0 < length xs → length xs ≡ suc (length (remove xs 0))
shorter [] some = absurd (omega (arith, some))
shorter (x ∷ xs) some = refl

module _ {J V : Type 0} where
  pub first_worker : (b : Board J V) (k : ℕ) (ws : List (Worker J V)) (w : Worker J V) → AreWorkersOf b k ws → AreIdle ws → 0 < length ws → w ≡ slice_index_or ws 0 w
      → IsWorkerOf b k w × IsIdle w × AreWorkersOf b (suc k) (remove ws 0) × AreIdle (remove ws 0)
  first_worker b k [] w all idle some is = absurd (omega (arith, some))
  first_worker b k (x ∷ xs) w all idle some is = (subst (λ y. IsWorkerOf b k y) (sym is) all.0, subst (λ y. IsIdle y) (sym is) idle.0, all.1, idle.1)

  pub first_pass : (b : Board J V) (s : StopWord) (k : ℕ) (ps : List (Crossing (Worker J V))) (p : Crossing (Worker J V)) → ArePasses b s k ps → 0 < length ps → p ≡ slice_index_or ps 0 p
      → IsWorkerOf b k p.worker × IsIdle p.worker × IsWatcherOf s p.watcher × ArePasses b s (suc k) (remove ps 0)
  first_pass b s k [] p all some is = absurd (omega (arith, some))
  first_pass b s k (x ∷ xs) p all some is = (subst (λ (y : Crossing (Worker J V)). IsWorkerOf b k y.worker) (sym is) all.0, subst (λ (y : Crossing (Worker J V)). IsIdle y.worker) (sym is) all.1, subst (λ (y : Crossing (Worker J V)). IsWatcherOf s y.watcher) (sym is) all.2, all.3)

  pub first_started : (b : Board J V) (s : StopWord) (k : ℕ) (xs : List (Started J V)) (x : Started J V) → AreStarted b s k xs → 0 < length xs → x ≡ slice_index_or xs 0 x → IsStarted b s k x × AreStarted b s (suc k) (remove xs 0)
  first_started b s k [] x all some is = absurd (omega (arith, some))
  first_started b s k (y ∷ ys) x all some is = (subst (λ (z : Started J V). IsStarted b s k z) (sym is) all.0, all.1)

  pub one_pass : (b : Board J V) (s : StopWord) (k : ℕ) (ps : List (Crossing (Worker J V))) (p : Crossing (Worker J V)) (n : ℕ) → ArePasses b s k ps → k + length ps ≡ n → IsWorkerOf b n p.worker → IsIdle p.worker → IsWatcherOf s p.watcher → ArePasses b s k (ps ++ p ∷ [])
  one_pass b s k [] p n all e is idle w = (subst (λ m. IsWorkerOf b m p.worker) (omega (arith, e)) is, idle, w, tt)
  one_pass b s k (y ∷ ys) p n all e is idle w = (all.0, all.1, all.2, one_pass b s (suc k) ys p n all.3 (omega (arith, e)) is idle w)

  pub one_started : (b : Board J V) (s : StopWord) (k : ℕ) (xs : List (Started J V)) (x : Started J V) (n : ℕ) → AreStarted b s k xs → k + length xs ≡ n → IsStarted b s n x → AreStarted b s k (xs ++ x ∷ [])
  one_started b s k [] x n all e is = (subst (λ m. IsStarted b s m x) (omega (arith, e)) is, tt)
  one_started b s k (y ∷ ys) x n all e is = (all.0, one_started b s (suc k) ys x n all.1 (omega (arith, e)) is)

  pub one_worker : (b : Board J V) (k : ℕ) (ws : List (Worker J V)) (w : Worker J V) (n : ℕ) → AreWorkersOf b k ws → k + length ws ≡ n → IsWorkerOf b n w → AreWorkersOf b k (ws ++ w ∷ [])
  one_worker b k [] w n all e is = (subst (λ m. IsWorkerOf b m w) (omega (arith, e)) is, tt)
  one_worker b k (y ∷ ys) w n all e is = (all.0, one_worker b (suc k) ys w n all.1 (omega (arith, e)) is)
