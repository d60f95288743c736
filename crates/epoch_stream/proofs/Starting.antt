-- Workers that are started and joined, in order.
use Rattle.std.proofs.Common.{◌≡◌, ℕ, suc, ◌+◌, ◌<◌, ◌==◌, false, List, [], ◌∷◌, ◌++◌, length, sym, refl, subst, arith}
use Rattle.std.specs.Prelude.{slice_index_or, remove}
use Rattle.job_board.specs.declared.board.Board.{Board}
use Rattle.job_board.specs.declared.pass.Worker.{Worker}
use Rattle.job_board.specs.Passes.{AreIdle, AreWorkersOf, IsIdle, IsWorkerOf}
use Rattle.stop_word.specs.declared.stop_word.StopWord.{StopWord}
use Rattle.supply.specs.Supplied.{Supplied}
use Rattle.epoch_pool.specs.declared.job.Job.{Job}
use Rattle.epoch_stream.specs.declared.deposit.Deposit.{Deposit}
use Rattle.epoch_stream.specs.declared.worker_part.Pass.{Pass}
use Rattle.epoch_stream.specs.declared.promises.Started.{Started}
use Rattle.epoch_stream.specs.Rounds.{AreDone, ArePasses, AreStarted, IsPass, IsReturned, IsStarted}

pub some_left : (n m : ℕ) → n ≡ m → false ≡ (n == 0) → 0 < m
some_left n m e h = grind arith

pub shorter : {A : Type 0} (xs : List A) → 0 < length xs → length xs ≡ suc (length (remove xs 0))
shorter [] some = absurd (omega (arith, some))
shorter (x ∷ xs) some = refl

pub first_pass : (b : Board Job Deposit) (s : StopWord) (k : ℕ) (ps : List Pass) (p : Pass) → ArePasses b s k ps → 0 < length ps → p ≡ slice_index_or ps 0 p → IsPass b s k p × ArePasses b s (suc k) (remove ps 0)
first_pass b s k [] p all some is = absurd (omega (arith, some))
first_pass b s k (x ∷ xs) p all some is = (subst (λ (y : Pass). IsPass b s k y) (sym is) all.0, all.1)

pub first_started : (b : Board Job Deposit) (supply : Supplied) (k : ℕ) (xs : List Started) (x : Started) → AreStarted b supply k xs → 0 < length xs → x ≡ slice_index_or xs 0 x → IsStarted b supply k x × AreStarted b supply (suc k) (remove xs 0)
first_started b supply k [] x all some is = absurd (omega (arith, some))
first_started b supply k (y ∷ ys) x all some is = (subst (λ (z : Started). IsStarted b supply k z) (sym is) all.0, all.1)

pub one_started : (b : Board Job Deposit) (supply : Supplied) (k : ℕ) (xs : List Started) (x : Started) (n : ℕ) → AreStarted b supply k xs → k + length xs ≡ n → IsStarted b supply n x → AreStarted b supply k (xs ++ x ∷ [])
one_started b supply k [] x n all e is = (subst (λ m. IsStarted b supply m x) (omega (arith, e)) is, tt)
one_started b supply k (y ∷ ys) x n all e is = (all.0, one_started b supply (suc k) ys x n all.1 (omega (arith, e)) is)

pub one_done : (b : Board Job Deposit) (supply : Supplied) (k : ℕ) (ws : List (Worker Job Deposit)) (w : Worker Job Deposit) (n : ℕ) → AreDone b supply k ws → k + length ws ≡ n → IsReturned b supply n w → AreDone b supply k (ws ++ w ∷ [])
one_done b supply k [] w n all e is = (subst (λ m. IsReturned b supply m w) (omega (arith, e)) is, tt)
one_done b supply k (y ∷ ys) w n all e is = (all.0, one_done b supply (suc k) ys w n all.1 (omega (arith, e)) is)

pub first_worker : (b : Board Job Deposit) (k : ℕ) (ws : List (Worker Job Deposit)) (w : Worker Job Deposit) → AreWorkersOf b k ws → AreIdle ws → 0 < length ws → w ≡ slice_index_or ws 0 w
    → IsWorkerOf b k w × IsIdle w × AreWorkersOf b (suc k) (remove ws 0) × AreIdle (remove ws 0)
first_worker b k [] w all idle some is = absurd (omega (arith, some))
first_worker b k (x ∷ xs) w all idle some is = (subst (λ (y : Worker Job Deposit). IsWorkerOf b k y) (sym is) all.0, subst (λ (y : Worker Job Deposit). IsIdle y) (sym is) idle.0, all.1, idle.1)

pub one_pass : (b : Board Job Deposit) (s : StopWord) (k : ℕ) (ps : List Pass) (p : Pass) (n : ℕ) → ArePasses b s k ps → k + length ps ≡ n → IsPass b s n p → ArePasses b s k (ps ++ p ∷ [])
one_pass b s k [] p n all e is = (subst (λ m. IsPass b s m p) (omega (arith, e)) is, tt)
one_pass b s k (y ∷ ys) p n all e is = (all.0, one_pass b s (suc k) ys p n all.1 (omega (arith, e)) is)
