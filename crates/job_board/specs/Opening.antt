-- The views of a board's first passes while workers are added.
use Rattle.std.specs.Prelude.{ℕ, zero, suc, ◌+◌, ◌*◌, ◌-◌, false, []}
use Rattle.job_board.specs.declared.view.View.{View}
use Rattle.job_board.specs.declared.item.JobItem.{JobItem}
use Rattle.job_board.specs.declared.item.ResultItem.{ResultItem}
use Rattle.job_board.specs.declared.board.Board.{Board}
use Rattle.job_board.specs.Queue.{new_view, root}
use Rattle.job_board.specs.Passes.{job_capacity, result_capacity}

module _ {J R : Type 0} (b : Board J R) where
  abbrev pub job_view : ℕ → View (JobItem J)
  job_view zero = root
  job_view (suc n) = new_view 0 (suc n + 1) false (job_capacity b) b.limit (job_capacity b) b.limit [] [] []

  abbrev pub result_view : ℕ → View (ResultItem R)
  result_view zero = root
  result_view (suc n) = new_view 0 (suc n + 1) false (result_capacity b) 0 (result_capacity b - b.limit * suc n) 0 [] [] []
