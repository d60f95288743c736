-- What is known of the passes of a board.
use Rattle.std.specs.Prelude.{◌≡◌, ◌≢◌, ℕ, zero, suc, ◌+◌, ◌*◌, ◌≤◌, false, List, [], ◌∷◌, ◌++◌, map, length, Option, Some, None, vec_capacity}
use Rattle.crossbeam_queue.specs.Passes.{view, IsPassOf}
use Rattle.job_board.specs.declared.view.View.{View}
use Rattle.job_board.specs.declared.item.JobItem.{JobItem}
use Rattle.job_board.specs.declared.item.ResultItem.{ResultItem}
use Rattle.job_board.specs.declared.item.ResultItem.TheVariants.{Count}
use Rattle.job_board.specs.declared.board.Board.{Board}
use Rattle.job_board.specs.declared.pass.Publisher.{Publisher}
use Rattle.job_board.specs.declared.pass.Worker.{Worker}
use Rattle.job_board.specs.declared.pass.Collector.{Collector}
use Rattle.job_board.specs.declared.pass.Receipt.{Receipt}
use Rattle.job_board.specs.declared.outcomes.Left.{Left}
use Rattle.job_board.specs.Queue.{total_cost}
use Rattle.job_board.specs.Items.{job_cost, jobs_of, results_of, counts_of, stops_of}

-- pass 0 of a queue, which has made this many passes, itself included, and has taken these back
pub record IsFirst {X : Type 0} (v : View X) (passes : ℕ) (back : List (List X × List X)) : Type 0 where
  pub number : v.number ≡ 0
  pub alive : v.spent ≡ false
  pub made : v.made ≡ passes
  pub returned : v.returned ≡ back
  pub taken : v.taken ≡ []

abbrev pub indexes : {A : Type 0} → List (ℕ × A) → List ℕ
indexes xs = map (λ x. x.0) xs

abbrev pub held_of : Option ℕ → List ℕ
held_of None = []
held_of (Some index) = index ∷ []

-- 1, 2 and so on
abbrev pub numbers : ℕ → List ℕ
numbers zero = []
numbers (suc n) = numbers n ++ suc n ∷ []

module _ {J R : Type 0} where
  -- how many items the queues hold at most
  abbrev pub job_capacity : Board J R → ℕ
  job_capacity b = b.limit + b.workers

  abbrev pub result_capacity : Board J R → ℕ
  result_capacity b = b.limit * b.workers + 1

  -- the jobs that were published, each with its index
  abbrev pub published : Publisher J R → List (ℕ × J)
  published p = jobs_of (view p.jobs).put

  abbrev pub was_published : Receipt J R → List (ℕ × J)
  was_published r = jobs_of (view r.jobs).put

  -- the jobs that a worker claimed, and the results that it deposited, each with its index
  abbrev pub claimed : Worker J R → List (ℕ × J)
  claimed w = jobs_of (view w.jobs).taken

  abbrev pub deposited : Worker J R → List (ℕ × R)
  deposited w = results_of (view w.results).put

  -- how many stops a worker claimed
  abbrev pub stops : Worker J R → ℕ
  stops w = stops_of (view w.jobs).taken

  -- which worker it is, from 1
  abbrev pub number : Worker J R → ℕ
  number w = (view w.jobs).number

  -- there is memory for all that may be left
  pub record IsReserved (b : Board J R) (left : Left J R) : Type 0 where
    pub jobs : left.jobs.items ≡ []
    pub results : left.results.items ≡ []
    pub all_jobs : job_capacity b ≤ vec_capacity left.jobs
    pub all_results : result_capacity b ≤ vec_capacity left.results

  pub record IsPublisherOf (b : Board J R) (p : Publisher J R) : Type 0 where
    pub jobs : IsPassOf b.jobs p.jobs
    pub results : IsPassOf b.results p.results
    pub first_jobs : IsFirst (view p.jobs) (b.workers + 1) []
    pub first_results : IsFirst (view p.results) (b.workers + 2) []
    pub jobs_fit : (view p.jobs).capacity ≡ job_capacity b
    pub results_fit : (view p.results).capacity ≡ result_capacity b
    pub items_left : (view p.jobs).items_left + p.count ≡ job_capacity b
    pub cost_left : (view p.jobs).cost_left + p.count ≡ b.limit
    pub count : length (published p) ≡ p.count
    pub few : p.count ≤ b.limit
    pub numbered : indexes (published p) ≡ numbers p.count
    pub no_stops : stops_of (view p.jobs).put ≡ 0
    pub nothing : (view p.results).put ≡ []
    pub one : 1 ≤ (view p.results).items_left
    pub left : IsReserved b p.left

  pub record IsReceiptOf (b : Board J R) (r : Receipt J R) : Type 0 where
    pub jobs : IsPassOf b.jobs r.jobs
    pub results : IsPassOf b.results r.results
    pub first_jobs : IsFirst (view r.jobs) (b.workers + 1) []
    pub first_results : IsFirst (view r.results) (b.workers + 2) []
    pub jobs_fit : (view r.jobs).capacity ≡ job_capacity b
    pub results_fit : (view r.results).capacity ≡ result_capacity b
    pub numbered : indexes (was_published r) ≡ numbers (length (was_published r))
    pub count : (view r.results).put ≡ Count (length (was_published r)) ∷ []
    pub left : IsReserved b r.left

  -- worker k of the board, from 1. It holds the job whose result it hasn't deposited, if there is one
  pub record IsWorkerOf (b : Board J R) (k : ℕ) (w : Worker J R) : Type 0 where
    pub jobs : IsPassOf b.jobs w.jobs
    pub results : IsPassOf b.results w.results
    pub some : k ≢ 0
    pub job_number : (view w.jobs).number ≡ k
    pub result_number : (view w.results).number ≡ k
    pub job_alive : (view w.jobs).spent ≡ false
    pub result_alive : (view w.results).spent ≡ false
    pub job_limit : (view w.jobs).limit ≡ b.limit
    pub results_fit : (view w.results).capacity ≡ result_capacity b
    pub job_put : (view w.jobs).put ≡ []
    pub result_taken : (view w.results).taken ≡ []
    pub items_left : (view w.results).items_left + length (view w.results).put ≡ b.limit
    pub no_counts : counts_of (view w.results).put ≡ []
    pub few : total_cost job_cost (view w.jobs).taken ≤ b.limit
    pub held : indexes (claimed w) ≡ indexes (deposited w) ++ held_of w.held

  -- these are the workers from k on
  abbrev pub AreWorkersOf : Board J R → ℕ → List (Worker J R) → Type 0
  AreWorkersOf b k [] = Unit {0}
  AreWorkersOf b k (w ∷ ws) = IsWorkerOf b k w × AreWorkersOf b (suc k) ws

  -- a worker that has done nothing
  pub record IsIdle (w : Worker J R) : Type 0 where
    pub claimed : claimed w ≡ []
    pub deposited : deposited w ≡ []
    pub held : w.held ≡ None

  abbrev pub AreIdle : List (Worker J R) → Type 0
  AreIdle [] = Unit {0}
  AreIdle (w ∷ ws) = IsIdle w × AreIdle ws

  -- what each worker put into a queue and took from it
  abbrev pub job_parts : List (Worker J R) → List (List (JobItem J) × List (JobItem J))
  job_parts ws = map (λ (w : Worker J R). ([], (view w.jobs).taken)) ws

  abbrev pub result_parts : List (Worker J R) → List (List (ResultItem R) × List (ResultItem R))
  result_parts ws = map (λ (w : Worker J R). ((view w.results).put, [])) ws

module _ {R : Type 0} where
  -- the results and the counts that a collector collected
  abbrev pub collected : Collector R → List (ℕ × R)
  collected c = results_of (view c.results).taken

  abbrev pub counts : Collector R → List ℕ
  counts c = counts_of (view c.results).taken

module _ {J R : Type 0} where
  pub record IsCollectorOf (b : Board J R) (c : Collector R) : Type 0 where
    pub results : IsPassOf b.results c.results
    pub number : (view c.results).number ≡ b.workers + 1
    pub alive : (view c.results).spent ≡ false
    pub put : (view c.results).put ≡ []
