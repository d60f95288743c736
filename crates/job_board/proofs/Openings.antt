-- A board as it is made.
use Rattle.std.proofs.Common.{Bool, true, ne_eqb, ◌==◌, ◌≡◌, ◌≢◌, false, ℕ, zero, suc, ◌+◌, ◌-◌, ◌*◌, ◌≤◌, ◌<◌, None, List, [], ◌∷◌, ◌++◌, length, sym, refl, ap, ◌∙◌, arith, subst}
use Rattle.crossbeam_queue.specs.Fifo.{Forks}
use Rattle.crossbeam_queue.specs.Passes.{view, IsPassOf}
use Rattle.job_board.specs.declared.view.View.{View}
use Rattle.job_board.specs.declared.item.JobItem.{JobItem}
use Rattle.job_board.specs.declared.item.ResultItem.{ResultItem}
use Rattle.job_board.specs.declared.board.Board.{Board}
use Rattle.job_board.specs.declared.pass.Worker.{Worker}
use Rattle.job_board.specs.declared.pass.Publisher.{Publisher}
use Rattle.std.proofs.Math.Nat.{mul-suc, mul-le-mul_left}
use Rattle.std.specs.Prelude.{if◌then◌else◌}
use Rattle.job_board.specs.Queue.{InOrder, total_cost, new_view, after_split, split_off}
use Rattle.job_board.proofs.Steps.{forks, forks_root}
use Rattle.job_board.specs.Opening.{job_view, result_view}
use Rattle.job_board.specs.Items.{job_cost, no_cost, jobs_of, results_of, counts_of, stops_of}
use Rattle.job_board.specs.Passes.{IsReserved, IsPublisherOf, IsWorkerOf, IsIdle, AreWorkersOf, AreIdle, indexes, held_of, numbers, published, job_capacity, result_capacity}

next : (n : ℕ) → suc n ≡ n + 1
next n = omega arith

next_of : (n : ℕ) → n + 1 + 1 ≡ suc n + 1
next_of n = omega arith

minus_zero : (n : ℕ) → n - 0 ≡ n
minus_zero n = omega arith

minus_one : (n m : ℕ) → n - m ≡ n - m * 1
minus_one n m = omega arith

minus_more : (capacity limit n : ℕ) → capacity - limit * n - limit ≡ capacity - limit * suc n
minus_more capacity limit n = let m = mul-suc limit n in omega (arith, m)

same_if : {A : Type 0} (t : Bool) (x : A) → (if t then x else x) ≡ x
same_if true x = refl
same_if false x = refl

-- of a pass that was split before
later : (n : ℕ) → ((suc n + 1) == 1) ≡ false
later n = ne_eqb (suc n + 1) 1 (λ e. omega (arith, e))

-- of the products, which arithmetic doesn't see
left_after : (limit workers made : ℕ) → made < workers → limit ≤ limit * workers + 1 - limit * made
left_after limit workers made lt = let h : limit * suc made ≤ limit * workers = mul-le-mul_left limit lt in let e : limit * suc made ≡ limit * made + limit = mul-suc limit made in omega (arith, h, e)

module _ {J R : Type 0} where
  pub fresh : (b : Board J R) (k : ℕ) (w : Worker J R) → IsPassOf b.jobs w.jobs → IsPassOf b.results w.results → k ≢ 0
      → view w.jobs ≡ new_view k 0 false (job_capacity b) b.limit 0 0 [] [] [] → view w.results ≡ new_view k 0 false (result_capacity b) 0 b.limit 0 [] [] [] → w.held ≡ None → IsWorkerOf b k w × IsIdle w
  fresh b k w j r some ej er held = (
    record {
      jobs = j;
      results = r;
      some = some;
      job_number = ap (λ (v : View (JobItem J)). v.number) ej;
      result_number = ap (λ (v : View (ResultItem R)). v.number) er;
      job_alive = ap (λ (v : View (JobItem J)). v.spent) ej;
      result_alive = ap (λ (v : View (ResultItem R)). v.spent) er;
      job_limit = ap (λ (v : View (JobItem J)). v.limit) ej;
      results_fit = ap (λ (v : View (ResultItem R)). v.capacity) er;
      job_put = ap (λ (v : View (JobItem J)). v.put) ej;
      result_taken = ap (λ (v : View (ResultItem R)). v.taken) er;
      items_left = let e = ap (λ (v : View (ResultItem R)). v.items_left + length v.put) er in omega (arith, e);
      no_counts = ap (λ (v : View (ResultItem R)). counts_of v.put) er;
      few = let e = ap (λ (v : View (JobItem J)). total_cost job_cost v.taken) ej in omega (arith, e);
      held = ap (λ (v : View (JobItem J)). indexes (jobs_of v.taken)) ej ∙ sym (ap (λ (v : View (ResultItem R)). indexes (results_of v.put) ++ held_of w.held) er ∙ ap held_of held);
    },
    record { claimed = ap (λ (v : View (JobItem J)). jobs_of v.taken) ej; deposited = ap (λ (v : View (ResultItem R)). results_of v.put) er; held = held },
  )

  pub one_more : (b : Board J R) (k : ℕ) (ws : List (Worker J R)) (w : Worker J R) → AreWorkersOf b k ws → IsWorkerOf b (k + length ws) w → AreWorkersOf b k (ws ++ w ∷ [])
  one_more b k [] w all last = (subst (λ n. IsWorkerOf b n w) (omega arith) last, tt)
  one_more b k (x ∷ xs) w all last = (all.0, one_more b (suc k) xs w all.1 (subst (λ n. IsWorkerOf b n w) (omega arith) last))

  pub one_more_idle : (ws : List (Worker J R)) (w : Worker J R) → AreIdle ws → IsIdle w → AreIdle (ws ++ w ∷ [])
  one_more_idle [] w all last = (last, tt)
  one_more_idle (x ∷ xs) w all last = (all.0, one_more_idle xs w all.1 last)

  job_step : (b : Board J R) (n : ℕ) → after_split (job_capacity b) b.limit 0 (job_view b n) ≡ job_view b (n + 1)
  job_step b zero = ap (λ m. new_view 0 2 false (job_capacity b) b.limit m b.limit [] [] []) (minus_zero (job_capacity b))
  job_step b (suc n) = let capacity = job_capacity b in let split = after_split (job_capacity b) b.limit 0 (job_view b (suc n)) in
      subst (λ m. split ≡ job_view b m) (next (suc n)) (λ i. new_view 0 (next_of (suc n) i) false capacity b.limit ((ap (λ x. x - 0) (same_if ((suc n + 1) == 1) capacity) ∙ minus_zero capacity) i) (same_if ((suc n + 1) == 1) b.limit i) [] [] [])

  result_step : (b : Board J R) (n : ℕ) → after_split (result_capacity b) 0 b.limit (result_view b n) ≡ result_view b (n + 1)
  result_step b zero = ap (λ m. new_view 0 2 false (result_capacity b) 0 m 0 [] [] []) (minus_one (result_capacity b) b.limit)
  result_step b (suc n) = let capacity = result_capacity b in let split = after_split (result_capacity b) 0 b.limit (result_view b (suc n)) in
      subst (λ m. split ≡ result_view b m) (next (suc n)) (λ i. new_view 0 (next_of (suc n) i) false capacity 0 ((ap (λ t. (if t then capacity else capacity - b.limit * suc n) - b.limit) (later n) ∙ minus_more capacity b.limit (suc n)) i) (same_if ((suc n + 1) == 1) 0 i) [] [] [])

  job_forks_at : (b : Board J R) (n port : ℕ) (v : View (JobItem J)) → v ≡ job_view b n → Forks (InOrder job_cost) port v (after_split (job_capacity b) b.limit 0 v) (split_off (job_capacity b) b.limit 0 v)
  job_forks_at b zero port v e = subst (λ v. Forks (InOrder job_cost) port v (after_split (job_capacity b) b.limit 0 v) (split_off (job_capacity b) b.limit 0 v)) (sym e) (forks_root job_cost (job_capacity b) b.limit 0 port (omega arith))
  job_forks_at b (suc n) port v e = forks job_cost (job_capacity b) b.limit 0 port v (ap (λ (v : View (JobItem J)). v.spent) e) (ap (λ (v : View (JobItem J)). v.number) e) (ap (λ (v : View (JobItem J)). v.taken) e) (ap (λ (v : View (JobItem J)). v.capacity) e) (ap (λ (v : View (JobItem J)). v.limit) e) (omega arith)
      (sym (ap (λ (v : View (JobItem J)). v.made == 1) e ∙ later n))

  result_forks_at : (b : Board J R) (n share port : ℕ) (v : View (ResultItem R)) → v ≡ result_view b n → share ≤ result_capacity b - b.limit * n → Forks (InOrder no_cost) port v (after_split (result_capacity b) 0 share v) (split_off (result_capacity b) 0 share v)
  result_forks_at b zero share port v e small = subst (λ v. Forks (InOrder no_cost) port v (after_split (result_capacity b) 0 share v) (split_off (result_capacity b) 0 share v)) (sym e) (forks_root no_cost (result_capacity b) 0 share port (omega (arith, small)))
  result_forks_at b (suc n) share port v e small = forks no_cost (result_capacity b) 0 share port v (ap (λ (v : View (ResultItem R)). v.spent) e) (ap (λ (v : View (ResultItem R)). v.number) e) (ap (λ (v : View (ResultItem R)). v.taken) e) (ap (λ (v : View (ResultItem R)). v.capacity) e) (ap (λ (v : View (ResultItem R)). v.limit) e) (let i = ap (λ (v : View (ResultItem R)). v.items_left) e in omega (arith, i, small))
      (sym (ap (λ (v : View (ResultItem R)). v.made == 1) e ∙ later n))

  module _ (b : Board J R) (jobs workers : ℕ) (limit_is : b.limit ≡ jobs) (workers_is : b.workers ≡ workers) where
    sizes : ◌≡◌ {A = ℕ × ℕ} (b.limit, b.workers) (jobs, workers)
    sizes = λ i. (limit_is i, workers_is i)

    pub job_forks : (n port : ℕ) (v : View (JobItem J)) → v ≡ job_view b n → Forks (InOrder job_cost) port v (after_split (jobs + workers) jobs 0 v) (split_off (jobs + workers) jobs 0 v)
    job_forks n port v e = subst (λ (s : ℕ × ℕ). Forks (InOrder job_cost) port v (after_split (s.0 + s.1) s.0 0 v) (split_off (s.0 + s.1) s.0 0 v)) sizes (job_forks_at b n port v e)

    pub result_forks : (n port : ℕ) (v : View (ResultItem R)) → v ≡ result_view b n → n < b.workers → Forks (InOrder no_cost) port v (after_split (jobs * workers + 1) 0 jobs v) (split_off (jobs * workers + 1) 0 jobs v)
    result_forks n port v e lt = subst (λ (s : ℕ × ℕ). Forks (InOrder no_cost) port v (after_split (s.0 * s.1 + 1) 0 s.0 v) (split_off (s.0 * s.1 + 1) 0 s.0 v)) sizes (result_forks_at b n b.limit port v e (left_after b.limit b.workers n lt))

    pub collector_forks : (port : ℕ) (v : View (ResultItem R)) → v ≡ result_view b b.workers → Forks (InOrder no_cost) port v (after_split (jobs * workers + 1) 0 0 v) (split_off (jobs * workers + 1) 0 0 v)
    collector_forks port v e = subst (λ (s : ℕ × ℕ). Forks (InOrder no_cost) port v (after_split (s.0 * s.1 + 1) 0 0 v) (split_off (s.0 * s.1 + 1) 0 0 v)) sizes (result_forks_at b b.workers 0 port v e (omega arith))

    pub next_job_view : (n : ℕ) (v w : View (JobItem J)) → v ≡ job_view b n → w ≡ after_split (jobs + workers) jobs 0 v → w ≡ job_view b (n + 1)
    next_job_view n v w e f = f ∙ ap (λ (s : ℕ × ℕ). after_split (s.0 + s.1) s.0 0 v) (sym sizes) ∙ ap (after_split (job_capacity b) b.limit 0) e ∙ job_step b n

    pub next_result_view : (n : ℕ) (v w : View (ResultItem R)) → v ≡ result_view b n → w ≡ after_split (jobs * workers + 1) 0 jobs v → w ≡ result_view b (n + 1)
    next_result_view n v w e f = f ∙ ap (λ (s : ℕ × ℕ). after_split (s.0 * s.1 + 1) 0 s.0 v) (sym sizes) ∙ ap (after_split (result_capacity b) 0 b.limit) e ∙ result_step b n

    job_made : (n : ℕ) → (job_view b n).made ≡ n + 1
    job_made zero = refl
    job_made (suc n) = refl

    result_made : (n : ℕ) → (result_view b n).made ≡ n + 1
    result_made zero = refl
    result_made (suc n) = refl

    pub new_job_view : (n : ℕ) (v w : View (JobItem J)) → v ≡ job_view b n → w ≡ split_off (jobs + workers) jobs 0 v → w ≡ new_view (n + 1) 0 false (job_capacity b) b.limit 0 0 [] [] []
    new_job_view n v w e f = f ∙ ap (λ (s : ℕ × ℕ). split_off (s.0 + s.1) s.0 0 v) (sym sizes) ∙ ap (λ m. new_view m 0 false (job_capacity b) b.limit 0 0 [] [] []) (ap (λ (v : View (JobItem J)). v.made) e ∙ job_made n)

    pub new_result_view : (n : ℕ) (v w : View (ResultItem R)) → v ≡ result_view b n → w ≡ split_off (jobs * workers + 1) 0 jobs v → w ≡ new_view (n + 1) 0 false (result_capacity b) 0 b.limit 0 [] [] []
    new_result_view n v w e f = f ∙ ap (λ (s : ℕ × ℕ). split_off (s.0 * s.1 + 1) 0 s.0 v) (sym sizes) ∙ ap (λ m. new_view m 0 false (result_capacity b) 0 b.limit 0 [] [] []) (ap (λ (v : View (ResultItem R)). v.made) e ∙ result_made n)

    -- the publisher's view of the results, when the collector's pass is made too
    last_view : (n : ℕ) → 0 < n → (v w : View (ResultItem R)) → v ≡ result_view b n → w ≡ after_split (jobs * workers + 1) 0 0 v → w ≡ new_view 0 (n + 1 + 1) false (result_capacity b) 0 (result_capacity b - b.limit * n) 0 [] [] []
    last_view zero some v w e f = absurd (omega (arith, some))
    last_view (suc n) some v w e f = f ∙ ap (λ (s : ℕ × ℕ). after_split (s.0 * s.1 + 1) 0 0 v) (sym sizes) ∙ ap (after_split (result_capacity b) 0 0) e
        ∙ (λ i. new_view 0 (suc n + 1 + 1) false (result_capacity b) 0 ((ap (λ t. (if t then result_capacity b else result_capacity b - b.limit * suc n) - 0) (later n) ∙ minus_zero (result_capacity b - b.limit * suc n)) i) (same_if ((suc n + 1) == 1) 0 i) [] [] [])

    job_view_is : (n : ℕ) → 0 < n → job_view b n ≡ new_view 0 (n + 1) false (job_capacity b) b.limit (job_capacity b) b.limit [] [] []
    job_view_is zero some = absurd (omega (arith, some))
    job_view_is (suc n) some = refl

    pub publishes : (p : Publisher J R) (v : View (ResultItem R)) → 0 < b.workers → IsPassOf b.jobs p.jobs → IsPassOf b.results p.results
        → view p.jobs ≡ job_view b b.workers → v ≡ result_view b b.workers → view p.results ≡ after_split (jobs * workers + 1) 0 0 v → p.count ≡ 0 → IsReserved b p.left
        → IsPublisherOf b p × (published p ≡ [])
    publishes p v some j r is ev er0 count reserved = let ej = is ∙ job_view_is b.workers some in let er = last_view b.workers some v (view p.results) ev er0 in (
      record {
        jobs = j;
        results = r;
        first_jobs = record { number = ap (λ (v : View (JobItem J)). v.number) ej; alive = ap (λ (v : View (JobItem J)). v.spent) ej; made = ap (λ (v : View (JobItem J)). v.made) ej; returned = ap (λ (v : View (JobItem J)). v.returned) ej; taken = ap (λ (v : View (JobItem J)). v.taken) ej };
        first_results = record { number = ap (λ (v : View (ResultItem R)). v.number) er; alive = ap (λ (v : View (ResultItem R)). v.spent) er; made = let m = ap (λ (v : View (ResultItem R)). v.made) er in omega (arith, m); returned = ap (λ (v : View (ResultItem R)). v.returned) er; taken = ap (λ (v : View (ResultItem R)). v.taken) er };
        jobs_fit = ap (λ (v : View (JobItem J)). v.capacity) ej;
        results_fit = ap (λ (v : View (ResultItem R)). v.capacity) er;
        items_left = let m = ap (λ (v : View (JobItem J)). v.items_left) ej in omega (arith, m, count);
        cost_left = let m = ap (λ (v : View (JobItem J)). v.cost_left) ej in omega (arith, m, count);
        count = let m = ap (λ (v : View (JobItem J)). length (jobs_of v.put)) ej in omega (arith, m, count);
        few = omega (arith, count);
        numbered = ap (λ (v : View (JobItem J)). indexes (jobs_of v.put)) ej ∙ ap numbers (sym count);
        no_stops = ap (λ (v : View (JobItem J)). stops_of v.put) ej;
        nothing = ap (λ (v : View (ResultItem R)). v.put) er;
        one = let m = ap (λ (v : View (ResultItem R)). v.items_left) er in omega (arith, m);
        left = reserved;
      },
      ap (λ (v : View (JobItem J)). jobs_of v.put) ej,
    )
