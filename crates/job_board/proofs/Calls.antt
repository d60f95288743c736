-- What a step leaves of a pass of the board.
use Rattle.std.proofs.Common.{◌≡◌, false, ℕ, suc, ◌+◌, ◌≤◌, ◌<◌, Option, None, Some, List, [], ◌∷◌, ◌++◌, length, sym, refl, ap, ◌∙◌, arith, append-nil, length-append, subst}
use Rattle.std.proofs.lemmas.List.{length-map}
use Rattle.crossbeam_queue.specs.Passes.{view, Pass, IsSamePass}
use Rattle.job_board.specs.declared.view.View.{View}
use Rattle.job_board.specs.declared.item.JobItem.{JobItem}
use Rattle.job_board.specs.declared.item.JobItem.TheVariants.{Job, Stop}
use Rattle.job_board.specs.declared.item.ResultItem.{ResultItem}
use Rattle.job_board.specs.declared.item.ResultItem.TheVariants.{Result, Count}
use Rattle.job_board.specs.declared.board.Board.{Board}
use Rattle.job_board.specs.declared.pass.Publisher.{Publisher}
use Rattle.job_board.specs.declared.pass.Worker.{Worker}
use Rattle.job_board.specs.declared.pass.Collector.{Collector}
use Rattle.job_board.specs.Queue.{total_cost, after_put, after_take}
use Rattle.job_board.specs.Items.{job_cost, no_cost, jobs_of, results_of, counts_of, stops_of}
use Rattle.job_board.specs.Passes.{IsPublisherOf, IsWorkerOf, IsCollectorOf, indexes, held_of, numbers, published, claimed, deposited}
use Rattle.job_board.proofs.Logs.{map_append}
use Rattle.job_board.proofs.Items.{jobs_append, jobs_weigh, results_append, counts_append, notes_length, stops_append}

next : (n : ℕ) → suc n ≡ n + 1
next n = omega arith

numbers_next : (n : ℕ) → numbers n ++ (n + 1) ∷ [] ≡ numbers (n + 1)
numbers_next n = subst (λ m. numbers n ++ m ∷ [] ≡ numbers m) (next n) refl

module _ {J R : Type 0} where
  -- a worker that took x
  abbrev worker_with : Worker J R → Pass (JobItem J) (View (JobItem J)) → Option ℕ → Worker J R
  worker_with w p held = record { jobs = p; results = w.results; held = held }

  pub took : (b : Board J R) (k : ℕ) (w : Worker J R) (p : Pass (JobItem J) (View (JobItem J))) (x : JobItem J) (held : Option ℕ) → IsWorkerOf b k w → IsSamePass w.jobs p
      → (view p ≡ after_take (view w.jobs) x) × (total_cost job_cost (view p).taken ≤ (view w.jobs).limit) → indexes (jobs_of (view p).taken) ≡ indexes (deposited w) ++ held_of held → IsWorkerOf b k (worker_with w p held)
  took b k w p x held is same then now = record {
    jobs = (same.0 ∙ is.jobs.0, same.2 ∙ is.jobs.1);
    results = is.results;
    some = is.some;
    job_number = ap (λ (v : View (JobItem J)). v.number) then.0 ∙ is.job_number;
    result_number = is.result_number;
    job_alive = ap (λ (v : View (JobItem J)). v.spent) then.0 ∙ is.job_alive;
    result_alive = is.result_alive;
    job_limit = ap (λ (v : View (JobItem J)). v.limit) then.0 ∙ is.job_limit;
    results_fit = is.results_fit;
    job_put = ap (λ (v : View (JobItem J)). v.put) then.0 ∙ is.job_put;
    result_taken = is.result_taken;
    items_left = is.items_left;
    no_counts = is.no_counts;
    few = let t = then.1 in let l = is.job_limit in omega (arith, t, l);
    held = now;
  }

  pub took_job : (b : Board J R) (k : ℕ) (w : Worker J R) (p : Pass (JobItem J) (View (JobItem J))) (index : ℕ) (job : J) → IsWorkerOf b k w → w.held ≡ None → IsSamePass w.jobs p
      → (view p ≡ after_take (view w.jobs) (Job index job)) × (total_cost job_cost (view p).taken ≤ (view w.jobs).limit)
      → IsWorkerOf b k (worker_with w p (Some index)) × (jobs_of (view p).taken ≡ claimed w ++ (index, job) ∷ [])
  took_job b k w p index job is free same then = let more : jobs_of (view p).taken ≡ claimed w ++ (index, job) ∷ [] = ap (λ (v : View (JobItem J)). jobs_of v.taken) then.0 ∙ jobs_append (view w.jobs).taken (Job index job ∷ []) in
      let were : indexes (claimed w) ≡ indexes (deposited w) = is.held ∙ ap (λ (h : Option ℕ). indexes (deposited w) ++ held_of h) free ∙ append-nil (indexes (deposited w)) in
      (took b k w p (Job index job) (Some index) is same then (ap indexes more ∙ map_append (λ x. x.0) (claimed w) ((index, job) ∷ []) ∙ ap (λ l. l ++ index ∷ []) were), more)

  pub took_stop : (b : Board J R) (k : ℕ) (w : Worker J R) (p : Pass (JobItem J) (View (JobItem J))) → IsWorkerOf b k w → IsSamePass w.jobs p
      → (view p ≡ after_take (view w.jobs) Stop) × (total_cost job_cost (view p).taken ≤ (view w.jobs).limit)
      → IsWorkerOf b k (worker_with w p w.held) × (jobs_of (view p).taken ≡ claimed w)
  took_stop b k w p is same then = let more : jobs_of (view p).taken ≡ claimed w = ap (λ (v : View (JobItem J)). jobs_of v.taken) then.0 ∙ jobs_append (view w.jobs).taken (Stop ∷ []) ∙ append-nil (claimed w) in
      (took b k w p Stop w.held is same then (ap indexes more ∙ is.held), more)

  -- a worker that holds a job has items_left for its result
  pub has_space : (b : Board J R) (k : ℕ) (w : Worker J R) (index : ℕ) → IsWorkerOf b k w → w.held ≡ Some index → 0 < (view w.results).items_left
  has_space b k w index is held = let a = is.items_left in let n = notes_length (view w.results).put in let c = ap (λ (l : List ℕ). length l) is.no_counts in let few = is.few in let j = jobs_weigh (view w.jobs).taken in
      let h = ap (λ (l : List ℕ). length l) (is.held ∙ ap (λ (h : Option ℕ). indexes (deposited w) ++ held_of h) held) in let l = length-append (indexes (deposited w)) (index ∷ []) in
      let m = length-map (claimed w) (λ (x : ℕ × J). x.0) in let d = length-map (deposited w) (λ (x : ℕ × R). x.0) in omega (arith, a, n, c, few, j, h, l, m, d)

  pub put_result : (b : Board J R) (k : ℕ) (w : Worker J R) (p : Pass (ResultItem R) (View (ResultItem R))) (index : ℕ) (res : R) → IsWorkerOf b k w → w.held ≡ Some index → IsSamePass w.results p
      → view p ≡ after_put no_cost (view w.results) (Result index res)
      → IsWorkerOf b k (record { jobs = w.jobs; results = p; held = None }) × (results_of (view p).put ≡ deposited w ++ (index, res) ∷ [])
  put_result b k w p index res is held same then = let more : results_of (view p).put ≡ deposited w ++ (index, res) ∷ [] = ap (λ (v : View (ResultItem R)). results_of v.put) then ∙ results_append (view w.results).put (Result index res ∷ []) in
      let space = has_space b k w index is held in (
        record {
          jobs = is.jobs;
          results = (same.0 ∙ is.results.0, same.2 ∙ is.results.1);
          some = is.some;
          job_number = is.job_number;
          result_number = ap (λ (v : View (ResultItem R)). v.number) then ∙ is.result_number;
          job_alive = is.job_alive;
          result_alive = ap (λ (v : View (ResultItem R)). v.spent) then ∙ is.result_alive;
          job_limit = is.job_limit;
          results_fit = ap (λ (v : View (ResultItem R)). v.capacity) then ∙ is.results_fit;
          job_put = is.job_put;
          result_taken = ap (λ (v : View (ResultItem R)). v.taken) then ∙ is.result_taken;
          items_left = let r = ap (λ (v : View (ResultItem R)). v.items_left) then in let l = ap (λ (v : View (ResultItem R)). length v.put) then ∙ length-append (view w.results).put (Result index res ∷ []) in let a = is.items_left in omega (arith, r, l, a, space);
          no_counts = ap (λ (v : View (ResultItem R)). counts_of v.put) then ∙ counts_append (view w.results).put (Result index res ∷ []) ∙ append-nil (counts_of (view w.results).put) ∙ is.no_counts;
          few = is.few;
          held = is.held ∙ ap (λ (h : Option ℕ). indexes (deposited w) ++ held_of h) held ∙ sym (ap indexes more ∙ map_append (λ x. x.0) (deposited w) ((index, res) ∷ [])) ∙ sym (append-nil (indexes (results_of (view p).put)));
        },
        more,
      )

  pub put_job : (b : Board J R) (p : Publisher J R) (q : Pass (JobItem J) (View (JobItem J))) (job : J) → IsPublisherOf b p → length (published p) < b.limit → IsSamePass p.jobs q
      → view q ≡ after_put job_cost (view p.jobs) (Job (p.count + 1) job)
      → IsPublisherOf b (record { jobs = q; results = p.results; count = p.count + 1; left = p.left }) × (jobs_of (view q).put ≡ published p ++ (length (published p) + 1, job) ∷ [])
  put_job b p q job is few same then = let more : jobs_of (view q).put ≡ published p ++ (p.count + 1, job) ∷ [] = ap (λ (v : View (JobItem J)). jobs_of v.put) then ∙ jobs_append (view p.jobs).put (Job (p.count + 1) job ∷ []) in
      let c = is.count in (
        record {
          jobs = (same.0 ∙ is.jobs.0, same.2 ∙ is.jobs.1);
          results = is.results;
          first_jobs = record {
            number = ap (λ (v : View (JobItem J)). v.number) then ∙ is.first_jobs.number;
            alive = ap (λ (v : View (JobItem J)). v.spent) then ∙ is.first_jobs.alive;
            made = ap (λ (v : View (JobItem J)). v.made) then ∙ is.first_jobs.made;
            returned = ap (λ (v : View (JobItem J)). v.returned) then ∙ is.first_jobs.returned;
            taken = ap (λ (v : View (JobItem J)). v.taken) then ∙ is.first_jobs.taken;
          };
          first_results = is.first_results;
          jobs_fit = ap (λ (v : View (JobItem J)). v.capacity) then ∙ is.jobs_fit;
          results_fit = is.results_fit;
          items_left = let r = ap (λ (v : View (JobItem J)). v.items_left) then in let a = is.items_left in omega (arith, r, a, c, few);
          cost_left = let r = ap (λ (v : View (JobItem J)). v.cost_left) then in let a = is.cost_left in omega (arith, r, a, c, few);
          count = let l = ap (λ (l : List (ℕ × J)). length l) more ∙ length-append (published p) ((p.count + 1, job) ∷ []) in omega (arith, l, c);
          few = omega (arith, c, few);
          numbered = ap indexes more ∙ map_append (λ x. x.0) (published p) ((p.count + 1, job) ∷ []) ∙ ap (λ l. l ++ (p.count + 1) ∷ []) is.numbered ∙ numbers_next p.count;
          no_stops = let a = ap (λ (v : View (JobItem J)). stops_of v.put) then in let b = stops_append (view p.jobs).put (Job (p.count + 1) job ∷ []) in let n = is.no_stops in omega (arith, a, b, n);
          nothing = is.nothing;
          one = is.one;
          left = is.left;
        },
        more ∙ ap (λ n. published p ++ (n + 1, job) ∷ []) (sym c),
      )

  pub took_result : (b : Board J R) (c : Collector R) (p : Pass (ResultItem R) (View (ResultItem R))) (x : ResultItem R) → IsCollectorOf b c → IsSamePass c.results p → view p ≡ after_take (view c.results) x → IsCollectorOf b (record { results = p })
  took_result b c p x is same then = record {
    results = (same.0 ∙ is.results.0, same.2 ∙ is.results.1);
    number = ap (λ (v : View (ResultItem R)). v.number) then ∙ is.number;
    alive = ap (λ (v : View (ResultItem R)). v.spent) then ∙ is.alive;
    put = ap (λ (v : View (ResultItem R)). v.put) then ∙ is.put;
  }

  pub put_facts : (b : Board J R) (k : ℕ) (w : Worker J R) (index : ℕ) → IsWorkerOf b k w → w.held ≡ Some index → (0 < (view w.results).items_left) × ((view w.results).spent ≡ false)
  put_facts b k w index is held = (has_space b k w index is held, is.result_alive)

module _ {R : Type 0} where
  pub found_result : (v w : View (ResultItem R)) (index : ℕ) (res : R) → w ≡ after_take v (Result index res) → (results_of w.taken ≡ results_of v.taken ++ (index, res) ∷ []) × (counts_of w.taken ≡ counts_of v.taken)
  found_result v w index res e = (ap (λ (v : View (ResultItem R)). results_of v.taken) e ∙ results_append v.taken (Result index res ∷ []), ap (λ (v : View (ResultItem R)). counts_of v.taken) e ∙ counts_append v.taken (Result index res ∷ []) ∙ append-nil (counts_of v.taken))

  pub found_count : (v w : View (ResultItem R)) (n : ℕ) → w ≡ after_take v (Count n) → (results_of w.taken ≡ results_of v.taken) × (counts_of w.taken ≡ counts_of v.taken ++ n ∷ [])
  found_count v w n e = (ap (λ (v : View (ResultItem R)). results_of v.taken) e ∙ results_append v.taken (Count n ∷ []) ∙ append-nil (results_of v.taken), ap (λ (v : View (ResultItem R)). counts_of v.taken) e ∙ counts_append v.taken (Count n ∷ []))

module _ {J : Type 0} where
  pub no_stop_more : (v w : View (JobItem J)) (index : ℕ) (job : J) → w ≡ after_take v (Job index job) → stops_of w.taken ≡ stops_of v.taken
  no_stop_more v w index job e = let a = ap (λ (v : View (JobItem J)). stops_of v.taken) e in let b = stops_append v.taken (Job index job ∷ []) in omega (arith, a, b)

  pub one_stop_more : (v w : View (JobItem J)) → w ≡ after_take v Stop → stops_of w.taken ≡ stops_of v.taken + 1
  one_stop_more v w e = let a = ap (λ (v : View (JobItem J)). stops_of v.taken) e in let b = stops_append v.taken (Stop ∷ []) in omega (arith, a, b)
