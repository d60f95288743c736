-- How a round on a board ends: what the queues' logs say of jobs, results and counts.
use Rattle.std.proofs.Common.{◌≡◌, ◌≢◌, ℕ, zero, suc, ◌≤◌, ◌<◌, ◌⊎◌, inl, inr, Bool, List, [], ◌∷◌, ◌++◌, map, length, sym, refl, ap, ◌∙◌, arith, append-nil, length-append, subst, eq-eqb, ne_eqb}
use Rattle.std.specs.Prelude.{if◌then◌else◌, slice_index_or, remove}
use mathlib.Core.Logic.{dite}
use native.Mathlib.Decide.{ℕ_discrete}
use Rattle.job_board.specs.declared.view.View.{View}
use Rattle.job_board.specs.declared.item.JobItem.{JobItem}
use Rattle.job_board.specs.declared.item.JobItem.TheVariants.{Job, Stop}
use Rattle.job_board.specs.declared.item.ResultItem.{ResultItem}
use Rattle.job_board.specs.declared.item.ResultItem.TheVariants.{Result, Count}
use Rattle.job_board.specs.declared.board.Board.{Board}
use Rattle.job_board.specs.declared.pass.Worker.{Worker}
use Rattle.job_board.specs.Queue.{part, items_of, after_put, after_take, after_join, History}
use Rattle.job_board.specs.Items.{jobs_of, results_of, counts_of}
use Rattle.job_board.specs.Passes.{IsFirst, IsWorkerOf, AreWorkersOf, claimed, deposited, job_parts, result_parts}
use Rattle.job_board.specs.Answers.{InterleavesTo, IsInterleaving}
use Rattle.job_board.proofs.Items.{jobs_append, results_append, counts_append}

module _ {X : Type 0} where
  pub no_head : (x : X) (xs : List X) → (x ∷ xs) ≢ []
  no_head x xs e = let h : length (x ∷ xs) ≡ 0 = ap length e in absurd (omega (arith, h))

  pub part_skip : (k : ℕ) (e : ℕ × X) (es : List (ℕ × X)) → e.0 ≢ k → part k (e ∷ es) ≡ part k es
  part_skip k e es ne = ap (λ (b : Bool). if b then e.1 ∷ part k es else part k es) (ne_eqb e.0 k ne)

  pub part_keep : (k : ℕ) (e : ℕ × X) (es : List (ℕ × X)) → e.0 ≡ k → part k (e ∷ es) ≡ e.1 ∷ part k es
  part_keep k e es is = ap (λ (b : Bool). if b then e.1 ∷ part k es else part k es) (eq-eqb e.0 k is)

  -- where one pass alone stands in a log, it has all of it
  only_at : (j : ℕ) (log : List (ℕ × X)) → ((k : ℕ) → k ≢ j → part k log ≡ []) → part j log ≡ items_of log
  only_at j [] none = refl
  only_at j (e ∷ es) none = dite (ℕ_discrete e.0 j)
      (λ (is : e.0 ≡ j). part_keep j e es is ∙ ap (λ l. e.1 ∷ l) (only_at j es (λ k ne. sym (part_skip k e es (λ x. ne (sym x ∙ is))) ∙ none k ne)))
      (λ (ne : e.0 ≢ j). absurd (no_head e.1 (part e.0 es) (sym (part_keep e.0 e es refl) ∙ none e.0 ne)))

  none_first : (xs ys : List X) → xs ++ ys ≡ [] → xs ≡ []
  none_first [] ys e = refl
  none_first (x ∷ xs) ys e = absurd (no_head x (xs ++ ys) e)

  abbrev head_or : X → List X → X
  head_or d [] = d
  head_or d (x ∷ xs) = x

  abbrev tail_of : List X → List X
  tail_of [] = []
  tail_of (x ∷ xs) = xs

  -- a part at the front of one item
  one_or_none : (x : X) (xs ys : List X) → xs ++ ys ≡ x ∷ [] → (xs ≡ []) ⊎ (xs ≡ x ∷ [])
  one_or_none x [] ys e = inl refl
  one_or_none x (y ∷ xs) ys e = let h : y ≡ x = ap (head_or x) e in let t : xs ≡ [] = none_first xs ys (ap tail_of e) in inr (λ i. h i ∷ t i)

module _ {A : Type 0} where
  abbrev jobs_log : List (ℕ × JobItem A) → List (ℕ × (ℕ × A))
  jobs_log [] = []
  jobs_log ((i, Job index job) ∷ es) = (i, (index, job)) ∷ jobs_log es
  jobs_log ((i, Stop) ∷ es) = jobs_log es

  jobs_step : (i k : ℕ) (x : JobItem A) (es : List (ℕ × JobItem A)) → part k (jobs_log es) ≡ jobs_of (part k es) → part k (jobs_log ((i, x) ∷ es)) ≡ jobs_of (part k ((i, x) ∷ es))
  jobs_step i k (Job index job) es h = dite (ℕ_discrete i k) (λ (is : i ≡ k). part_keep k (i, (index, job)) (jobs_log es) is ∙ ap (λ l. (index, job) ∷ l) h ∙ sym (ap jobs_of (part_keep k (i, Job index job) es is)))
      (λ (ne : i ≢ k). part_skip k (i, (index, job)) (jobs_log es) ne ∙ h ∙ sym (ap jobs_of (part_skip k (i, Job index job) es ne)))
  jobs_step i k (Stop) es h = dite (ℕ_discrete i k) (λ (is : i ≡ k). h ∙ sym (ap jobs_of (part_keep k (i, Stop) es is)))
      (λ (ne : i ≢ k). h ∙ sym (ap jobs_of (part_skip k (i, Stop) es ne)))

  jobs_part : (k : ℕ) (es : List (ℕ × JobItem A)) → part k (jobs_log es) ≡ jobs_of (part k es)
  jobs_part k [] = refl
  jobs_part k (e ∷ es) = jobs_step e.0 k e.1 es (jobs_part k es)

  jobs_items_step : (i : ℕ) (x : JobItem A) (es : List (ℕ × JobItem A)) → items_of (jobs_log es) ≡ jobs_of (items_of es) → items_of (jobs_log ((i, x) ∷ es)) ≡ jobs_of (items_of ((i, x) ∷ es))
  jobs_items_step i (Job index job) es h = ap (λ l. (index, job) ∷ l) h
  jobs_items_step i (Stop) es h = h

  jobs_items : (es : List (ℕ × JobItem A)) → items_of (jobs_log es) ≡ jobs_of (items_of es)
  jobs_items [] = refl
  jobs_items (e ∷ es) = jobs_items_step e.0 e.1 es (jobs_items es)

module _ {A : Type 0} where
  abbrev results_log : List (ℕ × ResultItem A) → List (ℕ × (ℕ × A))
  results_log [] = []
  results_log ((i, Result index result) ∷ es) = (i, (index, result)) ∷ results_log es
  results_log ((i, Count n) ∷ es) = results_log es

  results_step : (i k : ℕ) (x : ResultItem A) (es : List (ℕ × ResultItem A)) → part k (results_log es) ≡ results_of (part k es) → part k (results_log ((i, x) ∷ es)) ≡ results_of (part k ((i, x) ∷ es))
  results_step i k (Result index result) es h = dite (ℕ_discrete i k) (λ (is : i ≡ k). part_keep k (i, (index, result)) (results_log es) is ∙ ap (λ l. (index, result) ∷ l) h ∙ sym (ap results_of (part_keep k (i, Result index result) es is)))
      (λ (ne : i ≢ k). part_skip k (i, (index, result)) (results_log es) ne ∙ h ∙ sym (ap results_of (part_skip k (i, Result index result) es ne)))
  results_step i k (Count n) es h = dite (ℕ_discrete i k) (λ (is : i ≡ k). h ∙ sym (ap results_of (part_keep k (i, Count n) es is)))
      (λ (ne : i ≢ k). h ∙ sym (ap results_of (part_skip k (i, Count n) es ne)))

  results_part : (k : ℕ) (es : List (ℕ × ResultItem A)) → part k (results_log es) ≡ results_of (part k es)
  results_part k [] = refl
  results_part k (e ∷ es) = results_step e.0 k e.1 es (results_part k es)

  results_items_step : (i : ℕ) (x : ResultItem A) (es : List (ℕ × ResultItem A)) → items_of (results_log es) ≡ results_of (items_of es) → items_of (results_log ((i, x) ∷ es)) ≡ results_of (items_of ((i, x) ∷ es))
  results_items_step i (Result index result) es h = ap (λ l. (index, result) ∷ l) h
  results_items_step i (Count n) es h = h

  results_items : (es : List (ℕ × ResultItem A)) → items_of (results_log es) ≡ results_of (items_of es)
  results_items [] = refl
  results_items (e ∷ es) = results_items_step e.0 e.1 es (results_items es)

module _ {A : Type 0} where
  abbrev counts_log : List (ℕ × ResultItem A) → List (ℕ × ℕ)
  counts_log [] = []
  counts_log ((i, Count n) ∷ es) = (i, n) ∷ counts_log es
  counts_log ((i, Result index result) ∷ es) = counts_log es

  counts_step : (i k : ℕ) (x : ResultItem A) (es : List (ℕ × ResultItem A)) → part k (counts_log es) ≡ counts_of (part k es) → part k (counts_log ((i, x) ∷ es)) ≡ counts_of (part k ((i, x) ∷ es))
  counts_step i k (Count n) es h = dite (ℕ_discrete i k) (λ (is : i ≡ k). part_keep k (i, n) (counts_log es) is ∙ ap (λ l. n ∷ l) h ∙ sym (ap counts_of (part_keep k (i, Count n) es is)))
      (λ (ne : i ≢ k). part_skip k (i, n) (counts_log es) ne ∙ h ∙ sym (ap counts_of (part_skip k (i, Count n) es ne)))
  counts_step i k (Result index result) es h = dite (ℕ_discrete i k) (λ (is : i ≡ k). h ∙ sym (ap counts_of (part_keep k (i, Result index result) es is)))
      (λ (ne : i ≢ k). h ∙ sym (ap counts_of (part_skip k (i, Result index result) es ne)))

  counts_part : (k : ℕ) (es : List (ℕ × ResultItem A)) → part k (counts_log es) ≡ counts_of (part k es)
  counts_part k [] = refl
  counts_part k (e ∷ es) = counts_step e.0 k e.1 es (counts_part k es)

  counts_items_step : (i : ℕ) (x : ResultItem A) (es : List (ℕ × ResultItem A)) → items_of (counts_log es) ≡ counts_of (items_of es) → items_of (counts_log ((i, x) ∷ es)) ≡ counts_of (items_of ((i, x) ∷ es))
  counts_items_step i (Count n) es h = ap (λ l. n ∷ l) h
  counts_items_step i (Result index result) es h = h

  counts_items : (es : List (ℕ × ResultItem A)) → items_of (counts_log es) ≡ counts_of (items_of es)
  counts_items [] = refl
  counts_items (e ∷ es) = counts_items_step e.0 e.1 es (counts_items es)

module _ {J R : Type 0} where
  job_put : (ws : List (Worker J R)) (k : ℕ) → (slice_index_or (job_parts ws) k ([], [])).0 ≡ []
  job_put [] k = refl
  job_put (w ∷ ws) zero = refl
  job_put (w ∷ ws) (suc k) = job_put ws k

  job_taken : (ws : List (Worker J R)) (k : ℕ) → jobs_of (slice_index_or (job_parts ws) k ([], [])).1 ≡ slice_index_or (map (λ (w : Worker J R). claimed w) ws) k []
  job_taken [] k = refl
  job_taken (w ∷ ws) zero = refl
  job_taken (w ∷ ws) (suc k) = job_taken ws k

  pub shared_of : (p : List (JobItem J)) (ws : List (Worker J R)) (left : List (JobItem J)) → History ((p, []) ∷ job_parts ws) left → InterleavesTo (jobs_of p) (map (λ (w : Worker J R). claimed w) ws) (jobs_of left)
  shared_of p ws left s = let puts = s.0 in let takes = s.1 in let chain = s.2 in let at = s.3 in
      let whole : items_of puts ≡ p = sym (only_at 0 puts (λ k ne. others k ne)) ∙ sym (ap (λ x. x.0) (at 0)) in (
        jobs_log takes,
        ap jobs_of (sym whole ∙ chain) ∙ jobs_append (items_of takes) left ∙ ap (λ l. l ++ jobs_of left) (sym (jobs_items takes)),
        (λ k. jobs_part (suc k) takes ∙ ap jobs_of (sym (ap (λ x. x.1) (at (suc k)))) ∙ job_taken ws k),
        jobs_part 0 takes ∙ ap jobs_of (sym (ap (λ x. x.1) (at 0))),
      ) where
        others : (k : ℕ) → k ≢ 0 → part k s.0 ≡ []
        others zero ne = absurd (ne refl)
        others (suc k) ne = sym (ap (λ x. x.0) (s.3 (suc k))) ∙ job_put ws k

  module _ (put taken : List (ResultItem R)) where
    abbrev with_last : List (Worker J R) → List (List (ResultItem R) × List (ResultItem R))
    with_last ws = result_parts ws ++ (put, taken) ∷ []

    result_part : put ≡ [] → (ws : List (Worker J R)) (k : ℕ) → results_of (slice_index_or (with_last ws) k ([], [])).0 ≡ slice_index_or (map (λ (w : Worker J R). deposited w) ws) k []
    result_part none [] zero = ap results_of none
    result_part none [] (suc k) = refl
    result_part none (w ∷ ws) zero = refl
    result_part none (w ∷ ws) (suc k) = result_part none ws k

    no_count : put ≡ [] → (b : Board J R) (n : ℕ) (ws : List (Worker J R)) → AreWorkersOf b n ws → (k : ℕ) → counts_of (slice_index_or (with_last ws) k ([], [])).0 ≡ []
    no_count none b n [] all zero = ap counts_of none
    no_count none b n [] all (suc k) = refl
    no_count none b n (w ∷ ws) all zero = all.0.no_counts
    no_count none b n (w ∷ ws) all (suc k) = no_count none b (suc n) ws all.1 k

    taken_else : (ws : List (Worker J R)) (k : ℕ) → k ≢ length ws → (slice_index_or (with_last ws) k ([], [])).1 ≡ []
    taken_else [] zero ne = absurd (ne refl)
    taken_else [] (suc k) ne = refl
    taken_else (w ∷ ws) zero ne = refl
    taken_else (w ∷ ws) (suc k) ne = taken_else ws k (λ e. ne (ap suc e))

    taken_last : (ws : List (Worker J R)) → (slice_index_or (with_last ws) (length ws) ([], [])).1 ≡ taken
    taken_last [] = refl
    taken_last (w ∷ ws) = taken_last ws

    pub gathered_of : (b : Board J R) (q : List (ResultItem R)) (n : ℕ) (ws : List (Worker J R)) (left : List (ResultItem R)) → AreWorkersOf b 1 ws → put ≡ [] → q ≡ Count n ∷ [] → History ((q, []) ∷ with_last ws) left
        → IsInterleaving (map (λ (w : Worker J R). deposited w) ws) (results_of taken ++ results_of left) × ((counts_of taken ≡ []) ⊎ (counts_of taken ≡ n ∷ []))
    gathered_of b q n ws left all none one s = let puts = s.0 in let takes = s.1 in let chain = s.2 in let at = s.3 in
        let took : items_of takes ≡ taken = sym (only_at (suc (length ws)) takes elsewhere) ∙ sym (ap (λ x. x.1) (at (suc (length ws)))) ∙ taken_last ws in
        let whole : items_of puts ≡ taken ++ left = chain ∙ ap (λ l. l ++ left) took in
        let count : counts_of taken ++ counts_of left ≡ n ∷ [] = sym (counts_append taken left) ∙ ap counts_of (sym whole) ∙ sym (counts_items puts) ∙ sym (only_at 0 (counts_log puts) uncounted) ∙ counts_part 0 puts ∙ ap counts_of (sym (ap (λ x. x.0) (at 0)) ∙ one) in (
          (
            results_log puts,
            sym (results_append taken left) ∙ ap results_of (sym whole) ∙ sym (results_items puts),
            (λ k. results_part (suc k) puts ∙ ap results_of (sym (ap (λ x. x.0) (at (suc k)))) ∙ result_part none ws k),
            results_part 0 puts ∙ ap results_of (sym (ap (λ x. x.0) (at 0)) ∙ one),
          ),
          one_or_none n (counts_of taken) (counts_of left) count,
        ) where
          elsewhere : (k : ℕ) → k ≢ suc (length ws) → part k s.1 ≡ []
          elsewhere zero ne = sym (ap (λ x. x.1) (s.3 0))
          elsewhere (suc k) ne = sym (ap (λ x. x.1) (s.3 (suc k))) ∙ taken_else ws k (λ e. ne (ap suc e))

          uncounted : (k : ℕ) → k ≢ 0 → part k (counts_log s.0) ≡ []
          uncounted zero ne = absurd (ne refl)
          uncounted (suc k) ne = counts_part (suc k) s.0 ∙ ap counts_of (sym (ap (λ x. x.0) (s.3 (suc k)))) ∙ no_count none b 1 ws all k

  -- the first of the workers, and the others
  pub first_worker : (b : Board J R) (k : ℕ) (ws : List (Worker J R)) (w : Worker J R) → AreWorkersOf b k ws → 0 < length ws → w ≡ slice_index_or ws 0 w
      → IsWorkerOf b k w × AreWorkersOf b (suc k) (remove ws 0) × (ws ≡ w ∷ remove ws 0)
  first_worker b k [] w all some is = absurd (omega (arith, some))
  first_worker b k (x ∷ xs) w all some is = (subst (λ y. IsWorkerOf b k y) (sym is) all.0, all.1, λ i. sym is i ∷ xs)

module _ {X : Type 0} where
  pub first_put : (cost : X → ℕ) (v w : View X) (x : X) (n : ℕ) (back : List (List X × List X)) → w ≡ after_put cost v x → IsFirst v n back → IsFirst w n back
  first_put cost v w x n back e f = record {
    number = ap (λ (v : View X). v.number) e ∙ f.number;
    alive = ap (λ (v : View X). v.spent) e ∙ f.alive;
    made = ap (λ (v : View X). v.made) e ∙ f.made;
    returned = ap (λ (v : View X). v.returned) e ∙ f.returned;
    taken = ap (λ (v : View X). v.taken) e ∙ f.taken;
  }

  pub first_joined : (v u w : View X) (n : ℕ) → w ≡ after_join v u → IsFirst v n v.returned → IsFirst w n w.returned
  first_joined v u w n e f = record {
    number = ap (λ (v : View X). v.number) e ∙ f.number;
    alive = ap (λ (v : View X). v.spent) e ∙ f.alive;
    made = ap (λ (v : View X). v.made) e ∙ f.made;
    returned = refl;
    taken = ap (λ (v : View X). v.taken) e ∙ f.taken;
  }

  nothing_left : (xs : List X) → length xs ≡ 0 → xs ≡ []
  nothing_left [] e = refl
  nothing_left (x ∷ xs) e = absurd (omega (arith, e))

  -- where the queue holds nothing, what was taken is all that was left
  pub all_taken : (parts : List (List X × List X)) (taken : List X) → ((items : List X) × (length items ≡ 0) × History parts (taken ++ items)) → History parts taken
  all_taken parts taken h = subst (λ l. History parts l) (ap (λ l. taken ++ l) (nothing_left h.0 h.1) ∙ append-nil taken) h.2

module _ {J : Type 0} where
  jobs_few : (xs : List (JobItem J)) → length (jobs_of xs) ≤ length xs
  jobs_few [] = omega arith
  jobs_few (Job index job ∷ xs) = let h = jobs_few xs in omega (arith, h)
  jobs_few (Stop ∷ xs) = let h = jobs_few xs in omega (arith, h)

  pub job_place : (v w : View (JobItem J)) (x : JobItem J) → (w ≡ after_take v x) × (length w.taken ≤ v.capacity) → length (jobs_of v.taken) < v.capacity
  job_place v w x t = let f = jobs_few v.taken in let l = ap (λ (v : View (JobItem J)). length v.taken) t.0 ∙ length-append v.taken (x ∷ []) in let m = t.1 in omega (arith, f, l, m)

module _ {R : Type 0} where
  results_few : (xs : List (ResultItem R)) → length (results_of xs) ≤ length xs
  results_few [] = omega arith
  results_few (Result index res ∷ xs) = let h = results_few xs in omega (arith, h)
  results_few (Count n ∷ xs) = let h = results_few xs in omega (arith, h)

  pub result_place : (v w : View (ResultItem R)) (x : ResultItem R) → (w ≡ after_take v x) × (length w.taken ≤ v.capacity) → length (results_of v.taken) < v.capacity
  result_place v w x t = let f = results_few v.taken in let l = ap (λ (v : View (ResultItem R)). length v.taken) t.0 ∙ length-append v.taken (x ∷ []) in let m = t.1 in omega (arith, f, l, m)

module _ {X : Type 0} where
  pub drained : (v0 v w : View X) → w ≡ v → v.put ≡ v0.put → v.returned ≡ v0.returned → ((items : List X) × (length items ≡ 0) × History ((v.put, []) ∷ v.returned) (v.taken ++ items)) → History ((v0.put, []) ∷ v0.returned) w.taken
  drained v0 v w e put returned h = subst (λ (y : List X × List (List X × List X) × List X). History ((y.0, []) ∷ y.1) y.2) (λ i. (put i, returned i, sym (ap (λ (v : View X). v.taken) e) i)) (all_taken ((v.put, []) ∷ v.returned) v.taken h)

module _ {J R : Type 0} where
  pub close_jobs : (v : View (JobItem J)) (p : List (JobItem J)) (ws : List (Worker J R)) (taken : List (JobItem J)) (left : List (ℕ × J)) → v.put ≡ p → v.returned ≡ job_parts ws → History ((v.put, []) ∷ v.returned) taken → left ≡ jobs_of taken
      → InterleavesTo (jobs_of p) (map (λ (w : Worker J R). claimed w) ws) left
  close_jobs v p ws taken left put returned s e = subst (λ l. InterleavesTo (jobs_of p) (map (λ (w : Worker J R). claimed w) ws) l) (sym e) (shared_of p ws taken (subst (λ (y : List (JobItem J) × List (List (JobItem J) × List (JobItem J))). History ((y.0, []) ∷ y.1) taken) (λ i. (put i, returned i)) s))

  pub close_results : (b : Board J R) (v w u : View (ResultItem R)) (n : ℕ) (ws : List (Worker J R)) (taken : List (ResultItem R)) (left : List (ℕ × R)) → AreWorkersOf b 1 ws → v.put ≡ Count n ∷ [] → v.returned ≡ result_parts ws → u.put ≡ [] → w ≡ after_join v u
      → History ((w.put, []) ∷ w.returned) taken → left ≡ results_of taken
      → IsInterleaving (map (λ (w : Worker J R). deposited w) ws) (results_of u.taken ++ left) × ((counts_of u.taken ≡ []) ⊎ (counts_of u.taken ≡ n ∷ []))
  close_results b v w u n ws taken left all put returned none e s is =
      let parts : w.returned ≡ result_parts ws ++ (u.put, u.taken) ∷ [] = ap (λ (v : View (ResultItem R)). v.returned) e ∙ ap (λ l. l ++ (u.put, u.taken) ∷ []) returned in
      let story : History ((w.put, []) ∷ result_parts ws ++ (u.put, u.taken) ∷ []) taken = subst (λ l. History ((w.put, []) ∷ l) taken) parts s in
      let g = gathered_of u.put u.taken b w.put n ws taken all none (ap (λ (v : View (ResultItem R)). v.put) e ∙ put) story in
      (subst (λ l. IsInterleaving (map (λ (w : Worker J R). deposited w) ws) (results_of u.taken ++ l)) (sym is) g.0, g.1)
