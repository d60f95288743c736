-- Jobs and results among what the queues hold.
use Rattle.std.proofs.Common.{◌≡◌, ◌+◌, List, [], ◌∷◌, ◌++◌, length, refl, ap, arith}
use Rattle.job_board.specs.declared.item.JobItem.{JobItem}
use Rattle.job_board.specs.declared.item.JobItem.TheVariants.{Job, Stop}
use Rattle.job_board.specs.declared.item.ResultItem.{ResultItem}
use Rattle.job_board.specs.declared.item.ResultItem.TheVariants.{Result, Count}
use Rattle.job_board.specs.Queue.{total_cost}
use Rattle.job_board.specs.Items.{job_cost, jobs_of, results_of, counts_of, stops_of}

module _ {J : Type 0} where
  pub jobs_append : (xs ys : List (JobItem J)) → jobs_of (xs ++ ys) ≡ jobs_of xs ++ jobs_of ys
  jobs_append [] ys = refl
  jobs_append (Job index job ∷ xs) ys = ap (λ l. (index, job) ∷ l) (jobs_append xs ys)
  jobs_append (Stop ∷ xs) ys = jobs_append xs ys

  pub jobs_weigh : (xs : List (JobItem J)) → total_cost job_cost xs ≡ length (jobs_of xs)
  jobs_weigh [] = refl
  jobs_weigh (Job index job ∷ xs) = let h = jobs_weigh xs in omega (arith, h)
  jobs_weigh (Stop ∷ xs) = let h = jobs_weigh xs in omega (arith, h)

  pub stops_append : (xs ys : List (JobItem J)) → stops_of (xs ++ ys) ≡ stops_of xs + stops_of ys
  stops_append [] ys = omega arith
  stops_append (Job index job ∷ xs) ys = stops_append xs ys
  stops_append (Stop ∷ xs) ys = let h = stops_append xs ys in omega (arith, h)

module _ {R : Type 0} where
  pub results_append : (xs ys : List (ResultItem R)) → results_of (xs ++ ys) ≡ results_of xs ++ results_of ys
  results_append [] ys = refl
  results_append (Result index result ∷ xs) ys = ap (λ l. (index, result) ∷ l) (results_append xs ys)
  results_append (Count n ∷ xs) ys = results_append xs ys

  pub counts_append : (xs ys : List (ResultItem R)) → counts_of (xs ++ ys) ≡ counts_of xs ++ counts_of ys
  counts_append [] ys = refl
  counts_append (Result index result ∷ xs) ys = counts_append xs ys
  counts_append (Count n ∷ xs) ys = ap (λ l. n ∷ l) (counts_append xs ys)

  pub notes_length : (xs : List (ResultItem R)) → length xs ≡ length (results_of xs) + length (counts_of xs)
  notes_length [] = refl
  notes_length (Result index result ∷ xs) = let h = notes_length xs in omega (arith, h)
  notes_length (Count n ∷ xs) = let h = notes_length xs in omega (arith, h)
