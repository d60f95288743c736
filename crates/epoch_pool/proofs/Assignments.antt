-- Jobs assigned and results taken back.
use Rattle.std.proofs.Common.{Vec, Global, ◌≡◌, ◌<◌, ◌≤◌, ◌+◌, ◌-◌, ℕ, zero, suc, List, [], ◌∷◌, ◌++◌, length, take, drop, reverse, map, arith, sym, ◌∙◌, ap, refl, subst}
use Rattle.std.specs.Prelude.{IfOk, Ok, Result, slice_index_or}
use Rattle.std.proofs.lemmas.List.{drop_more, length-map, length-append, reverse-append, take_more}
use Rattle.std.proofs.Math.Seq.{drop-length, take-length}
use Rattle.epoch_runner.specs.Running.{HasRun}
use Rattle.epoch_runner.specs.declared.epoch_run.Ran.{Ran}
use Rattle.epoch_pool.specs.declared.assignment.WorkerJobs.{WorkerJobs}
use Rattle.epoch_pool.specs.declared.job.Job.{Job}
use Rattle.dp_base.specs.declared.out_of_memory.OutOfMemory.{OutOfMemory}
use Rattle.epoch_pool.specs.Assigning.{AllHaveRun, assigned, no_jobs, with_next}
use Rattle.epoch_pool.specs.Pool.{HaveRun}
use Rattle.supply.specs.Supplied.{Supplied}

-- ---- the last of each

pub run_last : (w : Supplied) (h : List Job) (j : Job) (s : List Ran) (r : Ran) → HaveRun (h ++ j ∷ []) w (s ++ r ∷ []) → HaveRun h w s × HasRun j.start j.hints w j.bounds r
run_last w [] j [] r have = (tt, have.0)
run_last w [] j (x ∷ []) r have = absurd have.1
run_last w [] j (x ∷ y ∷ s) r have = absurd have.1
run_last w (k ∷ []) j [] r have = absurd have.1
run_last w (k ∷ l ∷ h) j [] r have = absurd have.1
run_last w (k ∷ h) j (x ∷ s) r have = let rest = run_last w h j s r have.1 in ((have.0, rest.0), rest.1)

pub run_more : (w : Supplied) (h : List Job) (j : Job) (s : List Ran) (r : Ran) → HaveRun h w s → HasRun j.start j.hints w j.bounds r → HaveRun (h ++ j ∷ []) w (s ++ r ∷ [])
run_more w [] j [] r have is = (is, tt)
run_more w [] j (x ∷ s) r have is = absurd have
run_more w (k ∷ h) j [] r have is = absurd have
run_more w (k ∷ h) j (x ∷ s) r have is = (have.0, run_more w h j s r have.1 is)

pub run_some : (w : Supplied) (h : List Job) (j : Job) → HaveRun (h ++ j ∷ []) w [] → ⊥
run_some w [] j have = have
run_some w (k ∷ h) j have = have

pub queues_last : (w : Supplied) (hs : List (List Job)) (h : List Job) (rs : List (List Ran)) (r : List Ran) → AllHaveRun (hs ++ h ∷ []) w (rs ++ r ∷ []) → AllHaveRun hs w rs × HaveRun h w r
queues_last w [] h [] r have = (tt, have.0)
queues_last w [] h (x ∷ []) r have = absurd have.1
queues_last w [] h (x ∷ y ∷ rs) r have = absurd have.1
queues_last w (k ∷ []) h [] r have = absurd have.1
queues_last w (k ∷ l ∷ hs) h [] r have = absurd have.1
queues_last w (k ∷ hs) h (x ∷ rs) r have = let rest = queues_last w hs h rs r have.1 in ((have.0, rest.0), rest.1)

pub queues_some : (w : Supplied) (hs : List (List Job)) (h : List Job) → AllHaveRun (hs ++ h ∷ []) w [] → ⊥
queues_some w [] h have = have
queues_some w (k ∷ hs) h have = have

-- ---- assigned

pub dealt_last : (js : List Job) (j : Job) (queues : List (List Job)) → assigned (js ++ j ∷ []) queues ≡ with_next j (assigned js queues)
dealt_last [] j queues = refl
dealt_last (k ∷ js) j queues = dealt_last js j (with_next k queues)

next_some : (j : Job) (queues : List (List Job)) → 0 < length queues → 0 < length (with_next j queues)
next_some j [] some = absurd (omega arith)
next_some j (h ∷ hs) some = omega (arith, length-append hs ((h ++ j ∷ []) ∷ []))

-- some queues stay some
pub dealt_some : (js : List Job) (queues : List (List Job)) → 0 < length queues → 0 < length (assigned js queues)
dealt_some [] queues some = some
dealt_some (j ∷ js) queues some = dealt_some js (with_next j queues) (next_some j queues some)

pub empty_some : (n : ℕ) → 0 < n → 0 < length (no_jobs n)
empty_some zero some = absurd (omega arith)
empty_some (suc n) some = omega (arith, length-append (no_jobs n) ([] ∷ []))

-- ---- taken back

-- the last job of some queues, and its result
undone : (w : Supplied) (j : Job) (queues : List (List Job)) (rest : List (List Ran)) (s : List Ran) (r : Ran) → AllHaveRun (with_next j queues) w (rest ++ (s ++ r ∷ []) ∷ [])
    → AllHaveRun queues w (s ∷ rest) × HasRun j.start j.hints w j.bounds r
undone w j [] [] s r have = absurd have
undone w j [] (x ∷ rest) s r have = absurd have
undone w j (h ∷ hs) rest s r have =
    let queues = queues_last w hs (h ++ j ∷ []) rest (s ++ r ∷ []) have in
    let last = run_last w h j s r queues.1 in
    ((last.0, queues.0), last.1)

some_queue : (w : Supplied) (j : Job) (queues : List (List Job)) → 0 < length queues → AllHaveRun (with_next j queues) w [] → ⊥
some_queue w j [] some have = absurd (omega arith)
some_queue w j (h ∷ hs) some have = queues_some w hs (h ++ j ∷ []) have

some_result : (w : Supplied) (j : Job) (queues : List (List Job)) (rest : List (List Ran)) → AllHaveRun (with_next j queues) w (rest ++ [] ∷ []) → ⊥
some_result w j [] [] have = have
some_result w j [] (x ∷ rest) have = have
some_result w j (h ∷ hs) rest have = run_some w h j (queues_last w hs (h ++ j ∷ []) rest [] have).1

-- what is left of the jobs, with the results of those that are after
pub record Gathering (jobs : List Job) (start : List (List Job)) (w : Supplied) (left : ℕ) (all : List (List Ran)) (ordered : List Ran) : Type 0 where
  pub within : left ≤ length jobs
  pub some : 0 < length start
  pub queues : AllHaveRun (assigned (take left jobs) start) w all
  pub results : HaveRun (drop left jobs) w (reverse ordered)

-- the job at a place, which ends what is in front and begins what is after
record JobAt (jobs : List Job) (m : ℕ) : Type 0 where
  job : Job
  front : take (m + 1) jobs ≡ take m jobs ++ job ∷ []
  behind : drop m jobs ≡ job ∷ drop (m + 1) jobs

job_at : (jobs : List Job) (m : ℕ) → m < length jobs → JobAt jobs m
job_at [] m within = absurd (omega arith)
job_at (k ∷ ks) m within = record { job = slice_index_or (k ∷ ks) m k; front = take_more (k ∷ ks) m k within; behind = drop_more (k ∷ ks) m k within }

module _ (jobs : List Job) (start : List (List Job)) (w : Supplied) (m : ℕ) (at : JobAt jobs m) (some : 0 < length start) where
  last_dealt : (all : List (List Ran)) → AllHaveRun (assigned (take (m + 1) jobs) start) w all → AllHaveRun (with_next at.job (assigned (take m jobs) start)) w all
  last_dealt all have =
      subst (λ (queues : List (List Job)). AllHaveRun queues w all) (ap (λ (js : List Job). assigned js start) at.front ∙ dealt_last (take m jobs) at.job start) have

  a_queue : (all : List (List Ran)) → AllHaveRun (assigned (take (m + 1) jobs) start) w all → 0 < length all
  a_queue [] have = absurd (some_queue w at.job (assigned (take m jobs) start) (dealt_some (take m jobs) start some) (last_dealt [] have))
  a_queue (x ∷ all) have = omega arith

  a_result : (rest : List (List Ran)) (s : List Ran) → AllHaveRun (assigned (take (m + 1) jobs) start) w (rest ++ s ∷ []) → 0 < length s
  a_result rest [] have = absurd (some_result w at.job (assigned (take m jobs) start) rest (last_dealt (rest ++ [] ∷ []) have))
  a_result rest (x ∷ s) have = omega arith

  taken_back : (rest : List (List Ran)) (s : List Ran) (r : Ran) (ordered : List Ran) → AllHaveRun (assigned (take (m + 1) jobs) start) w (rest ++ (s ++ r ∷ []) ∷ []) → HaveRun (drop (m + 1) jobs) w (reverse ordered)
      → AllHaveRun (assigned (take m jobs) start) w (s ∷ rest) × HaveRun (drop m jobs) w (reverse (ordered ++ r ∷ []))
  taken_back rest s r ordered have others =
      let one = undone w at.job (assigned (take m jobs) start) rest s r (last_dealt (rest ++ (s ++ r ∷ []) ∷ []) have) in (
        one.0,
        subst (λ (js : List Job). HaveRun js w (reverse (ordered ++ r ∷ []))) (sym at.behind)
            (subst (λ (rs : List Ran). HaveRun (at.job ∷ drop (m + 1) jobs) w rs) (sym (reverse-append ordered (r ∷ []))) (one.1, others)),
      )

-- ---- by what is left

module _ (jobs : List Job) (start : List (List Job)) (w : Supplied) (left : ℕ) (all : List (List Ran)) (ordered : List Ran) (so_far : Gathering jobs start w left all ordered) (going : 0 < left) where
  here : (n : ℕ) → left ≡ n + 1 → JobAt jobs n
  here n is = job_at jobs n (omega (arith, is, so_far.within))

  queues_at : (n : ℕ) → left ≡ n + 1 → AllHaveRun (assigned (take (n + 1) jobs) start) w all
  queues_at n is = subst (λ k. AllHaveRun (assigned (take k jobs) start) w all) is so_far.queues

  is_next : left ≡ (left - 1) + 1
  is_next = omega (arith, going)

  pub a_queue_left : 0 < length all
  a_queue_left = a_queue jobs start w (left - 1) (here (left - 1) is_next) so_far.some all (queues_at (left - 1) is_next)

  pub a_result_left : (rest : List (List Ran)) (s : List Ran) → all ≡ rest ++ s ∷ [] → 0 < length s
  a_result_left rest s is =
      a_result jobs start w (left - 1) (here (left - 1) is_next) so_far.some rest s (subst (λ (queues : List (List Ran)). AllHaveRun (assigned (take (left - 1 + 1) jobs) start) w queues) is (queues_at (left - 1) is_next))

  pub gathered : (rest : List (List Ran)) (s s' : List Ran) (r : Ran) → all ≡ rest ++ s ∷ [] → s ≡ s' ++ r ∷ [] → Gathering jobs start w (left - 1) (s' ∷ rest) (ordered ++ r ∷ [])
  gathered rest s s' r is last =
      let others = subst (λ k. HaveRun (drop k jobs) w (reverse ordered)) is_next so_far.results in
      let whole = is ∙ ap (λ (l : List Ran). rest ++ l ∷ []) last in
      let queues = subst (λ (queues : List (List Ran)). AllHaveRun (assigned (take (left - 1 + 1) jobs) start) w queues) whole (queues_at (left - 1) is_next) in
      let both = taken_back jobs start w (left - 1) (here (left - 1) is_next) so_far.some rest s' r ordered queues others in
      record { within = omega (arith, so_far.within); some = so_far.some; queues = both.0; results = both.1 }

-- at first
pub none_gathered : (jobs : List Job) (start : List (List Job)) (w : Supplied) (all : List (List Ran)) → 0 < length start → AllHaveRun (assigned jobs start) w all → Gathering jobs start w (length jobs) all []
none_gathered jobs start w all some have = record {
  within = omega arith;
  some = some;
  queues = subst (λ (js : List Job). AllHaveRun (assigned js start) w all) (sym (take-length jobs)) have;
  results = subst (λ (js : List Job). HaveRun js w []) (sym (drop-length jobs)) tt;
}

-- at last
pub all_gathered : (jobs : List Job) (start : List (List Job)) (w : Supplied) (left : ℕ) (all : List (List Ran)) (ordered : List Ran) → Gathering jobs start w left all ordered → left ≡ 0 → HaveRun jobs w (reverse ordered)
all_gathered jobs start w left all ordered so_far none = subst (λ k. HaveRun (drop k jobs) w (reverse ordered)) none so_far.results

-- ---- the first of a list

pub first_of : {X : Type 0} (xs rest : List X) (x : X) → 0 < length xs → x ≡ slice_index_or xs 0 x → rest ≡ drop 1 xs → xs ≡ x ∷ rest
first_of [] rest x some is behind = absurd (omega arith)
first_of (y ∷ ys) rest x some is behind = cc

pub none_of : {X : Type 0} (xs : List X) → length xs ≡ 0 → xs ≡ []
none_of [] none = refl
none_of (x ∷ xs) none = absurd (omega arith)

pub queues_run : (w : Supplied) (queues : List WorkerJobs) (all : List (Vec Ran Global)) → length all ≡ length queues
    → ((i : ℕ) (d : WorkerJobs) (e : Result (Vec Ran Global) OutOfMemory) → i < length queues → IfOk (slice_index_or (map (λ (o : Vec Ran Global). Ok o) all) i e) (λ results. HaveRun (slice_index_or queues i d).jobs.items w results.items))
    → AllHaveRun (map (λ (h : WorkerJobs). h.jobs.items) queues) w (map (λ (o : Vec Ran Global). o.items) all)
queues_run w [] [] same each = tt
queues_run w [] (o ∷ os) same each = absurd (omega arith)
queues_run w (h ∷ hs) [] same each = absurd (omega arith)
queues_run w (h ∷ hs) (o ∷ os) same each = (each 0 h (Ok o) (omega arith), queues_run w hs os (omega arith) (λ i d e within. each (suc i) d e (omega arith)))

pub same_count : (all : List (Vec Ran Global)) (results : List (Result (Vec Ran Global) OutOfMemory)) → map (λ (o : Vec Ran Global). Ok o) all ≡ results → length all ≡ length results
same_count all results is = sym (length-map all _) ∙ ap length is
