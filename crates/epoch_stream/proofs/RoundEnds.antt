-- From the results that were taken to the jobs that were published, and the end of a round.
use Rattle.std.proofs.Common.{◌≡◌, ℕ, zero, suc, ◌+◌, ◌≤◌, ◌<◌, ◌==◌, ◌⊎◌, inl, inr, Bool, true, false, Option, None, Some, List, [], ◌∷◌, ◌++◌, map, length, sym, refl, ap, ◌∙◌, subst, arith, eq-eqb}
use Rattle.std.specs.Prelude.{Result, Ok, Err, slice_get, slice_index_or, if◌then◌else◌}
use Rattle.dp_base.specs.declared.out_of_memory.OutOfMemory.{OutOfMemory}
use Rattle.job_board.specs.declared.board.Board.{Board}
use Rattle.job_board.specs.declared.pass.Worker.{Worker}
use Rattle.job_board.specs.declared.pass.Collector.{Collector}
use Rattle.job_board.specs.declared.pass.Receipt.{Receipt}
use Rattle.job_board.specs.Queue.{part, items_of}
use Rattle.job_board.specs.Passes.{AreWorkersOf, claimed, collected, counts, deposited, was_published}
use Rattle.job_board.specs.Answers.{InterleavesTo, IsInterleaving}
use Rattle.epoch_pool.specs.declared.job.Job.{Job}
use Rattle.guest_kernel.specs.declared.state.State.{State}
use Rattle.supply.specs.Supplied.{Supplied}
use Rattle.racing_runner.specs.declared.plan.Plan.{Plan}
use Rattle.racing_runner.specs.declared.offer.Offer.{Offer}
use Rattle.racing_runner.specs.Offers.{IfTold, Tells}
use Rattle.epoch_runner.specs.declared.epoch_run.Ran.{Ran}
use Rattle.racing_runner.specs.declared.offer.More.{More}
use Rattle.racing_runner.specs.declared.offer.More.TheVariants.{Yes, Enough}
use Rattle.epoch_stream.specs.declared.deposit.Deposit.{Deposit}
use Rattle.epoch_stream.specs.declared.racer_part.RaceEnd.{RaceEnd}
use Rattle.epoch_stream.specs.Results.{IsResultOf}
use Rattle.epoch_stream.specs.declared.deposit.Deposit.TheVariants as deposits
use Rattle.epoch_stream.specs.Deposits.{AreFor, AreOf, In, IsFor, IsResultIn}
use Rattle.epoch_stream.specs.Finishing.{HasFinished}
use Rattle.epoch_stream.specs.Offers.{AreJobs, offers_within}
use Rattle.epoch_stream.specs.Rounds.{AreDone}
use Rattle.epoch_stream.specs.Streams.{HasEnded, HaveJobs, IsWhole, Streamed, and_then}
use Rattle.epoch_stream.specs.Takes.{IsAfterAll, Took}
use Rattle.epoch_stream.proofs.Handing.{in_more}
use Rattle.epoch_stream.proofs.Jobs.{fewer, job_at}

module _ {A : Type 0} where
  here_step : (x e : A) (b : Bool) (rest : List A) → b ≡ true → x ≡ e → In x (if b then e ∷ rest else rest)
  here_step x e b rest is same = subst (λ (c : Bool). In x (if c then e ∷ rest else rest)) (sym is) (inl same)

  there_step : (x e : A) (b : Bool) (rest : List A) → In x rest → In x (if b then e ∷ rest else rest)
  there_step x e true rest h = inr h
  there_step x e false rest h = h

  -- an item of a log is some pass's
  in_part : (x : A) (log : List (ℕ × A)) → In x (items_of log) → (k : ℕ) × In x (part k log)
  in_part x [] h = absurd h
  in_part x (e ∷ es) (inl same) = (e.0, here_step x e.1 (e.0 == e.0) (part e.0 es) (eq-eqb e.0 e.0 refl) same)
  in_part x (e ∷ es) (inr h) = let r = in_part x es h in (r.0, there_step x e.1 (e.0 == r.0) (part r.0 es) r.1)

  back_step : (x e : A) (b : Bool) (rest all : List A) → (In x rest → In x all) → In x (if b then e ∷ rest else rest) → In x (e ∷ all)
  back_step x e true rest all f (inl same) = inl same
  back_step x e true rest all f (inr h) = inr (f h)
  back_step x e false rest all f h = inr (f h)

  in_log : (x : A) (k : ℕ) (log : List (ℕ × A)) → In x (part k log) → In x (items_of log)
  in_log x k [] h = absurd h
  in_log x k (e ∷ es) h = back_step x e.1 (e.0 == k) (part k es) (items_of es) (in_log x k es) h

-- a deposit of a worker that is done is for a job that it claimed
job_of : (supply : Supplied) (js : List (ℕ × Job)) (ds : List (ℕ × Deposit)) (d : ℕ × Deposit) → AreFor supply js ds → In d ds → (job : Job) × In (d.0, job) js × IsFor supply job d.1
job_of supply [] [] d are h = absurd h
job_of supply [] (x ∷ xs) d are h = absurd are
job_of supply (y ∷ ys) [] d are h = absurd h
job_of supply (y ∷ ys) (x ∷ xs) d are (inl e) = (y.1, inl (λ i. ((ap (λ (p : ℕ × Deposit). p.0) e ∙ are.0) i, y.1)), subst (λ (z : Deposit). IsFor supply y.1 z) (sym (ap (λ (p : ℕ × Deposit). p.1) e)) are.1)
job_of supply (y ∷ ys) (x ∷ xs) d are (inr h) = let r = job_of supply ys xs d are.2 h in (r.0, inr r.1, r.2)

done_at : (b : Board Job Deposit) (supply : Supplied) (k : ℕ) (ws : List (Worker Job Deposit)) (d : ℕ × Deposit) (m : ℕ) → AreDone b supply k ws
    → In d (slice_index_or (map (λ (w : Worker Job Deposit). deposited w) ws) m []) → (job : Job) × In (d.0, job) (slice_index_or (map (λ (w : Worker Job Deposit). claimed w) ws) m []) × IsFor supply job d.1
done_at b supply k [] d m done h = absurd h
done_at b supply k (w ∷ ws) d zero done h = job_of supply (claimed w) (deposited w) d done.0.1 h
done_at b supply k (w ∷ ws) d (suc m) done h = done_at b supply (suc k) ws d m done.1 h

pub done_workers : (b : Board Job Deposit) (supply : Supplied) (k : ℕ) (ws : List (Worker Job Deposit)) → AreDone b supply k ws → AreWorkersOf b k ws
done_workers b supply k [] done = tt
done_workers b supply k (w ∷ ws) done = (done.0.0, done_workers b supply (suc k) ws done.1)

-- a deposit that was made is for a job that was published
published_for : (b : Board Job Deposit) (supply : Supplied) (ws : List (Worker Job Deposit)) (jobs rest : List (ℕ × Job)) (d : ℕ × Deposit) (log : List (ℕ × (ℕ × Deposit))) → AreDone b supply 1 ws
    → InterleavesTo jobs (map (λ (w : Worker Job Deposit). claimed w) ws) rest
    → ((k : ℕ) → part (suc k) log ≡ slice_index_or (map (λ (w : Worker Job Deposit). deposited w) ws) k []) → part 0 log ≡ []
    → (k : ℕ) → In d (part k log) → (job : Job) × In (d.0, job) jobs × IsFor supply job d.1
published_for b supply ws jobs rest d log done s at none zero h = absurd (subst (λ l. In d l) none h)
published_for b supply ws jobs rest d log done s at none (suc m) h =
    let took = done_at b supply 1 ws d m done (subst (λ l. In d l) (at m) h) in
    let logged = in_log (d.0, took.0) (suc m) s.0 (subst (λ l. In (d.0, took.0) l) (sym (s.2 m)) took.1) in
    (took.0, subst (λ l. In (d.0, took.0) l) (sym s.1) (in_more (d.0, took.0) (items_of s.0) rest logged), took.2)

-- what a deposit for a job stands for is a result of the job
result_of : (supply : Supplied) (job : Job) (d : Deposit) (ran : Ran) → IsFor supply job d → IsResultIn supply d ran → IsResultOf supply job ran
result_of supply job (deposits.Ran r) ran is stands = subst (λ (y : Ran). IsResultOf supply job y) (sym stands) is
result_of supply job (deposits.Skipped other) ran is stands = subst (λ (j : Job). IsResultOf supply j ran) is stands
result_of supply job deposits.OutOfMemory ran is stands = absurd stands

-- each result that was taken is of the job at its place
taken_for : (b : Board Job Deposit) (supply : Supplied) (ws : List (Worker Job Deposit)) (jobs rest : List (ℕ × Job)) (found left : List (ℕ × Deposit)) (results : List Ran) (plan : Plan) (limit first : ℕ) → AreDone b supply 1 ws
    → InterleavesTo jobs (map (λ (w : Worker Job Deposit). claimed w) ws) rest
    → IsInterleaving (map (λ (w : Worker Job Deposit). deposited w) ws) (found ++ left)
    → AreJobs plan limit 1 first jobs → AreOf supply found results → HaveJobs supply jobs results
taken_for b supply ws jobs rest found left results plan limit first done s gathered numbered of k ran at =
    let o = of k ran at in
    let d : ℕ × Deposit = (suc k, o.0) in
    let logged = subst (λ l. In d l) gathered.1 (in_more d found left o.1) in
    let who = in_part d gathered.0 logged in
    let j = published_for b supply ws jobs rest d gathered.0 done s gathered.2 gathered.3 who.0 who.1 in
    let among : In (1 + k, j.0) jobs = subst (λ (n : ℕ). In (n, j.0) jobs) (omega arith) j.1 in
    (j.0, subst (λ (n : ℕ). slice_get jobs k ≡ Some (n, j.0)) (omega arith) (job_at plan limit 1 first k jobs j.0 numbered among), result_of supply j.0 o.0 ran j.2 o.2)

-- results that each have a job aren't more than jobs
no_more : (supply : Supplied) (jobs : List (ℕ × Job)) (results : List Ran) → HaveJobs supply jobs results → length results ≤ length jobs
no_more supply jobs results are = bound (length results) jobs results refl (λ k ran e. let a = are k ran e in (a.0, suc k, a.1)) where
  HaveSome : List (ℕ × Job) → List Ran → Type 0
  HaveSome jobs results = (k : ℕ) (ran : Ran) → slice_get results k ≡ Some ran → (job : Job) × (n : ℕ) × (slice_get jobs k ≡ Some (n, job))

  none_some : {A : Type 0} {a : A} → None ≡ Some a → ⊥
  none_some h = cc

  bound : (n : ℕ) (jobs : List (ℕ × Job)) (results : List Ran) → n ≡ length results → HaveSome jobs results → length results ≤ length jobs
  bound n jobs [] e have = omega arith
  bound n [] (r ∷ rs) e have = absurd (none_some (have 0 r refl).2)
  bound zero (j ∷ js) (r ∷ rs) e have = absurd (omega (arith, e))
  bound (suc n) (j ∷ js) (r ∷ rs) e have = let b = bound n js rs (omega (arith, e)) (λ k ran h. have (suc k) ran h) in omega (arith, b)

one_count : (counts : List ℕ) (n at : ℕ) → (counts ≡ []) ⊎ (counts ≡ n ∷ []) → IsAfterAll at counts → n ≤ at
one_count counts n at (inl e) b = absurd (subst (λ l. In b.0 l) e b.1)
one_count counts n at (inr e) b = is (subst (λ l. In b.0 l) e b.1) where
  is : In b.0 (n ∷ []) → n ≤ at
  is (inl same) = let few = b.2 in omega (arith, same, few)
  is (inr h) = absurd h

not_true : (b : Bool) → (b ≡ true → ⊥) → b ≡ false
not_true true never = absurd (never refl)
not_true false never = refl

module _ {Q T : Type 0} (tells : Q → Tells) (takes : T → Ran → More → T → Type 0) where
  nothing_told : (told : Option (List Offer)) (plan : Plan) (racer : Q) → (offers : List Offer) × (length offers < plan.jobs) × IfTold told (λ list. (racer ≡ racer) × (offers ≡ offers_within plan list))
  nothing_told None plan racer = ([], plan.some_jobs, tt)
  nothing_told (Some list) plan racer = (offers_within plan list, fewer plan.jobs list plan.some_jobs, (refl, refl))

  -- a round that didn't begin
  pub nothing_done : (supply : Supplied) (plan : Plan) (start : State) (racer : Q) (taker : T) (error : OutOfMemory) → Streamed tells takes supply plan start racer racer taker taker (Err error)
  nothing_done supply plan start racer taker error = let n = nothing_told (tells racer start supply plan) plan racer in record {
    offers = n.0;
    jobs = [];
    results = [];
    few = n.1;
    first = tt;
    are_jobs = tt;
    have_jobs = λ k ran e. absurd (nothing k ran e);
    told = n.2;
    ended = inl refl;
  } where
    none_some : {A : Type 0} {a : A} → None ≡ Some a → ⊥
    none_some h = cc

    nothing : (k : ℕ) (ran : Ran) → slice_get [] k ≡ Some ran → ⊥
    nothing zero ran e = none_some e
    nothing (suc k) ran e = none_some e

  told_both : (told : Option (List Offer)) (racer after : Q) (plan : Plan) (offers : List Offer) → IfTold told (λ list. after ≡ racer) → IfTold told (λ list. offers ≡ offers_within plan list) → IfTold told (λ list. (after ≡ racer) × (offers ≡ offers_within plan list))
  told_both None racer after plan offers same within = tt
  told_both (Some list) racer after plan offers same within = (same, within)

  how_ended : (offers : List Offer) (jobs : List (ℕ × Job)) (results : List Ran) (taker after : T) (end : Result More OutOfMemory) (answer both : Result (Unit {0}) OutOfMemory)
      → Took takes taker results after end → (end ≡ Ok Yes → answer ≡ Ok tt → IsWhole offers jobs results)
      → both ≡ and_then end answer → HasEnded takes offers jobs results taker after both
  how_ended offers jobs results taker after (Ok Yes) (Ok done) both took whole is = subst (λ r. HasEnded takes offers jobs results taker after r) (sym is) (inl (took, whole refl refl))
  how_ended offers jobs results taker after (Ok Yes) (Err e) both took whole is = subst (λ r. HasEnded takes offers jobs results taker after r) (sym is) (inl took)
  how_ended offers jobs results taker after (Ok Enough) (Ok done) both took whole is = subst (λ r. HasEnded takes offers jobs results taker after r) (sym is) (inr took)
  how_ended offers jobs results taker after (Ok Enough) (Err e) both took whole is = subst (λ r. HasEnded takes offers jobs results taker after r) (sym is) (inr took)
  how_ended offers jobs results taker after (Err e) answer both took whole is = subst (λ r. HasEnded takes offers jobs results taker after r) (sym is) (inl took)

  pub round_done : (b : Board Job Deposit) (supply : Supplied) (plan : Plan) (start : State) (racer : Q) (taker after : T) (c : Collector Deposit) (end : Result More OutOfMemory)
      (raced : RaceEnd Q (Receipt Job Deposit)) (ws : List (Worker Job Deposit)) (rest : List (ℕ × Job)) (left : List (ℕ × Deposit)) (both : Result (Unit {0}) OutOfMemory)
      → HasFinished tells takes b racer start supply plan taker after c end raced ws
      → InterleavesTo (was_published raced.receipt) (map (λ (w : Worker Job Deposit). claimed w) ws) rest
      → IsInterleaving (map (λ (w : Worker Job Deposit). deposited w) ws) (collected c ++ left)
      → (counts c ≡ []) ⊎ (counts c ≡ length (was_published raced.receipt) ∷ [])
      → both ≡ and_then end raced.answer
      → Streamed tells takes supply plan start racer raced.racer taker after both
  round_done b supply plan start racer taker after c end raced ws rest left both f shared gathered counted both_is =
      let jobs = was_published raced.receipt in
      let m = f.has_raced.made in
      let for = taken_for b supply ws jobs rest (collected c) left f.results plan (start.steps + plan.left) plan.first f.are_done shared gathered m.are_jobs f.are_of in
      record {
        offers = m.offers;
        jobs = jobs;
        results = f.results;
        few = m.few;
        first = m.first;
        are_jobs = m.are_jobs;
        have_jobs = for;
        told = told_both (tells racer start supply plan) racer raced.racer plan m.offers f.has_raced.same m.within;
        ended = how_ended m.offers jobs f.results taker after end raced.answer both f.took
            (λ (yes : end ≡ Ok Yes) (ok : raced.answer ≡ Ok tt).
            let most = no_more supply jobs f.results for in
            let least = one_count (counts c) (length jobs) (length f.results) counted (f.all yes) in
            record {
              all = omega (arith, most, least);
              last = m.all ok (not_true raced.stopped (f.unstopped yes));
            }) both_is;
      }
