-- A round of one job.
use Rattle.std.proofs.Common.{◌≡◌, ◌⊎◌, inl, inr, ℕ, zero, suc, ◌+◌, ◌-◌, List, [], ◌∷◌, length, slice_get, take, Option, Some, None, Result, Ok, Err, refl, sym, ap, subst, ◌∙◌, arith}
use Rattle.dp_base.specs.declared.out_of_memory.OutOfMemory.{OutOfMemory}
use Rattle.epoch_pool.specs.declared.job.Job.{Job}
use Rattle.epoch_runner.specs.declared.epoch_run.EpochRun.{EpochRun}
use Rattle.epoch_runner.specs.declared.epoch_run.Ran.{Ran}
use Rattle.epoch_runner.specs.declared.epoch_run.Ran.TheVariants.{Epoch}
use Rattle.guest_kernel.specs.declared.state.State.{State}
use Rattle.racing_runner.specs.declared.offer.More.{More}
use Rattle.racing_runner.specs.declared.offer.More.TheVariants.{Enough, Yes}
use Rattle.racing_runner.specs.declared.offer.Offer.{Offer}
use Rattle.racing_runner.specs.declared.plan.Plan.{Plan}
use Rattle.racing_runner.specs.Offers.{IfTold, Tells}
use Rattle.supply.specs.Supplied.{Supplied}
use Rattle.sync_hints.specs.NoHints.{no_hints}
use Rattle.epoch_stream.specs.Offers.{bounds_for, offers_within}
use Rattle.epoch_stream.specs.Results.{IsResultOf}
use Rattle.epoch_stream.specs.Streams.{HasEnded, HaveJobs, Streamed}

told_none : {Q : Type 0} (racer : Q) (plan : Plan) → plan.jobs ≡ 1 → (o : Option (List Offer)) → IfTold o (λ list. (racer ≡ racer) × ([] ≡ offers_within plan list))
told_none racer plan one None = tt
told_none racer plan one (Some list) = let none : 0 ≡ plan.jobs - 1 = omega (arith, one) in (refl, ap (λ n. take n list) none)

have_one : (supply : Supplied) (job : Job) (ran : Ran) → IsResultOf supply job ran → HaveJobs supply ((1, job) ∷ []) (ran ∷ [])
have_one supply job ran is zero x e = let same : ran ≡ x = cc in (job, refl, subst (IsResultOf supply job) same is)
have_one supply job ran is (suc k) x e = absurd cc

-- an epoch starts where its job does
pub starts_there : (supply : Supplied) (job : Job) (ran : Ran) (run : EpochRun) → IsResultOf supply job ran → ran ≡ Epoch run → run.start ≡ job.start
starts_there supply job ran run is same = (subst (IsResultOf supply job) same is).from

module _ {Q T : Type 0} (tells : Q → Tells) (takes : T → Ran → More → T → Type 0) (supply : Supplied) (plan : Plan) (start : State) (racer : Q) (taker after : T) (one : plan.jobs ≡ 1) where
  -- it was taken
  pub one_done : (job : Job) (ran : Ran) (more : More) → job.start ≡ start → job.hints ≡ no_hints → job.index ≡ 1 → job.bounds ≡ bounds_for plan (start.steps + plan.left) plan.first start → IsResultOf supply job ran → takes taker ran more after
      → Streamed tells takes supply plan start racer racer taker after (Ok tt)
  one_done job ran more starts hints index bounds is took = record {
    offers = [];
    jobs = (1, job) ∷ [];
    results = ran ∷ [];
    few = omega (arith, one);
    first = (starts, hints);
    are_jobs = (refl, index, bounds ∙ ap (bounds_for plan (start.steps + plan.left) plan.first) (sym starts), tt);
    have_jobs = have_one supply job ran is;
    told = told_none racer plan one (tells racer start supply plan);
    ended = by more took;
  }
    where
      by : (m : More) → takes taker ran m after → HasEnded takes [] ((1, job) ∷ []) (ran ∷ []) taker after (Ok tt)
      by Yes took = inl ((after, took, refl), record { all = refl; last = refl })
      by Enough took = inr (record { before = []; last = ran; middle = taker; results_are = refl; went_on = refl; took = took })

  -- memory ran out
  pub none_done : (error : OutOfMemory) → taker ≡ after → Streamed tells takes supply plan start racer racer taker after (Err error)
  none_done error same = record {
    offers = [];
    jobs = [];
    results = [];
    few = omega (arith, one);
    first = tt;
    are_jobs = tt;
    have_jobs = λ k ran e. absurd cc;
    told = told_none racer plan one (tells racer start supply plan);
    ended = inl same;
  }
