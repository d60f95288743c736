-- The jobs of a round: where each starts, how far it may go, and what became of it. This project's own.
use Rattle.std.specs.Prelude.{◌≡◌, ◌<◌, ◌-◌, min, ℕ, ⊤, List, [], ◌∷◌, length, take}
use Rattle.std.proofs.Math.Nat.{le_trans, min-le_left}
use Rattle.epoch_runner.specs.declared.bounds.Bounds.{Bounds}
use Rattle.epoch_runner.specs.declared.epoch_run.Ran.{Ran}
use Rattle.epoch_runner.specs.Running.{HasRun}
use Rattle.guest_kernel.specs.declared.state.State.{State}
use Rattle.racing_runner.specs.declared.offer.Offer.{Offer}
use Rattle.racing_runner.specs.declared.plan.Plan.{Plan}
use Rattle.racing_runner.specs.Offers.{IfTold, Tells}
use Rattle.recorder.specs.declared.options.Options.{Options}
use Rattle.supply.specs.Supplied.{Supplied}
use Rattle.sync_hints.specs.declared.hints.Hints.{Hints}
use Rattle.sync_hints.specs.NoHints.{no_hints}

-- the most steps of an epoch that starts here; none if the start has passed the limit
abbrev pub epoch_steps : Options → State → ℕ
epoch_steps options s = min options.epoch (options.limit - s.steps)

-- how far an epoch that starts here may go, and which thread is tried first
abbrev pub job_bounds : Options → (first : ℕ) → State → Bounds
job_bounds options first s = record {
  steps = epoch_steps options s;
  slice = options.slice;
  first = first;
  few_steps = le_trans (min-le_left options.epoch (options.limit - s.steps)) options.epoch_range.1;
  some_slice = options.slice_range.0;
}

-- the plan of a round
abbrev pub plan_of : Options → (first : ℕ) → State → Plan
plan_of options first s = record {
  epoch = options.epoch;
  slice = options.slice;
  jobs = options.ahead;
  left = options.limit - s.steps;
  first = first;
  some_steps = options.epoch_range.0;
  few_steps = options.epoch_range.1;
  some_slice = options.slice_range.0;
  some_jobs = options.ahead_range.0;
  few_jobs = options.ahead_range.1;
}

-- ---- the results of a round

-- What became of the first jobs of a round with a supply: one result each, in order. Job 1 starts in this state, each
-- other one in the state of an offer. The hints of a job are those of the offer that ends it, and the last job has
-- none. After job 1 the first thread is sought from 1 on.
abbrev pub AreResults : Options → (first : ℕ) → State → List Offer → Supplied → List Ran → Type 0
AreResults options first s offers w [] = ⊤
AreResults options first s [] w (x ∷ []) = HasRun s no_hints w (job_bounds options first s) x
AreResults options first s [] w (x ∷ y ∷ results) = ⊥
AreResults options first s (o ∷ offers) w (x ∷ results) = HasRun s o.hints w (job_bounds options first s) x × AreResults options 1 o.next offers w results

-- These are the first results of a round from a state, with its supply and the thread that is tried first, by a racer.
-- If the racer's offers are known, the round has the first of them, one for each job but job 1, and they are the same
-- afterwards.
pub record IsRaced (tells : Tells) (options : Options) (first : ℕ) (s : State) (w : Supplied) (results : List Ran) (after : Tells) : Type 0 where
  pub offers : List Offer
  pub told : IfTold (tells s w (plan_of options first s)) (λ list. offers ≡ take (options.ahead - 1) list)
  pub same : IfTold (tells s w (plan_of options first s)) (λ list. after ≡ tells)
  pub few : length offers < options.ahead
  pub are_results : AreResults options first s offers w results
