-- What a round is given, and what it leaves. This project's own.
use Rattle.std.specs.Prelude.{◌≡◌, ◌⊎◌, ◌+◌, ℕ, suc, ◌≤◌, ◌<◌, false, List, [], Option, Some, length, slice_get, None, vec_capacity, Result, Ok, Err}
use Rattle.dp_base.specs.declared.limits.TheConstants.{MAX_JOBS, MAX_WORKERS}
use Rattle.dp_base.specs.declared.out_of_memory.OutOfMemory.{OutOfMemory}
use Rattle.job_board.specs.declared.board.Board.{Board}
use Rattle.job_board.specs.Passes.{IsCollectorOf, IsPublisherOf, collected, published}
use Rattle.stop_word.specs.declared.stop_word.StopWord.{StopWord}
use Rattle.stop_word.specs.Seats.{IsStopperOf, IsWatcherOf, has_stopped}
use Rattle.epoch_pool.specs.declared.job.Job.{Job}
use Rattle.guest_kernel.specs.declared.state.State.{State}
use Rattle.supply.specs.Supplied.{Supplied}
use Rattle.racing_runner.specs.declared.plan.Plan.{Plan}
use Rattle.racing_runner.specs.declared.offer.Offer.{Offer}
use Rattle.racing_runner.specs.declared.offer.More.{More}
use Rattle.racing_runner.specs.Offers.{IfTold, Tells}
use Rattle.epoch_runner.specs.declared.epoch_run.Ran.{Ran}
use Rattle.epoch_stream.specs.declared.deposit.Deposit.{Deposit}
use Rattle.epoch_stream.specs.declared.round_parts.RoundParts.{RoundParts}
use Rattle.epoch_stream.specs.declared.round_parts.SetUp.{SetUp}
use Rattle.epoch_stream.specs.Results.{IsResultOf}
use Rattle.epoch_stream.specs.Offers.{AreFirstOf, AreJobs, offers_within}
use Rattle.epoch_stream.specs.Takes.{HadEnough, WentOn}
use Rattle.epoch_stream.specs.Rounds.{ArePasses}

-- none of these is there
abbrev pub IsBlank : {A : Type 0} → List (Option A) → Type 0
IsBlank {A} ws = (i : ℕ) (a : A) → slice_get ws i ≡ Some (Some a) → ⊥

pub record AreRoundParts (b : Board Job Deposit) (s : StopWord) (r : RoundParts) : Type 0 where
  pub stopper : IsStopperOf s r.stopper
  pub unsaid : has_stopped r.stopper ≡ false
  pub collector : IsCollectorOf b r.tray.collector
  pub waiting : IsBlank r.tray.waiting.items
  pub few_results : length r.tray.waiting.items ≤ MAX_JOBS
  pub nothing : collected r.tray.collector ≡ []
  pub uncounted : r.tray.count ≡ None
  pub passes : ArePasses b s 1 r.passes.items
  pub few : length r.passes.items ≤ MAX_WORKERS
  pub all : length r.passes.items ≡ b.workers
  pub started : r.started.items ≡ []
  pub started_room : length r.passes.items ≤ vec_capacity r.started
  pub workers : r.workers.items ≡ []
  pub workers_room : length r.passes.items ≤ vec_capacity r.workers

pub record IsSetUp (start : State) (jobs : ℕ) (s : SetUp) : Type 0 where
  pub start_is : s.start ≡ start
  pub room : s.board.limit ≡ jobs
  pub publisher : IsPublisherOf s.board s.publisher
  pub nothing : published s.publisher ≡ []
  pub watcher : IsWatcherOf s.stop s.watcher
  pub ready : AreRoundParts s.board s.stop s.ready

-- each result is of the job at its place, with this supply
abbrev pub HaveJobs : Supplied → List (ℕ × Job) → List Ran → Type 0
HaveJobs supply jobs results = (k : ℕ) (ran : Ran) → slice_get results k ≡ Some ran → (job : Job) × (slice_get jobs k ≡ Some (suc k, job)) × IsResultOf supply job ran

-- All jobs had their results taken, the one that no offer ended too.
pub record IsWhole (offers : List Offer) (jobs : List (ℕ × Job)) (results : List Ran) : Type 0 where
  pub all : length results ≡ length jobs
  pub last : length jobs ≡ suc (length offers)

-- the second answer, unless the first one is a fault
abbrev pub and_then : Result More OutOfMemory → Result (Unit {0}) OutOfMemory → Result (Unit {0}) OutOfMemory
and_then (Ok more) answer = answer
and_then (Err error) answer = Err error

-- How a round ended: with all jobs, or the taker had enough, or memory ran out.
abbrev pub HasEnded : {T : Type 0} → (T → Ran → More → T → Type 0) → List Offer → List (ℕ × Job) → List Ran → T → T → Result (Unit {0}) OutOfMemory → Type 0
HasEnded takes offers jobs results taker after (Ok done) = (WentOn takes taker results after × IsWhole offers jobs results) ⊎ HadEnough takes taker results after
HasEnded takes offers jobs results taker after (Err error) = WentOn takes taker results after ⊎ HadEnough takes taker results after

-- A round from a state, with a supply, by a plan: its jobs are numbered from 1 on, and they are the first ones of a
-- round with these offers. The taker took the results of the first of them, in order. If the racer's offers are known,
-- these are the first of them, up to the plan's jobs, and the racer is left as it was.
pub record Streamed {Q T : Type 0} (tells : Q → Tells) (takes : T → Ran → More → T → Type 0) (supply : Supplied) (plan : Plan) (start : State) (racer racer_after : Q) (taker taker_after : T) (answer : Result (Unit {0}) OutOfMemory) : Type 0 where
  pub offers : List Offer
  pub jobs : List (ℕ × Job)
  pub results : List Ran
  pub few : length offers < plan.jobs
  pub first : AreFirstOf start offers jobs
  pub are_jobs : AreJobs plan (start.steps + plan.left) 1 plan.first jobs
  pub have_jobs : HaveJobs supply jobs results
  pub told : IfTold (tells racer start supply plan) (λ list. (racer_after ≡ racer) × (offers ≡ offers_within plan list))
  pub ended : HasEnded takes offers jobs results taker taker_after answer
