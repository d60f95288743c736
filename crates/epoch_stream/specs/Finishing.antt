-- What the threads of a round leave. This project's own.
use Rattle.std.specs.Prelude.{◌≡◌, true, List, length, Result, Ok}
use Rattle.dp_base.specs.declared.out_of_memory.OutOfMemory.{OutOfMemory}
use Rattle.job_board.specs.declared.board.Board.{Board}
use Rattle.job_board.specs.declared.pass.Receipt.{Receipt}
use Rattle.job_board.specs.declared.pass.Worker.{Worker}
use Rattle.job_board.specs.declared.pass.Collector.{Collector}
use Rattle.job_board.specs.Passes.{IsCollectorOf, collected, counts}
use Rattle.epoch_pool.specs.declared.job.Job.{Job}
use Rattle.epoch_runner.specs.declared.epoch_run.Ran.{Ran}
use Rattle.guest_kernel.specs.declared.state.State.{State}
use Rattle.supply.specs.Supplied.{Supplied}
use Rattle.racing_runner.specs.declared.plan.Plan.{Plan}
use Rattle.racing_runner.specs.declared.offer.More.{More}
use Rattle.racing_runner.specs.declared.offer.More.TheVariants.{Yes}
use Rattle.racing_runner.specs.Offers.{Tells}
use Rattle.epoch_stream.specs.declared.deposit.Deposit.{Deposit}
use Rattle.epoch_stream.specs.declared.racer_part.RaceEnd.{RaceEnd}
use Rattle.epoch_stream.specs.Deposits.{AreOf}
use Rattle.epoch_stream.specs.Racers.{HasRaced}
use Rattle.epoch_stream.specs.Rounds.{AreDone}
use Rattle.epoch_stream.specs.Takes.{IsAfterAll, Took}

-- The taker took results of deposits that were collected, the racer has raced, and the workers are done. If all results
-- were taken, nothing was stopped.
pub record HasFinished {Q T : Type 0} (tells : Q → Tells) (takes : T → Ran → More → T → Type 0) (b : Board Job Deposit) (racer : Q) (start : State) (supply : Supplied) (plan : Plan) (taker after : T) (c : Collector Deposit) (end : Result More OutOfMemory) (raced : RaceEnd Q (Receipt Job Deposit)) (workers : List (Worker Job Deposit)) : Type 0 where
  pub is_collector : IsCollectorOf b c
  pub results : List Ran
  pub took : Took takes taker results after end
  pub are_of : AreOf supply (collected c) results
  pub all : end ≡ Ok Yes → IsAfterAll (length results) (counts c)
  pub has_raced : HasRaced tells b racer start supply plan raced
  pub unstopped : end ≡ Ok Yes → raced.stopped ≡ true → ⊥
  pub are_done : AreDone b supply 1 workers
  pub each : length workers ≡ b.workers
