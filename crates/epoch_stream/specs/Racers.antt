-- What a racer leaves, and a racer that was started. This project's own.
use Rattle.std.specs.Prelude.{◌≡◌, ◌<◌, ◌+◌, ℕ, suc, Bool, true, false, Option, List, length, Result, Ok}
use Rattle.dp_base.specs.declared.out_of_memory.OutOfMemory.{OutOfMemory}
use Rattle.job_board.specs.declared.board.Board.{Board}
use Rattle.job_board.specs.declared.pass.Publisher.{Publisher}
use Rattle.job_board.specs.declared.pass.Receipt.{Receipt}
use Rattle.job_board.specs.Passes.{IsReceiptOf, was_published}
use Rattle.stop_word.specs.declared.stop_word.StopWord.{StopWord}
use Rattle.stop_word.specs.Seats.{IsWatcherOf, has_seen}
use Rattle.epoch_pool.specs.declared.job.Job.{Job}
use Rattle.guest_kernel.specs.declared.state.State.{State}
use Rattle.racing_runner.specs.declared.plan.Plan.{Plan}
use Rattle.racing_runner.specs.declared.offer.Offer.{Offer}
use Rattle.racing_runner.specs.Offers.{IfTold, Tells}
use Rattle.supply.specs.Supplied.{Supplied}
use Rattle.epoch_stream.specs.declared.deposit.Deposit.{Deposit}
use Rattle.epoch_stream.specs.declared.racer_part.Racing.{Racing}
use Rattle.epoch_stream.specs.declared.racer_part.RaceEnd.{RaceEnd}
use Rattle.epoch_stream.specs.declared.racer_part.Raced.{Raced}
use Rattle.epoch_stream.specs.declared.promises.Racers.{Racers}
use Rattle.epoch_stream.specs.declared.promises.Racers.TheVariants.{There, Here}
use Rattle.epoch_stream.specs.Offers.{AreFirstOf, AreJobs, offers_within}

-- These jobs were made by a plan. They are the first ones of a round with these offers, and all of them after an Ok,
-- unless the racer was stopped. If the racer's offers are known, these are the first of them, up to the plan's jobs.
pub record AreMade (told : Option (List Offer)) (plan : Plan) (start : State) (jobs : List (ℕ × Job)) (stopped : Bool) (answer : Result (Unit {0}) OutOfMemory) : Type 0 where
  pub offers : List Offer
  pub few : length offers < plan.jobs
  pub first : AreFirstOf start offers jobs
  pub are_jobs : AreJobs plan (start.steps + plan.left) 1 plan.first jobs
  pub all : answer ≡ Ok tt → stopped ≡ false → length jobs ≡ suc (length offers)
  pub within : IfTold told (λ list. offers ≡ offers_within plan list)

module _ {Q : Type 0} where
  -- A racer has published jobs that are made of its offers. If they are known, the racer is left as it was.
  pub record HasRaced (tells : Q → Tells) (b : Board Job Deposit) (racer : Q) (start : State) (supply : Supplied) (plan : Plan) (r : RaceEnd Q (Receipt Job Deposit)) : Type 0 where
    pub receipt : IsReceiptOf b r.receipt
    pub made : AreMade (tells racer start supply plan) plan start (was_published r.receipt) r.stopped r.answer
    pub same : IfTold (tells racer start supply plan) (λ list. r.racer ≡ racer)

  -- the same of what its thread was given and left, and whether it saw the stop
  pub record HasReturned (tells : Q → Tells) (b : Board Job Deposit) (s : StopWord) (given : Racing Q (Publisher Job Deposit)) (supply : Supplied) (plan : Plan) (r : Raced Q (Receipt Job Deposit)) : Type 0 where
    pub watcher : IsWatcherOf s r.watcher
    pub seen : r.end.stopped ≡ true → has_seen r.watcher ≡ true
    pub raced : HasRaced tells b given.racer given.start supply plan r.end

  abbrev pub IsRacing : (tells : Q → Tells) → Board Job Deposit → StopWord → Racing Q (Publisher Job Deposit) → Supplied → Plan → Racers Q → Type 0
  IsRacing tells b s given supply plan (There h) = (h.promise.board.value ≡ b) × (h.promise.stop.value ≡ s) × (h.promise.racing.value ≡ given) × (h.promise.supply.value ≡ supply) × (h.promise.plan.value ≡ plan)
  IsRacing tells b s given supply plan (Here r) = HasReturned tells b s given supply plan r
