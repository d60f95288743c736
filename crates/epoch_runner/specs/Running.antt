-- What a run of an epoch answers. This machine's own.
use Rattle.std.specs.Prelude.{◌≡◌, ◌<◌, ◌+◌, ℕ, List, [], false, true, Ok, ◌⊎◌}
use Rattle.dp_base.specs.Journal.{IsBody, IsEpoch, epoch_body, steps_of}
use Rattle.dp_base.specs.Journal as journals
use Rattle.epoch_record.specs.Epoch.{epoch_of}
use Rattle.guest_kernel.specs.declared.state.State.{State}
use Rattle.guest_kernel.specs.Slices.{new_after, run}
use Rattle.epoch_runner.specs.declared.bounds.Bounds.{Bounds}
use Rattle.epoch_runner.specs.declared.epoch_run.EpochRun.{EpochRun}
use Rattle.epoch_runner.specs.declared.epoch_run.Ran.{Ran}
use Rattle.epoch_runner.specs.declared.epoch_run.Ran.TheVariants as answers
use Rattle.epoch_runner.specs.Answering.{can_step}
use Rattle.epoch_runner.specs.Schedule.{IsScheduled}
use Rattle.supply.specs.Supplied.{Supplied}
use Rattle.sync_hints.specs.declared.hints.Hints.{Hints}

-- an epoch that has a record, run from a state to another, with what it wrote
pub record IsRunOf (start : State) (e : journals.Epoch) (output : List ℕ) (end : State) : Type 0 where
  pub ran : run e.slices (new_after start [] e.answers) ≡ Ok (new_after end output [])
  pub counted : end.steps ≡ start.steps + steps_of e.slices
  pub is_epoch : IsEpoch e
  pub fits : IsBody (epoch_body e)

-- the epoch of a state within bounds, with hints and a supply: it is run by the schedule, and has a step
pub record HasRunEpoch (start : State) (hints : Hints) (w : Supplied) (bounds : Bounds) (r : EpochRun) : Type 0 where
  pub from : r.start ≡ start
  pub some_steps : 0 < bounds.steps
  pub could_step : can_step start w ≡ true
  pub scheduled : IsScheduled start hints w bounds (epoch_of r.epoch) r.out r.end
  pub runs : IsRunOf start (epoch_of r.epoch) r.out r.end

-- if there is nothing to run: the bounds give no step, or the guest can't take one
pub record HasIdled (start : State) (w : Supplied) (bounds : Bounds) (s : State) : Type 0 where
  pub same : s ≡ start
  pub why : (bounds.steps ≡ 0) ⊎ (can_step start w ≡ false)

abbrev pub HasRun : State → Hints → Supplied → Bounds → Ran → Type 0
HasRun start hints w bounds (answers.Epoch r) = HasRunEpoch start hints w bounds r
HasRun start hints w bounds (answers.Idle s) = HasIdled start w bounds s
