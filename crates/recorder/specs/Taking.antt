-- What a committer does with a result of its round. This serves the contracts of the crate's own steps. This project's
-- own.
use Rattle.std.specs.Prelude.{◌≡◌, ◌≤◌, ◌+◌, ℕ, true, Option, Some, length, slice_get, Result, Ok, Err}
use Rattle.commit_core.specs.Judging.{Core}
use Rattle.dp_base.specs.Counts.{Rose}
use Rattle.dp_base.specs.declared.out_of_memory.OutOfMemory.{OutOfMemory}
use Rattle.disk_model.specs.History.{History}
use Rattle.epoch_journal.specs.Standing.{Journal}
use Rattle.epoch_runner.specs.declared.epoch_run.Ran.{Ran}
use Rattle.racing_runner.specs.declared.offer.More.{More}
use Rattle.racing_runner.specs.declared.offer.More.TheVariants.{Yes, Enough}
use Rattle.recorder.specs.declared.record_fault.RecordFault.{RecordFault}
use Rattle.recorder.specs.declared.record_fault.RecordFault.TheVariants as faults
use Rattle.recorder.specs.declared.tally.AfterJudging.{AfterJudging}
use Rattle.recorder.specs.declared.tally.AfterJudging.TheVariants.{Committed, Squashed, Over}
use Rattle.recorder.specs.declared.tally.Tally.{Tally}
use Rattle.recorder.specs.Faults.{RecordMetNoOther}
use Rattle.recorder.specs.Keeping.{InRound, StepSays, Within}

-- what a committer holds: what is known of the world, the faults of its disk and of its sink, and what was committed; a
-- mark is due after so many epochs
pub record Holding : Type 0 where
  pub history : Option History
  pub disk : ℕ
  pub sink : ℕ
  pub core : Core
  pub journal : Journal
  pub tally : Tally
  pub every : ℕ

-- it takes more exactly if the result was committed
abbrev pub more_after : Result AfterJudging RecordFault → More
more_after (Ok Committed) = Yes
more_after (Ok Squashed) = Enough
more_after (Ok Over) = Enough
more_after (Err fault) = Enough

-- A result was judged, with this outcome. If it is the next one of the round, this holds then.
pub record HasTaken (h : Holding) (ran : Ran) (more : More) (there : Holding) (last : Result AfterJudging RecordFault) : Type 0 where
  pub says : (a : InRound) → a.setting.options.mark ≡ h.every → Within true a h.history h.core h.journal h.tally → slice_get a.results (length h.core.jobs) ≡ Some ran
      → StepSays a there.history there.core there.journal there.tally last
  pub count : last ≡ Ok Committed → (length there.core.jobs ≡ length h.core.jobs + 1) × (there.core.judged ≡ length there.core.jobs)
  pub every : there.every ≡ h.every
  pub more_is : more ≡ more_after last
  pub others : (input : ℕ) → RecordMetNoOther last h.disk there.disk h.sink there.sink input input
  pub no_input : last ≡ Err faults.InputFault → ⊥
  pub disk_cause : last ≡ Err faults.DiskFault → Rose h.disk there.disk
  pub sink_cause : last ≡ Err faults.OutputFault → Rose h.sink there.sink
  pub disk_count : h.disk ≤ there.disk
  pub sink_count : h.sink ≤ there.sink

-- how many results a round has squashed, or why the recording stops
abbrev pub taking_outcome : Result AfterJudging RecordFault → Result (Unit {0}) OutOfMemory → Result ℕ RecordFault
taking_outcome (Ok Committed) (Ok done) = Ok 0
taking_outcome (Ok Committed) (Err error) = Err faults.OutOfMemory
taking_outcome (Ok Squashed) answer = Ok 1
taking_outcome (Ok Over) answer = Ok 0
taking_outcome (Err fault) answer = Err fault
