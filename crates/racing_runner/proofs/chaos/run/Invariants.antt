use Rattle.std.proofs.Common.{◌-◌}
use Rattle.racing_runner.specs.Chaos.{offers}
use Rattle.racing_runner.proofs.Offering.{IsUnderway}
use Rattle.racing_runner.proofs.chaos.run.Given as goal

pub record IsRunning (Ready Goes Underway : Type 0) : Type 0 where
  pub ready : Ready
  pub goes : Goes
  pub underway : Underway

abbrev pub invariant-loop-place : goal.invariant-loop-place
invariant-loop-place g l = IsRunning (g.K.JobSink.ready l.sink) (g.K.JobSink.goes l.fn.sink l.sink)
    (IsUnderway (g.K.JobSink.got l.fn.sink) (g.K.JobSink.got l.sink) (offers (l.fn.plan.jobs - 1) l.fn.racer.number 1 l.fn.supply l.fn.plan l.fn.plan.left l.fn.start) l.fn.racer.number l.place l.fn.supply l.fn.plan l.left l.state)
