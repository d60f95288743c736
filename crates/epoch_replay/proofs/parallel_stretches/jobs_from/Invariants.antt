use Rattle.checkpoint.specs.State.{IsEncodable}
use Rattle.epoch_replay.specs.Stretches.{AreBefore, ArePartJobs, IsStretch}
use Rattle.epoch_replay.proofs.parallel_stretches.jobs_from.Given as goal

abbrev pub invariant-jobs : goal.invariant-jobs
invariant-jobs l = record {
  jobs : ArePartJobs l.file l.jobs.items;
  stretch : IsStretch l.file l.stretch;
  start : IsEncodable l.stretch.start;
  before : AreBefore l.jobs.items l.stretch;
}
