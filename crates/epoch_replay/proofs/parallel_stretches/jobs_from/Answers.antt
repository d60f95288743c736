use Rattle.std.proofs.Common.{None, Some, ap, subst}
use Rattle.epoch_replay.specs.Stretches.{IsBegun}
use Rattle.epoch_replay.proofs.Links.{before_one_more, linked_one_more, parts_more}
use Rattle.epoch_replay.proofs.parallel_stretches.jobs_from.Goals as goal

pub jobs-preserved : goal.jobs-preserved
jobs-preserved c =
    let l = c.jobs in
    let i = l.invariant in
    let more = c.in_ok-push_job.ensures in
    let begun : IsBegun c.args.file.now (Some c.in-Some-2.after) = subst (IsBegun c.args.file.now) c.in-Some-2.is c.in_ok-after.ensures in
    record {
      jobs = parts_more l.jobs.items c.push_job.new.jobs.items l.stretch _ more c.args.file.now i.jobs i.stretch;
      stretch = begun.0;
      start = begun.1;
      before = before_one_more l.jobs.items c.push_job.new.jobs.items l.stretch _ more c.in-Some-2.after i.before (ap Some c.in_ok-start_at.ensures);
    }

pub returns-clause-linked : goal.returns-clause-linked
returns-clause-linked c = linked_one_more c.jobs.jobs.items c.push_job-2.new.jobs.items c.jobs.stretch None c.in_ok-push_job-2.ensures c.jobs.invariant.before
