use Rattle.std.proofs.Common.{inl, inr, refl, ap, sym, ◌∙◌, arith, length, ◌+◌}
use Rattle.job_board.specs.Passes.{published}
use Rattle.epoch_stream.specs.Offers.{bounds_for}
use Rattle.epoch_stream.proofs.Jobs.{behind_more, count_more, jobs_step, offered}
use Rattle.epoch_stream.proofs.racer_part.DeskJobSink.offer.Goals as goal

pub returns-then-self-3-clause-ready : goal.returns-then-self-3-clause-ready
returns-then-self-3-clause-ready g c =
    let more = c.publish.ensures.published in let job = c.job_of-job.ensures in let below = c.if-self-2.false in let plan = c.args.self.now.plan in let limit = c.args.self.now.limit in record {
      publisher = c.publish.ensures.pass;
      watcher = c.requires.watcher;
      count = count_more _ _ _ _ c.requires.count more;
      few = omega (arith, below);
      room = c.requires.room;
      seen = c.requires.seen;
      jobs = jobs_step plan limit plan.first c.args.self.now.first c.args.self.now.index _ _ (length (published c.args.self.now.publisher) + 1, c.job_of-job.result) c.requires.jobs more c.requires.count refl job.index c.requires.first_is
          (job.bounds ∙ ap (bounds_for plan limit c.args.self.now.first) (sym job.start));
      first_is = behind_more plan.first _ _ _ more;
    }

pub returns-then-is_stopped-clause-ready : goal.returns-then-is_stopped-clause-ready
returns-then-is_stopped-clause-ready g c =
    let more = c.publish.ensures.published in let job = c.job_of-job.ensures in let below = c.if-self-2.false in let plan = c.args.self.now.plan in let limit = c.args.self.now.limit in record {
      publisher = c.publish.ensures.pass;
      watcher = c.if-is_stopped.ensures.watcher;
      count = count_more _ _ _ _ c.requires.count more;
      few = omega (arith, below);
      room = c.requires.room;
      seen = λ is. c.if-is_stopped.ensures.seen refl;
      jobs = jobs_step plan limit plan.first c.args.self.now.first c.args.self.now.index _ _ (length (published c.args.self.now.publisher) + 1, c.job_of-job.result) c.requires.jobs more c.requires.count refl job.index c.requires.first_is
          (job.bounds ∙ ap (bounds_for plan limit c.args.self.now.first) (sym job.start));
      first_is = behind_more plan.first _ _ _ more;
    }

pub returns-clause-ready : goal.returns-clause-ready
returns-clause-ready g c =
    let more = c.publish.ensures.published in let job = c.job_of-job.ensures in let below = c.if-self-2.false in let plan = c.args.self.now.plan in let limit = c.args.self.now.limit in record {
      publisher = c.publish.ensures.pass;
      watcher = c.if-is_stopped.ensures.watcher;
      count = count_more _ _ _ _ c.requires.count more;
      few = omega (arith, below);
      room = c.requires.room;
      seen = λ is. c.if-is_stopped.ensures.same refl ∙ c.requires.seen is;
      jobs = jobs_step plan limit plan.first c.args.self.now.first c.args.self.now.index _ _ (length (published c.args.self.now.publisher) + 1, c.job_of-job.result) c.requires.jobs more c.requires.count refl job.index c.requires.first_is
          (job.bounds ∙ ap (bounds_for plan limit c.args.self.now.first) (sym job.start));
      first_is = behind_more plan.first _ _ _ more;
    }

pub returns-then-self-3-clause-taken : goal.returns-then-self-3-clause-taken
returns-then-self-3-clause-taken g c = let full = c.if-self-3.true in (inl (omega (arith, full)), inl (offered _ _ c.job_of-job.result _ _ c.args.next c.args.hints c.publish.ensures.published (c.job_of-job.ensures.start ∙ c.replace-start.ensures.value) c.job_of-job.ensures.hints c.replace-start.ensures.after))

pub returns-then-is_stopped-clause-taken : goal.returns-then-is_stopped-clause-taken
returns-then-is_stopped-clause-taken g c = (inr refl, inl (offered _ _ c.job_of-job.result _ _ c.args.next c.args.hints c.publish.ensures.published (c.job_of-job.ensures.start ∙ c.replace-start.ensures.value) c.job_of-job.ensures.hints c.replace-start.ensures.after))

pub returns-clause-taken : goal.returns-clause-taken
returns-clause-taken g c = offered _ _ c.job_of-job.result _ _ c.args.next c.args.hints c.publish.ensures.published (c.job_of-job.ensures.start ∙ c.replace-start.ensures.value) c.job_of-job.ensures.hints c.replace-start.ensures.after
