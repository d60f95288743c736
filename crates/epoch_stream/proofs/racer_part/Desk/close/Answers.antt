use Rattle.std.proofs.Common.{◌∙◌}
use Rattle.epoch_stream.proofs.Jobs.{closed_whole}
use Rattle.epoch_stream.proofs.racer_part.Desk.close.Goals as goal

pub returns-clause-jobs : goal.returns-clause-jobs
returns-clause-jobs g c = let job = c.job_of-job.ensures in
    closed_whole c.args.self.plan c.args.self.limit c.args.self.index c.args.self.first c.args.self.start _ _ c.args.is_whole c.job_of-job.result c.if-not-is_whole.false
    (c.finish-2.ensures.published ∙ c.publish.ensures.published) job.index job.bounds job.start (job.hints ∙ c.none.ensures)
